use Rattle.tks_pack.proofs.Order.{in_order}
use Rattle.tks_pack.proofs.laws.windows_stand_in_order.Goals as goal

pub returns : goal.returns
returns c = λ size container contents. in_order size contents (record { start = 0; length = container.width }) (record { start = 0; length = container.height })
