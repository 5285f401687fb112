use Rattle.tks_pack.proofs.Order.{places_inside}
use Rattle.tks_pack.proofs.laws.windows_lie_inside.Goals as goal

pub returns : goal.returns
returns c = places_inside
