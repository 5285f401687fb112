use Rattle.std.proofs.Common.{subst}
use Rattle.tks_list.specs.Growing.{IsSpelled}
use Rattle.tks_list.proofs.Grown.{takes_elements}
use Rattle.tks_list.proofs.growing.ListText.takes_elements.Goals as goal

pub returns : goal.returns
returns c = λ is_spelled. takes_elements c.args.self.now (subst IsSpelled c.self.view_is (c.self.invariant.spelled is_spelled))
