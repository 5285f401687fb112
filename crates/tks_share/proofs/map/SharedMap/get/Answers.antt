use Rattle.std.proofs.Common.{sym, ◌∙◌}
use Rattle.tks_share.proofs.Mapped.{found}
use Rattle.tks_share.proofs.map.SharedMap.get.Goals as goal

pub returns : goal.returns
returns g c = (rw c.new.ensures at c.get.ensures c.self.invariant.0) ∙ sym (found c.self.inside.tree c.args.self.now c.self.view_is c.self.invariant.0 c.args.name.now)
