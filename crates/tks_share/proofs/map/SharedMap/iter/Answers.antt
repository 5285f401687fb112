use Rattle.std.proofs.Common.{sym, ◌∙◌}
use Rattle.tks_share.proofs.Mapped.{entries_are}
use Rattle.tks_share.proofs.map.SharedMap.iter.Goals as goal

pub returns : goal.returns
returns g c = c.of.ensures ∙ sym (entries_are c.self.inside.tree c.args.self.now c.self.view_is c.self.invariant.0)
