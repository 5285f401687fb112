use Rattle.std.proofs.Common.{sym, ap, ◌∙◌}
use Rattle.tks_share.specs.Names.{behind}
use Rattle.tks_share.proofs.Mapped.{entries_are}
use Rattle.tks_share.proofs.map.SharedMap.iter_behind.Goals as goal

pub returns : goal.returns
returns g c = c.behind.ensures ∙ ap (behind c.args.name.now) (sym (entries_are c.self.inside.tree c.args.self.now c.self.view_is c.self.invariant.0))
