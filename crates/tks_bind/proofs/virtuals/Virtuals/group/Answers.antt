use Rattle.std.proofs.Common.{ap, subst, sym, ◌∙◌}
use Rattle.std.specs.Prelude.{option_copied}
use Rattle.std.specs.FinMap as map
use Rattle.tks_bind.specs.Endings.{ending_seen}
use Rattle.tks_bind.specs.Groups.{Tells}
use Rattle.tks_bind.specs.Tagged.{all_listed}
use Rattle.tks_bind.proofs.Leading.{tells_all}
use Rattle.tks_bind.proofs.Tagged.{all_mapped}
use Rattle.tks_bind.proofs.virtuals.Virtuals.group.Goals as goal

pub returns : goal.returns
returns c =
    let vs = c.self.inside.events in
    let e = ending_seen c.args.ending in
    let all = all_mapped (option_copied c.names.result) ∙ ap (λ m. all_listed (map.entries m)) c.names.ensures in
    rw (← c.self.view_is) (subst (Tells vs e) (sym all) (tells_all c.self.inside.groups vs c.self.invariant.groups e))
