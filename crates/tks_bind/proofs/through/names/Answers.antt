use Rattle.std.proofs.Common.{◌≡◌, Some, None, sym, ap, ◌∙◌}
use Rattle.std.specs.Prelude.{option_copied}
use Rattle.std.specs.FinMap as map
use Rattle.tks_share.specs.Names.{order}
use Rattle.tks_bind.specs.Endings.{ending_seen}
use Rattle.tks_bind.specs.Groups.{mapped, map_in}
use Rattle.tks_bind.proofs.through.names.Goals as goal

pub returns-in-Some : goal.returns-in-Some
returns-in-Some c =
    let e = ending_seen c.args.ending in
    let there : map.get c.args.groups.now e.kind ≡ Some c.in-Some.details.now = sym c.get.ensures ∙ ap option_copied c.in-Some.is in
    ap mapped c.get-in-Some.ensures ∙ ap (λ o. map_in (mapped o) e.detail) (sym there)

pub returns-in-None : goal.returns-in-None
returns-in-None c =
    let e = ending_seen c.args.ending in
    let none : map.get c.args.groups.now e.kind ≡ None = sym c.get.ensures ∙ ap option_copied c.in-None.is in
    sym (ap (λ o. map_in (mapped o) e.detail) none ∙ ap mapped (map.get-empty order e.detail))
