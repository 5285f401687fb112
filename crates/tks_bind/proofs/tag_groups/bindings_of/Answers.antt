use Rattle.std.proofs.Common.{rules, ◌≡◌, None, Some, sym, ap, subst, ◌∙◌}
use Rattle.std.specs.FinMap as map
use Rattle.tks_bind.specs.Groups.{mapped, map_in}
use Rattle.tks_bind.specs.Tagged.{AreOf, all_in}
use Rattle.tks_bind.proofs.Tagged.{all_tagged, none_tagged}
use Rattle.tks_bind.proofs.tag_groups.bindings_of.Goals as goal

pub returns-in_default : goal.returns-in_default
returns-in_default c bs groups =
    let none : map.get c.args.tags.now c.args.tag.now ≡ None = search rules in
    subst (AreOf c.args.tag.now bs) (sym c.new.ensures) (none_tagged c.args.tags.now c.args.tag.now bs none groups)

pub returns : goal.returns
returns c bs groups =
    let some : map.get c.args.tags.now c.args.tag.now ≡ Some c.in-Some.groups.now = search rules in
    let found : c.in_ok-found.found ≡ all_in (map_in c.args.tags.now c.args.tag.now) = c.in_ok-found.ensures ∙ ap (λ o. all_in (mapped o)) (sym some) in
    subst (AreOf c.args.tag.now bs) (sym found) (all_tagged c.args.tags.now c.args.tag.now bs groups)
