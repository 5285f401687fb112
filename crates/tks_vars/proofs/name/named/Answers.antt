use Rattle.std.proofs.Common.{◌≡◌, Some, option_map, sym, ap, ◌∙◌, rules}
use Rattle.tks_vars.specs.Names.{closed}
use Rattle.tks_vars.specs.View.{pair_seen}
use Rattle.tks_vars.proofs.Spelled.{named_parts, named_closed}
use Rattle.tks_vars.proofs.name.named.Goals as goal

pub returns-in-Some-halves : goal.returns-in-Some-halves
returns-in-Some-halves c =
    let text = c.args.text.now in
    let is : closed text ≡ Some c.in-Some.inside.now = search rules in
    let parts = sym c.halves.ensures ∙ ap (option_map pair_seen) c.in-Some-halves.is in
    c.element_named.ensures ∙ sym (named_closed text c.in-Some.inside.now is ∙ ap (named_parts text) parts)

pub returns-in-None : goal.returns-in-None
returns-in-None c =
    let text = c.args.text.now in
    let is : closed text ≡ Some c.in-Some.inside.now = search rules in
    let parts = sym c.halves.ensures ∙ ap (option_map pair_seen) c.in-None.is in
    ap Some c.whole-in-None.ensures ∙ sym (named_closed text c.in-Some.inside.now is ∙ ap (named_parts text) parts)
