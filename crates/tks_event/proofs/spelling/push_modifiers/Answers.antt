use Rattle.std.proofs.Common.{ℕ, ◌++◌, ◌+◌, List, append_assoc, drop, sym, ap, ◌∙◌}
use Rattle.std.proofs.lemmas.List.{drop_more}
use Rattle.tks_event.specs.Canonical.{modifiers_text}
use Rattle.tks_event.specs.Modifiers.{all_modifiers}
use Rattle.tks_event.specs.declared.modifiers.Modifier.TheVariants as modifier
use Rattle.tks_event.proofs.spelling.push_modifiers.Goals as goal

pub loop-modifier-preserved : goal.loop-modifier-preserved
loop-modifier-preserved c =
    let i = c.loop-modifier.modifier-index in
    let set = c.args.set in
    let e = drop_more all_modifiers i modifier.Shift c.loop-modifier-test.true in
    ap (λ (t : List ℕ). t ++ modifiers_text set (drop (i + 1) all_modifiers)) c.in_ok-push_modifier.ensures
    ∙ append_assoc c.loop-modifier.text _ (modifiers_text set (drop (i + 1) all_modifiers))
    ∙ ap (λ ms. c.loop-modifier.text ++ modifiers_text set ms) (sym e)
    ∙ c.loop-modifier.invariant
