use Rattle.std.proofs.Common.{◌≡◌, ◌++◌, drop}
use Rattle.tks_event.specs.Canonical.{modifiers_text}
use Rattle.tks_event.specs.Modifiers.{all_modifiers}
use Rattle.tks_event.proofs.spelling.push_modifiers.Given as goal

abbrev pub invariant-loop-modifier : goal.invariant-loop-modifier
invariant-loop-modifier l = l.text ++ modifiers_text l.set (drop l.modifier-index l.modifier-items) ≡ l.fn.text ++ modifiers_text l.set all_modifiers
