-- The bindings before any input, line by line.
use Rattle.std.specs.Prelude.{◌≡◌, List, [], ◌∷◌, ◌++◌, codes, Ok}
use Rattle.tks_event.specs.Reading.{sequence_of}
use Rattle.tks_bind.specs.declared.binding.Binding.{Binding}
use Rattle.tks_state.specs.ClassBindings.{FirstBinding, presses, typing, entry_keys, text_keys, invoking, traversal}

-- what is bound before any input, in order
abbrev pub first_table : List FirstBinding
first_table =
    presses ++ typing (codes "Entry") ++ typing (codes "Text") ++ entry_keys ++ text_keys ++ invoking (codes "Button") ++ invoking (codes "Checkbutton") ++ traversal

-- bindings, one for each line of a table: its tag, the sequence that its text is read as, its script
abbrev pub AreOf : List FirstBinding → List Binding → Type 0
AreOf [] [] = Unit {0}
AreOf [] (b ∷ bs) = ⊥
AreOf (w ∷ ws) [] = ⊥
AreOf (w ∷ ws) (b ∷ bs) = (b.tag ≡ w.tag) × (sequence_of w.sequence ≡ Ok b.sequence) × (b.script ≡ w.script) × AreOf ws bs
