-- What holds of all bindings and of all virtual events (bind(n), event(n); that bindings have numbers is this project's own
-- rule).
use Rattle.std.specs.Prelude.{ℕ, ◌≡◌, ◌==◌, ◌≤◌, ◌^◌, Bool, true, false, ◌&&◌, ◌||◌, not, nat_lt, List, [], ◌∷◌}
use Rattle.std.specs.List.{AllByRecursion, list_all}
use Rattle.tks_text.specs.Text.{same_text}
use Rattle.tks_event.specs.Equality.{equal_patterns}
use Rattle.tks_event.specs.Sequences.{is_name}
use Rattle.tks_event.specs.declared.pattern.Pattern.{Pattern}
use Rattle.tks_bind.specs.declared.binding.Binding.{Binding}
use Rattle.tks_bind.specs.declared.virtual_event.VirtualEvent.{VirtualEvent}
use Rattle.tks_bind.specs.Binding.{Content, is_for}
use Rattle.tks_bind.specs.Distinct.{all_differ}
use Rattle.tks_bind.specs.VirtualEvents.{is_of_name}

-- whether two bindings have other numbers, and other tags or other sequences
abbrev pub differ : Binding → Binding → Bool
differ b c = not (b.number == c.number) && not (is_for b.tag b.sequence c)

-- whether numbers are below the next one, and bindings differ
abbrev pub are_bindings : ℕ → List Binding → Bool
are_bindings next bs = list_all (λ b. nat_lt b.number next) bs && all_differ differ bs

-- what holds of bindings and of the next number
pub record AreBindings (c : Content) : Type 0 where
  pub next : c.next ≤ 2 ^ 62
  pub bindings : are_bindings c.next c.bindings ≡ true

-- whether all but the one of a tag and a sequence have lesser numbers than this
abbrev pub others_are_below : ℕ → List ℕ → List Pattern → List Binding → Bool
others_are_below number tag sequence bs = list_all (λ b. is_for tag sequence b || nat_lt b.number number) bs

-- ---- virtual events

-- whether two sequences are not the same
abbrev pub sequences_differ : List Pattern → List Pattern → Bool
sequences_differ s t = not (equal_patterns s t)

abbrev pub is_some : List (List Pattern) → Bool
is_some [] = false
is_some (s ∷ ss) = true

-- whether there are sequences, and they differ
abbrev pub is_met : VirtualEvent → Bool
is_met v = is_some v.sequences && all_differ sequences_differ v.sequences

-- whether none is the sequence of a virtual event
abbrev pub are_physical : List (List Pattern) → Bool
are_physical ss = list_all (λ s. not (is_of_name s)) ss

-- whether the name is one that a virtual event may have, and there are sequences of physical events, which differ
abbrev pub is_virtual_event : VirtualEvent → Bool
is_virtual_event v = is_name v.name && (are_physical v.sequences && is_met v)

-- whether two virtual events have other names
abbrev pub names_differ : VirtualEvent → VirtualEvent → Bool
names_differ v w = not (same_text v.name w.name)

-- whether names differ
abbrev pub are_virtuals : List VirtualEvent → Bool
are_virtuals vs = all_differ names_differ vs

-- what holds of virtual events
pub record AreVirtuals (vs : List VirtualEvent) : Type 0 where
  pub names : are_virtuals vs ≡ true
  pub legal : AllByRecursion (λ v. is_virtual_event v ≡ true) vs
