-- By what sequences are found (this project's own rule).
use Rattle.std.specs.Prelude.{ℕ, Bool, ◌&&◌, List, [], ◌∷◌, codes, Option, Some, None}
use Rattle.tks_text.specs.Text.{same_text}
use Rattle.tks_event.specs.Event.{Event}
use Rattle.tks_event.specs.Kinds.{kind_name}
use Rattle.tks_event.specs.declared.pattern.Pattern.{Pattern}
use Rattle.tks_bind.specs.declared.binding.Binding.{Binding}
use Rattle.tks_bind.specs.declared.ending.Ending.{Ending as Held}
use Rattle.tks_bind.specs.Occurs.{turned}
use Rattle.tks_bind.specs.Chosen.{name_of}

-- what is looked for by: the name of a kind and a detail, which may be empty; or `<<>>` and the name of a virtual event
pub record Key : Type 0 where
  pub kind : List ℕ
  pub detail : List ℕ

-- what contracts see of the code's endings
abbrev pub ending_seen : Held → Key
ending_seen e = record { kind = e.kind.now; detail = e.detail.now }

abbrev pub same_ending : Key → Key → Bool
same_ending e f = same_text e.kind f.kind && same_text e.detail f.detail

-- that of a virtual event
abbrev pub named : List ℕ → Key
named name = record { kind = codes "<<>>"; detail = name }

-- that of an event, with its detail and without one
abbrev pub of_event : Event → Key
of_event e = record { kind = kind_name e.kind; detail = e.detail }

abbrev pub bare : Event → Key
bare e = record { kind = kind_name e.kind; detail = [] }

-- that of the last pattern, which is the first one here
abbrev pub first_ending : List Pattern → Key
first_ending [] = record { kind = []; detail = [] }
first_ending (p ∷ ps) = record { kind = kind_name p.kind; detail = p.detail }

abbrev pub last_ending : List Pattern → Key
last_ending sequence = first_ending (turned sequence [])

-- that of a sequence: of the virtual event that it stands for, or of its last pattern
abbrev pub ending_by : Option (List ℕ) → List Pattern → Key
ending_by None sequence = last_ending sequence
ending_by (Some name) sequence = named name

abbrev pub ending_of : List Pattern → Key
ending_of sequence = ending_by (name_of sequence) sequence

-- whether a tag and a sequence are found by a tag and an ending
abbrev pub is_found_by : List ℕ → Key → List ℕ → List Pattern → Bool
is_found_by tag e other sequence = same_text tag other && same_ending e (ending_of sequence)

abbrev pub is_under : List ℕ → Key → Binding → Bool
is_under tag e b = is_found_by tag e b.tag b.sequence
