-- Virtual events (event(n), `event add`, `event delete`, `event info`).
use Rattle.std.specs.Prelude.{ℕ, ◌||◌, Bool, false, if◌then◌else◌, List, [], ◌∷◌, ◌++◌}
use Rattle.tks_text.specs.Text.{same_text}
use Rattle.tks_event.specs.Kinds.{is_virtual}
use Rattle.tks_event.specs.Equality.{equal_patterns}
use Rattle.tks_event.specs.declared.pattern.Pattern.{Pattern}
use Rattle.tks_bind.specs.declared.virtual_event.VirtualEvent.{VirtualEvent}

-- whether it is the sequence of a virtual event
abbrev pub is_of_name : List Pattern → Bool
is_of_name [] = false
is_of_name (p ∷ ps) = is_virtual p.kind

abbrev pub is_named : List ℕ → VirtualEvent → Bool
is_named name v = same_text v.name name

abbrev pub has_sequence : List Pattern → List (List Pattern) → Bool
has_sequence sequence [] = false
has_sequence sequence (s ∷ ss) = equal_patterns s sequence || has_sequence sequence ss

-- the sequences by which a virtual event is met
abbrev pub sequences_of : List ℕ → List VirtualEvent → List (List Pattern)
sequences_of name [] = []
sequences_of name (v ∷ vs) = if is_named name v then v.sequences else sequences_of name vs

-- a sequence that is there stays where it is, another one comes last
abbrev pub with_sequence : List Pattern → VirtualEvent → VirtualEvent
with_sequence sequence v = if has_sequence sequence v.sequences then v else record v { sequences = v.sequences ++ sequence ∷ [] }

-- `event add`: a name that is not there comes last
abbrev pub added : List ℕ → List Pattern → List VirtualEvent → List VirtualEvent
added name sequence [] = record { name = name; sequences = sequence ∷ [] } ∷ []
added name sequence (v ∷ vs) = if is_named name v then with_sequence sequence v ∷ vs else v ∷ added name sequence vs

-- `event delete` of a name
abbrev pub deleted : List ℕ → List VirtualEvent → List VirtualEvent
deleted name [] = []
deleted name (v ∷ vs) = if is_named name v then vs else v ∷ deleted name vs

abbrev pub other_sequences : List Pattern → List (List Pattern) → List (List Pattern)
other_sequences sequence [] = []
other_sequences sequence (s ∷ ss) = if equal_patterns s sequence then other_sequences sequence ss else s ∷ other_sequences sequence ss

-- a name that is left without sequences goes
abbrev pub with_sequences : VirtualEvent → List (List Pattern) → List VirtualEvent → List VirtualEvent
with_sequences v [] vs = vs
with_sequences v (s ∷ ss) vs = record v { sequences = s ∷ ss } ∷ vs

-- `event delete` of a sequence of a name
abbrev pub deleted_sequence : List ℕ → List Pattern → List VirtualEvent → List VirtualEvent
deleted_sequence name sequence [] = []
deleted_sequence name sequence (v ∷ vs) = if is_named name v then with_sequences v (other_sequences sequence v.sequences) vs else v ∷ deleted_sequence name sequence vs
