-- `event add`, `event delete` and `event info` (event(n); which errors there are, their order and the limits are this
-- project's own rules).
use Rattle.std.specs.Prelude.{ℕ, ◌&&◌, nat_le, if◌then◌else◌, List, [], ◌∷◌, map, length, Result, Ok, Err}
use Rattle.tks_text.specs.declared.fault.ErrorNumber.TheVariants.{BadSequence}
use Rattle.tks_text.specs.declared.limits.Limits.{Limits}
use Rattle.tks_tcl.specs.Cause.{Cause, Fault, OverLimit, after, about, value_or_fault, wrong_words}
use Rattle.tks_list.specs.Quoting.{joined}
use Rattle.tks_event.specs.Kinds.{is_virtual}
use Rattle.tks_event.specs.Canonical.{canonical, virtual_text}
use Rattle.tks_event.specs.Reading.{one_pattern_of, sequence_of}
use Rattle.tks_event.specs.declared.pattern.Pattern.{Pattern}
use Rattle.tks_event.specs.declared.pattern.Repeated.{Repeated}
use Rattle.tks_bind.specs.VirtualEvents.{is_of_name, sequences_of}
use Rattle.tks_bind.specs.declared.virtual_event.VirtualEvent.{VirtualEvent}
use Rattle.tks_limits.specs.Within.{sequences_fit}
use Rattle.tks_state.specs.World.{World, with_virtual, without_virtual, without_virtual_sequence}
use Rattle.tks_cmd.specs.Changes.{Changed, silent, each}

-- ---- words

-- the error about a text that is no sequence where one is wanted
abbrev pub bad_sequence : {X : Type 0} → List ℕ → Result X Cause
bad_sequence text = Err (Fault (about BadSequence text))

-- the name of a virtual event, where the pattern is one
abbrev pub name_in : List ℕ → Repeated → Result (List ℕ) Cause
name_in text r = if is_virtual r.pattern.kind then Ok r.pattern.detail else bad_sequence text

-- the name that a text has between double brackets
abbrev pub name_read : List ℕ → Result (List ℕ) Cause
name_read text = after (value_or_fault (one_pattern_of text)) (name_in text)

-- a virtual event is met by sequences of physical ones alone
abbrev pub physical_in : List ℕ → List Pattern → Result (List Pattern) Cause
physical_in text s = if is_of_name s then bad_sequence text else Ok s

abbrev pub physical_read : List ℕ → Result (List Pattern) Cause
physical_read text = after (value_or_fault (sequence_of text)) (physical_in text)

-- those of texts, in order
abbrev pub all_read : List (List ℕ) → Result (List (List Pattern)) Cause
all_read texts = each physical_read texts

-- ---- event add name sequence ..

-- sequences added to a virtual event, one after the other
abbrev pub with_all : List ℕ → List (List Pattern) → World → World
with_all name [] w = w
with_all name (s ∷ ss) w = with_all name ss (with_virtual name s w)

module _ (limits : Limits) where
  -- neither the list of virtual events nor that of the sequences of one passes a limit
  abbrev pub virtuals_within : List ℕ → World → Result World Cause
  virtuals_within name w =
      if nat_le (length w.virtuals) limits.items && nat_le (length (sequences_of name w.virtuals)) limits.items then Ok w else Err OverLimit

  -- sequences whose details pass no limit added to a virtual event
  abbrev pub added_all : List ℕ → List (List Pattern) → World → Result World Cause
  added_all name ss w = if sequences_fit limits ss then virtuals_within name (with_all name ss w) else Err OverLimit

  -- all words are read before the first sequence is added
  abbrev pub added : List ℕ → List (List ℕ) → World → Result World Cause
  added name texts w = after (name_read name) (λ n. after (all_read texts) (λ ss. added_all n ss w))

  abbrev pub add_does : List ℕ → List (List ℕ) → World → Result Changed Cause
  add_does command (name ∷ text ∷ texts) w = after (added name (text ∷ texts) w) silent
  add_does command words w = wrong_words command

-- ---- event delete name ?sequence ..?

-- without some sequences of a virtual event
abbrev pub without_all : List ℕ → List (List Pattern) → World → World
without_all name [] w = w
without_all name (s ∷ ss) w = without_all name ss (without_virtual_sequence name s w)

-- without the virtual event of a name, where no sequence is given, or without these sequences of it
abbrev pub deleted_from : List ℕ → List (List ℕ) → World → Result World Cause
deleted_from n [] w = Ok (without_virtual n w)
deleted_from n (text ∷ texts) w = after (all_read (text ∷ texts)) (λ ss. Ok (without_all n ss w))

abbrev pub deleted : List ℕ → List (List ℕ) → World → Result World Cause
deleted name texts w = after (name_read name) (λ n. deleted_from n texts w)

abbrev pub delete_does : List ℕ → List (List ℕ) → World → Result Changed Cause
delete_does command [] w = wrong_words command
delete_does command (name ∷ texts) w = after (deleted name texts w) silent

-- ---- event info ?name?

-- the virtual events, by their names in double brackets
abbrev pub names : List VirtualEvent → List (List ℕ)
names vs = map (λ v. virtual_text v.name) vs

abbrev pub names_text : List VirtualEvent → List ℕ
names_text vs = joined (names vs)

-- sequences in canonical spelling
abbrev pub spelled : List (List Pattern) → List (List ℕ)
spelled ss = map canonical ss

abbrev pub sequences_text : List ℕ → List VirtualEvent → List ℕ
sequences_text name vs = joined (spelled (sequences_of name vs))

abbrev pub info_does : List ℕ → List (List ℕ) → World → Result Changed Cause
info_does command [] w = Ok (names_text w.virtuals, w)
info_does command (name ∷ []) w = after (name_read name) (λ n. Ok (sequences_text n w.virtuals, w))
info_does command words w = wrong_words command
