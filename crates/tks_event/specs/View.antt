-- What contracts see of what the code reads.
use Rattle.std.specs.Prelude.{bit_or, not, ◌&&◌, ◌-◌, ◌≡◌, ◌==◌, ◌||◌, ◌⊎◌, ◌+◌, ◌<◌, ◌≤◌, nat_lt, ℕ, Bool, true, false, List, [], ◌∷◌, ◌++◌, length, drop, Result, Ok, Err, Option, Some, None, if◌then◌else◌}
use Rattle.std.specs.Option.{option_map}
use Rattle.std.specs.Borrow.{Bor}
use Rattle.std.specs.List.{prefix_len}
use Rattle.tks_event.specs.Keysyms.{keysym_of}
use Rattle.tks_event.specs.Modifiers.{modifier_named, with_modifier}
use Rattle.tks_event.specs.Sequences.{events_of, max_events}
use Rattle.tks_event.specs.Spelling.{is_separator, times_named, SpellsPattern, Spells}
use Rattle.tks_text.specs.Fault.{fault_about}
use Rattle.tks_text.specs.declared.fault.ErrorNumber.TheVariants as number
use Rattle.tks_text.specs.declared.fault.Failure.{Failure}
use Rattle.tks_text.specs.declared.fault.Failure.TheVariants.{Script, NoMemory}
use Rattle.tks_event.specs.Reading.{Words, with_word, words_at, named_by, then_behind}
use Rattle.tks_event.specs.declared.kind.Kind.{Kind}
use Rattle.tks_event.specs.declared.lead.Lead.{Lead}
use Rattle.tks_event.specs.declared.modifiers.Modifier.{Modifier}
use Rattle.tks_event.specs.declared.words.Word.{Word}
use Rattle.tks_event.specs.declared.reading.ParsedPattern.{ParsedPattern}
use Rattle.tks_event.specs.declared.collected.Collected.{Collected}
use Rattle.tks_event.specs.declared.pattern.Pattern.{Pattern}
use Rattle.tks_event.specs.declared.pattern.Repeated.{Repeated}

-- a word, and the words behind it
abbrev pub words_from : Option Word → Words
words_from None = None
words_from (Some w) = if w.is_last then Some (w.text.now ∷ [], w.rest.now) else with_word w.text.now (words_at w.rest.now)

-- a word before what stands behind its separators: a `>`, or another word
abbrev pub word_before : List ℕ → List ℕ → Words
word_before w [] = None
word_before w (c ∷ u) = if c == 62 then Some (w ∷ [], u) else with_word w (words_at (c ∷ u))

-- a word before a text, which ends at a `>`, at separators, or not at all
abbrev pub word_then : List ℕ → List ℕ → Words
word_then w [] = None
word_then w (c ∷ u) = if c == 62 then Some (w ∷ [], u) else word_before w (drop (prefix_len is_separator u) u)

-- a pattern as it is written
abbrev pub pattern_seen : ParsedPattern → Repeated
pattern_seen w = record { pattern = record { near = false; kind = w.kind; modifiers = w.modifiers; detail = w.detail.now }; times = w.times }

-- the same, and what stands behind it
abbrev pub pattern_seen_then : Option (ParsedPattern × Bor (List ℕ)) → Option (Repeated × List ℕ)
pattern_seen_then o = option_map (λ x. (pattern_seen x.0, x.1.now)) o

-- ---- modifiers and repeat words

abbrev pub no_lead : Lead
no_lead = record { modifiers = 0; times = 1 }

abbrev pub added_by : Lead → Option Modifier → Option ℕ → Option Lead
added_by lead (Some m) n = Some (record { modifiers = with_modifier m lead.modifiers; times = lead.times })
added_by lead None None = None
added_by lead None (Some n) = if lead.times == 1 then Some (record { modifiers = lead.modifiers; times = n }) else None

-- those words and one more, where it is a modifier or the first repeat word
abbrev pub added : Lead → List ℕ → Option Lead
added lead w = added_by lead (modifier_named w) (times_named w)

-- the modifiers and the repeat word of a pattern with those before it, where there is no other repeat word
abbrev pub joined_lead : Lead → ℕ → ℕ → Option Lead
joined_lead lead set times =
    if lead.times == 1 then Some (record { modifiers = bit_or set lead.modifiers; times = times })
    else (if times == 1 then Some (record { modifiers = bit_or set lead.modifiers; times = lead.times }) else None)

abbrev pub led_pattern : Lead → Kind → List ℕ → Repeated
led_pattern lead k d = record { pattern = record { near = false; kind = k; modifiers = lead.modifiers; detail = d }; times = lead.times }

-- a pattern with modifiers and a repeat word before it
abbrev pub under_lead : Repeated → Lead → Repeated
under_lead r lead =
    record {
      pattern = record { near = r.pattern.near; kind = r.pattern.kind; modifiers = lead.modifiers; detail = r.pattern.detail };
      times = lead.times;
    }

abbrev pub with_lead : Lead → Repeated → Option Repeated
with_lead lead r = option_map (under_lead r) (joined_lead lead r.pattern.modifiers r.times)

abbrev pub led : Lead → Option (Repeated × List ℕ) → Option (Repeated × List ℕ)
led lead None = None
led lead (Some x) = then_behind (with_lead lead x.0) x.1

-- what a word that is no modifier and no repeat word says with the words behind it
abbrev pub typed_words : List ℕ → Words → Option (Repeated × List ℕ)
typed_words w None = None
typed_words w (Some x) = then_behind (named_by w x.0) x.1

-- the keysym of a text of one character
abbrev pub keysym_of_text : List ℕ → Option (List ℕ)
keysym_of_text [] = None
keysym_of_text (c ∷ []) = keysym_of c
keysym_of_text (c ∷ d ∷ t) = None

abbrev pub bytes_seen : Option (Bor (List ℕ)) → Option (List ℕ)
bytes_seen o = option_map (λ b. b.now) o

-- a name, and what stands behind it
abbrev pub name_then : Option (Bor (List ℕ) × Bor (List ℕ)) → Option (List ℕ × List ℕ)
name_then o = option_map (λ x. (x.0.now, x.1.now)) o

-- ---- patterns that are collected

-- those up to the most that a sequence may have, and whether there were more
pub record Kept : Type 0 where
  pub items : List Pattern
  pub is_too_long : Bool

abbrev pub kept : Collected → Kept
kept c = record { items = c.patterns.items; is_too_long = c.is_too_long }

abbrev pub none_kept : Kept
none_kept = record { items = []; is_too_long = false }

-- with more patterns behind them
abbrev pub kept_with : Kept → List Pattern → Kept
kept_with k more =
    if k.is_too_long || nat_lt max_events (length k.items + length more) then record { items = k.items; is_too_long = true }
    else record { items = k.items ++ more; is_too_long = false }

-- whether a pattern and so many more fit in
abbrev pub room : Kept → ℕ → Bool
room k more = not k.is_too_long && nat_lt more (max_events - length k.items)

abbrev pub all_kept : Kept → List Repeated → Kept
all_kept k [] = k
all_kept k (r ∷ rs) = all_kept (kept_with k (events_of r)) rs

-- with those that are still to be read
abbrev pub kept_after : Kept → Option (List Repeated) → Option Kept
kept_after k rs = option_map (all_kept k) rs

-- the same pattern, close behind another or not
abbrev pub standing : Bool → Repeated → Pattern
standing near r = record { near = near; kind = r.pattern.kind; modifiers = r.pattern.modifiers; detail = r.pattern.detail }

-- ---- answers

-- that a sequence is what the text spells, and an error that it spells one that is too long, or none
abbrev pub SpellsSo : Result (List Pattern) Failure → List ℕ → Type 0
SpellsSo (Ok ps) t = Spells t ps × (length ps ≤ max_events)
SpellsSo (Err (Script fault)) t =
    ((fault ≡ fault_about number.TooManyEvents t) × ((ps : List Pattern) × Spells t ps × (max_events < length ps)))
    ⊎ ((fault ≡ fault_about number.BadSequence t) × ((ps : List Pattern) → ¬ Spells t ps))
SpellsSo (Err NoMemory) t = Unit {0}

-- that a pattern is the one that the text spells, and an error that it spells none
abbrev pub SpellsPatternSo : Result Repeated Failure → List ℕ → Type 0
SpellsPatternSo (Ok r) t = SpellsPattern t r
SpellsPatternSo (Err (Script fault)) t = (fault ≡ fault_about number.BadSequence t) × ((r : Repeated) → ¬ SpellsPattern t r)
SpellsPatternSo (Err NoMemory) t = Unit {0}
