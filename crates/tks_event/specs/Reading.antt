-- The sequence that a text spells, read from left to right.
use Rattle.std.specs.Prelude.{ℕ, ◌-◌, Bool, true, false, ◌&&◌, ◌==◌, nat_le, List, [], ◌∷◌, length, take, drop, Option, Some, None, Result, Ok, Err, if◌then◌else◌}
use Rattle.std.specs.List.{prefix_len, list_all}
use Rattle.std.specs.Option.{option_map}
use Rattle.tks_text.specs.Fault.{fault_about}
use Rattle.tks_text.specs.Integer.{is_space}
use Rattle.tks_text.specs.Run.{Step, stop, fails, takes, run}
use Rattle.tks_text.specs.declared.fault.ErrorNumber.TheVariants as number
use Rattle.tks_text.specs.declared.fault.ScriptFault.{ScriptFault}
use Rattle.tks_event.specs.Keysyms.{is_keysym, keysym_of}
use Rattle.tks_event.specs.Modifiers.{modifier_named}
use Rattle.tks_event.specs.Kinds.{kind_named, is_button, is_detail}
use Rattle.tks_event.specs.Sequences.{all_events, max_events, is_name_char, is_some_text}
use Rattle.tks_event.specs.Spelling.{is_separator, ends_word, times_named, once, with_more, repeated, is_bare, virtual_one}
use Rattle.tks_event.specs.declared.kind.Kind.{Kind}
use Rattle.tks_event.specs.declared.kind.Kind.TheVariants as kind
use Rattle.tks_event.specs.declared.modifiers.Modifier.{Modifier}
use Rattle.tks_event.specs.declared.pattern.Pattern.{Pattern}
use Rattle.tks_event.specs.declared.pattern.Repeated.{Repeated}

-- ---- words

-- the words up to a `>`, and what stands behind it. Where a separator or the `>` stands, a word that is there is empty;
-- none is between the last separators and the `>`
abbrev pub Words : Type 0
Words = Option (List (List ℕ) × List ℕ)

abbrev pub with_char : ℕ → Words → Words
with_char c None = None
with_char c (Some ([], v)) = None
with_char c (Some (w ∷ ws, v)) = Some ((c ∷ w) ∷ ws, v)

abbrev pub with_word : List ℕ → Words → Words
with_word w None = None
with_word w (Some x) = Some (w ∷ x.0, x.1)

-- whether no word begins here, since a separator or a `>` stands here
abbrev pub begins_no_word : List ℕ → Bool
begins_no_word [] = false
begins_no_word (c ∷ t) = ends_word c

unfoldable pub words_at : List ℕ → Words
words_at [] = None
words_at (c ∷ t) =
    if c == 62 then Some ([] ∷ [], t)
    else (if is_separator c then (if begins_no_word t then words_at t else with_word [] (words_at t))
    else with_char c (words_at t))

-- ---- what words say

-- a word that stands alone: a type or a detail
abbrev pub only : Option Kind → List ℕ → Option Repeated
only (Some k) w = Some (once k 0 [])
only None w = if is_button w then Some (once kind.ButtonPress 0 w) else (if is_keysym w then Some (once kind.KeyPress 0 w) else None)

-- a type and its detail
abbrev pub both : Option Kind → List ℕ → Option Repeated
both None d = None
both (Some k) d = if is_detail k d then Some (once k 0 d) else None

abbrev pub named_by : List ℕ → List (List ℕ) → Option Repeated
named_by w [] = only (kind_named w) w
named_by w (d ∷ []) = both (kind_named w) d
named_by w (d ∷ e ∷ ws) = None

abbrev pub repeated_once : ℕ → Option Repeated → Option Repeated
repeated_once n None = None
repeated_once n (Some r) = if r.times == 1 then Some (repeated n r) else None

-- a modifier or a repeat word and what the words behind it say, or what the words say themselves
abbrev pub said_by : Option Modifier → Option ℕ → Option Repeated → Option Repeated → Option Repeated
said_by (Some m) n here behind = option_map (with_more m) behind
said_by None (Some n) here behind = repeated_once n behind
said_by None None here behind = here

unfoldable pub said : List (List ℕ) → Option Repeated
said [] = None
said (w ∷ ws) = said_by (modifier_named w) (times_named w) (named_by w ws) (said ws)

-- ---- patterns

abbrev pub then_behind : Option Repeated → List ℕ → Option (Repeated × List ℕ)
then_behind None v = None
then_behind (Some r) v = Some (r, v)

abbrev pub in_words : Words → Option (Repeated × List ℕ)
in_words None = None
in_words (Some x) = then_behind (said x.0) x.1

abbrev pub pressed : Option (List ℕ) → Option Repeated
pressed None = None
pressed (Some k) = Some (once kind.KeyPress 0 k)

-- the pattern of physical events at the front of a text, and what stands behind it
unfoldable pub pattern_at : List ℕ → Option (Repeated × List ℕ)
pattern_at [] = None
pattern_at (c ∷ t) =
    if c == 60 then in_words (words_at t)
    else (if is_bare c then then_behind (pressed (keysym_of c)) t
    else None)

-- ---- virtual events

-- a name that two `>` close, and what stands behind them
abbrev pub name_closed : List ℕ → List ℕ → Option (List ℕ × List ℕ)
name_closed n [] = None
name_closed n (c ∷ []) = None
name_closed n (c ∷ d ∷ v) = if is_some_text n && ((c == 62) && (d == 62)) then Some (n, v) else None

abbrev pub name_at : List ℕ → Option (List ℕ × List ℕ)
name_at t = let n = prefix_len is_name_char t in name_closed (take n t) (drop n t)

-- the name of the virtual event whose pattern stands at the front of a text, and what stands behind it
unfoldable pub virtual_at : List ℕ → Option (List ℕ × List ℕ)
virtual_at [] = None
virtual_at (c ∷ []) = None
virtual_at (c ∷ d ∷ t) = if (c == 60) && (d == 60) then name_at t else None

-- the name, where what stands behind it may do so
abbrev pub named_before : (List ℕ → Bool) → Option (List ℕ × List ℕ) → Option (List ℕ)
named_before ends None = None
named_before ends (Some x) = if ends x.1 then Some x.0 else None

-- nothing but white space
abbrev pub is_blank_text : List ℕ → Bool
is_blank_text v = list_all is_space v

-- nothing
abbrev pub is_end : List ℕ → Bool
is_end [] = true
is_end (c ∷ v) = false

-- ---- a pattern alone

abbrev pub alone : Option (Repeated × List ℕ) → Option Repeated
alone None = None
alone (Some (r, [])) = Some r
alone (Some (r, c ∷ v)) = None

abbrev pub virtual_or : Option (List ℕ) → Option Repeated → Option Repeated
virtual_or (Some n) other = Some (record { pattern = virtual_one n; times = 1 })
virtual_or None other = other

-- the pattern that a text spells, if it spells one
unfoldable pub pattern_of : List ℕ → Option Repeated
pattern_of t = virtual_or (named_before is_end (virtual_at t)) (alone (pattern_at t))

-- ---- sequences

abbrev pub taken_pattern : ℕ → Option (Repeated × List ℕ) → Step (Unit {0}) (List Repeated)
taken_pattern n None = fails tt
taken_pattern n (Some x) = takes (λ rs. x.0 ∷ rs) (n - length x.1)

unfoldable pub pattern_step : List ℕ → Step (Unit {0}) (List Repeated)
pattern_step [] = stop
pattern_step (c ∷ t) = if is_space c then takes (λ rs. rs) 0 else taken_pattern (length t) (pattern_at (c ∷ t))

abbrev pub without_fault : List Repeated → Option (Unit {0}) → Option (List Repeated)
without_fault rs None = Some rs
without_fault rs (Some f) = None

-- the patterns of physical events that a text is, with white space around them
unfoldable pub patterns_in : List ℕ → Option (List Repeated)
patterns_in t = let r = run [] pattern_step 0 t in without_fault r.items r.fault

abbrev pub some_events : Option (List Repeated) → Option (List Pattern)
some_events None = None
some_events (Some []) = None
some_events (Some (r ∷ rs)) = Some (all_events (r ∷ rs))

abbrev pub virtual_or_events : Option (List ℕ) → Option (List Pattern) → Option (List Pattern)
virtual_or_events (Some n) other = Some (virtual_one n ∷ [])
virtual_or_events None other = other

-- the list of patterns that a text spells, if it spells one, however long
unfoldable pub spelled_list : List ℕ → Option (List Pattern)
spelled_list t = virtual_or_events (named_before is_blank_text (virtual_at (drop (prefix_len is_space t) t))) (some_events (patterns_in t))

-- ---- answers

abbrev pub within_max : List ℕ → Option (List Pattern) → Result (List Pattern) ScriptFault
within_max t None = Err (fault_about number.BadSequence t)
within_max t (Some ps) = if nat_le (length ps) max_events then Ok ps else Err (fault_about number.TooManyEvents t)

-- the sequence that a text spells: at most eight events, or an error that is about the text
unfoldable pub sequence_of : List ℕ → Result (List Pattern) ScriptFault
sequence_of t = within_max t (spelled_list t)

abbrev pub or_bad : List ℕ → Option Repeated → Result Repeated ScriptFault
or_bad t None = Err (fault_about number.BadSequence t)
or_bad t (Some r) = Ok r

-- the pattern that a text spells, or an error that is about the text
unfoldable pub one_pattern_of : List ℕ → Result Repeated ScriptFault
one_pattern_of t = or_bad t (pattern_of t)
