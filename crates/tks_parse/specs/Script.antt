-- What a text spells, by cases on the script: the rules of Tcl(n), each beside its number there. What is said of
-- bytes outside the texts, of a depth of 32 and of a backslash at the end is this project's own.
--
-- "t is X, then v" says that X stands at the front of t, and v behind it.
use Rattle.std.specs.Prelude.{◌≡◌, ℕ, zero, suc, ◌<◌, true, false, ◌||◌, ◌==◌, List, [], ◌∷◌, ◌++◌, length, drop, ◌⊎◌, if◌then◌else◌}
use Rattle.std.specs.List.{AllByRecursion}
use Rattle.tks_text.specs.Backslash.{Escapes, is_blank}
use Rattle.tks_text.specs.Text.{is_text_byte, BeginsNot}
use Rattle.tks_text.specs.declared.fault.ScriptFault.{ScriptFault}
use Rattle.tks_parse.specs.Tree.{Script, no_command, faulty, command, Words, no_word, word, Parts, no_part, char, variable, element, nested, chars, join_scripts}
use Rattle.tks_parse.specs.Class.{is_separator, is_name_char, is_no_close_brace, ends_word_at, ends_command_at, ends_parts, is_expanded}
use Rattle.tks_parse.specs.Fault.{missing_close_brace, missing_close_quote, missing_close_bracket, text_after_close_quote, text_after_close_brace, bad_escape, too_deeply_nested, missing_close_of_variable, told, syntax_of}
use Rattle.tks_parse.specs.declared.mode.Place.{Place}
use Rattle.tks_parse.specs.declared.mode.Place.TheVariants.{Alone, Brackets}
use Rattle.tks_parse.specs.declared.mode.Mode.{Mode}
use Rattle.tks_parse.specs.declared.mode.Mode.TheVariants.{Bare, Quoted, Index}
use Rattle.tks_parse.specs.declared.syntax.Syntax.{Syntax}
use Rattle.tks_parse.specs.declared.syntax.Syntax.TheVariants.{Scripts}

-- ---- what stands between words and commands

-- 3: white space between words is spaces, tabs, and newlines that a backslash quotes (9)
pub data BlanksThen : List ℕ → List ℕ → Type 0 where
  no_blank : (v : List ℕ) → BlanksThen v v
  blank : (c : ℕ) (t v : List ℕ) → is_blank c ≡ true → BlanksThen t v → BlanksThen (c ∷ t) v
  quoted_newline : (t v : List ℕ) → BlanksThen t v → BlanksThen (92 ∷ 10 ∷ t) v

-- 10: a comment goes up to a newline that no backslash quotes, or to the end
pub data CommentThen : List ℕ → List ℕ → Type 0 where
  at_end : CommentThen [] []
  at_newline : (v : List ℕ) → CommentThen (10 ∷ v) (10 ∷ v)
  quoted : (c : ℕ) (t v : List ℕ) → CommentThen t v → CommentThen (92 ∷ c ∷ t) v
  lone_backslash : CommentThen (92 ∷ []) []
  other : (c : ℕ) (t v : List ℕ) → ((c == 10) || (c == 92)) ≡ false → CommentThen t v → CommentThen (c ∷ t) v

-- 1: commands are separated by newlines and semicolons. 10: a comment stands where a command's first character may
pub data GapThen : List ℕ → List ℕ → Type 0 where
  no_gap : (v : List ℕ) → GapThen v v
  white : (c : ℕ) (t v : List ℕ) → (is_blank c || is_separator c) ≡ true → GapThen t v → GapThen (c ∷ t) v
  quoted_newline : (t v : List ℕ) → GapThen t v → GapThen (92 ∷ 10 ∷ t) v
  comment : (t u v : List ℕ) → CommentThen t u → GapThen u v → GapThen (35 ∷ t) v

-- a command begins here, with a word's first character that is no `#`
pub record BeginsCommand (place : Place) (t : List ℕ) : Type 0 where
  pub word : ends_word_at place t ≡ false
  pub no_comment : BeginsNot (λ c. c == 35) t

-- ---- variables and braces

-- 8: the longest run of letters, digits and underscores, one or more, then v
pub record NameThen (name t v : List ℕ) : Type 0 where
  pub some : 0 < length name
  pub each : AllByRecursion (λ c. is_name_char c ≡ true) name
  pub is : t ≡ name ++ v
  pub longest : BeginsNot is_name_char v

-- 8: `{name}`, in which any characters stand but `}`
pub record BracedNameThen (name t v : List ℕ) : Type 0 where
  pub each : AllByRecursion (λ c. is_no_close_brace c ≡ true) name
  pub is : t ≡ 123 ∷ name ++ 125 ∷ v

-- 6: braces nest in a text, but for n of them that it closes; a brace that a backslash quotes isn't counted
pub data Nests : ℕ → List ℕ → Type 0 where
  nothing : Nests 0 []
  opens : (n : ℕ) (t : List ℕ) → Nests (suc n) t → Nests n (123 ∷ t)
  closes : (n : ℕ) (t : List ℕ) → Nests n t → Nests (suc n) (125 ∷ t)
  quoted : (n c : ℕ) (t : List ℕ) → Nests n t → Nests n (92 ∷ c ∷ t)
  other : (n c : ℕ) (t : List ℕ) → ((c == 123) || (c == 125) || (c == 92)) ≡ false → Nests n t → Nests n (c ∷ t)

-- 6: from behind an opening brace, a text up to the brace that closes it, then v
pub record BracedThen (inside t v : List ℕ) : Type 0 where
  pub nests : Nests 0 inside
  pub is : t ≡ inside ++ 125 ∷ v

-- 6: what stands in braces, and its value: a backslash, a newline and blanks are one space (9), any other
-- backslash stands for itself with the character behind it, and so does each other character
pub data Verbatim : List ℕ → List ℕ → Type 0 where
  nothing : Verbatim [] []
  space : (blanks t value : List ℕ) → AllByRecursion (λ c. is_blank c ≡ true) blanks → BeginsNot is_blank t → Verbatim t value → Verbatim (92 ∷ 10 ∷ blanks ++ t) (32 ∷ value)
  pair : (c : ℕ) (t value : List ℕ) → (c == 10) ≡ false → Verbatim t value → Verbatim (92 ∷ c ∷ t) (92 ∷ c ∷ value)
  lone_backslash : Verbatim (92 ∷ []) (92 ∷ [])
  other : (c : ℕ) (t value : List ℕ) → (c == 92) ≡ false → Verbatim t value → Verbatim (c ∷ t) (c ∷ value)

-- c stands for itself before u: it doesn't end the parts, begins no script (7), no escape (9), and is no `$`
-- before a name (8)
pub record StandsForItself (m : Mode) (c : ℕ) (u : List ℕ) : Type 0 where
  pub inside : ends_parts m c u ≡ false
  pub plain : ((c == 91) || (c == 92)) ≡ false
  pub no_variable : c ≡ 36 → BeginsNot (λ d. is_name_char d || (d == 123)) u

-- 9: behind a backslash, an escape for the character c, which stands in texts, then v
pub record EscapeThen (m : Mode) (c : ℕ) (t v : List ℕ) : Type 0 where
  pub inside : ends_parts m 92 t ≡ false
  pub taken : ℕ
  pub is : Escapes t c taken
  pub text : is_text_byte c ≡ true
  pub rest : drop taken t ≡ v

-- ---- scripts

-- a word from behind `{*}`, where this stands before it (5)
abbrev pub word_start : Place → List ℕ → List ℕ
word_start place t = if is_expanded place t then drop 3 t else t

-- 4: a word that begins with a quote ends at the next quote. 6: one that begins with a brace ends at the brace that
-- closes it. 3: another ends at white space or what ends a command. `Are` says that t is the word's parts, then v
abbrev pub WordThen : Parts → (Mode → List ℕ → List ℕ → Type 0) → Place → List ℕ → List ℕ → Type 0
WordThen parts Are place t v =
    ((u : List ℕ) × (t ≡ 34 ∷ u) × Are (Quoted Scripts) u (34 ∷ v))
    ⊎ (((u inside value : List ℕ) × (t ≡ 123 ∷ u) × BracedThen inside u v × Verbatim inside value × (parts ≡ chars value no_part))
    ⊎ (BeginsNot (λ c. (c == 34) || (c == 123)) t × Are (Bare place) t v))

-- d is how many brackets and parentheses may still be opened
abbrev mutual
  -- 1: the commands of a script
  pub ScriptThen : Script → ℕ → Place → List ℕ → List ℕ → Type 0
  ScriptThen no_command d place t v = GapThen t v
  ScriptThen (faulty fault) d place t v = ⊥
  ScriptThen (command words rest) d place t v =
      (x y : List ℕ) × GapThen t x × BeginsCommand place x × WordsThen words d place x y × (ends_command_at place y ≡ true) × ScriptThen rest d place y v

  -- 2: the words of a command. 5: a word behind `{*}` is split
  pub WordsThen : Words → ℕ → Place → List ℕ → List ℕ → Type 0
  WordsThen no_word d place t v = BlanksThen t v
  WordsThen (word expand parts rest) d place t v =
      (x y : List ℕ) × BlanksThen t x × (ends_word_at place x ≡ false) × (is_expanded place x ≡ expand)
      × WordThen parts (λ m. PartsThen parts d m) place (word_start place x) y × (ends_word_at place y ≡ true) × WordsThen rest d place y v

  -- the parts of a word, or of an index
  pub PartsThen : Parts → ℕ → Mode → List ℕ → List ℕ → Type 0
  PartsThen no_part d m t v = t ≡ v
  PartsThen (char c rest) d m t v =
      ((u : List ℕ) × (t ≡ c ∷ u) × StandsForItself m c u × PartsThen rest d m u v)
      ⊎ ((u w : List ℕ) × (t ≡ 92 ∷ u) × EscapeThen m c u w × PartsThen rest d m w v)
  PartsThen (variable name rest) d m t v =
      (u w : List ℕ) × (t ≡ 36 ∷ u) × ((NameThen name u w × BeginsNot (λ c. c == 40) w) ⊎ BracedNameThen name u w) × PartsThen rest d m w v
  PartsThen (element name index rest) zero m t v = ⊥
  PartsThen (element name index rest) (suc d) m t v =
      (u s w : List ℕ) × (t ≡ 36 ∷ u) × NameThen name u (40 ∷ s) × PartsThen index d (Index (syntax_of m)) s (41 ∷ w) × PartsThen rest (suc d) m w v
  PartsThen (nested script rest) zero m t v = ⊥
  PartsThen (nested script rest) (suc d) m t v =
      (s w : List ℕ) × (t ≡ 91 ∷ s) × ScriptThen script d Brackets s (93 ∷ w) × PartsThen rest (suc d) m w v

-- ---- faults

-- what may go wrong in brackets from s on, and in parentheses
abbrev pub Fails : Type 1
Fails = List ℕ → ScriptFault → Type 0

-- from t on stands a part with a fault
pub data PartFails (InBrackets : Fails) (InIndex : Syntax → Fails) (m : Mode) : List ℕ → ScriptFault → Type 0 where
  in_brackets : (s : List ℕ) (fault : ScriptFault) → InBrackets s fault → PartFails InBrackets InIndex m (91 ∷ s) fault
  in_index : (name u s : List ℕ) (fault : ScriptFault) → NameThen name u (40 ∷ s) → InIndex (syntax_of m) s fault → PartFails InBrackets InIndex m (36 ∷ u) fault
  name_unclosed : (name : List ℕ) → AllByRecursion (λ c. is_no_close_brace c ≡ true) name → PartFails InBrackets InIndex m (36 ∷ 123 ∷ name) (told (syntax_of m) missing_close_of_variable)
  outside_texts : (u : List ℕ) (c n : ℕ) → ends_parts m 92 u ≡ false → Escapes u c n → is_text_byte c ≡ false → PartFails InBrackets InIndex m (92 ∷ u) (told (syntax_of m) bad_escape)

-- t is parts, and then one with a fault
abbrev pub PartsFail : Fails → (Syntax → Fails) → ℕ → Mode → List ℕ → ScriptFault → Type 0
PartsFail InBrackets InIndex d m t fault = (parts : Parts) × (u : List ℕ) × PartsThen parts d m t u × PartFails InBrackets InIndex m u fault

-- a word with a fault
pub data WordFails (InBrackets : Fails) (InIndex : Syntax → Fails) (d : ℕ) (place : Place) : List ℕ → ScriptFault → Type 0 where
  in_quotes : (u : List ℕ) (fault : ScriptFault) → PartsFail InBrackets InIndex d (Quoted Scripts) u fault → WordFails InBrackets InIndex d place (34 ∷ u) fault
  quote_unclosed : (u : List ℕ) (parts : Parts) → PartsThen parts d (Quoted Scripts) u [] → WordFails InBrackets InIndex d place (34 ∷ u) missing_close_quote
  behind_quote : (u v : List ℕ) (parts : Parts) → PartsThen parts d (Quoted Scripts) u (34 ∷ v) → ends_word_at place v ≡ false → WordFails InBrackets InIndex d place (34 ∷ u) text_after_close_quote
  brace_unclosed : (u : List ℕ) → ((inside v : List ℕ) → BracedThen inside u v → ⊥) → WordFails InBrackets InIndex d place (123 ∷ u) missing_close_brace
  behind_brace : (u inside v : List ℕ) → BracedThen inside u v → ends_word_at place v ≡ false → WordFails InBrackets InIndex d place (123 ∷ u) text_after_close_brace
  bare : (t : List ℕ) (fault : ScriptFault) → BeginsNot (λ c. (c == 34) || (c == 123)) t → PartsFail InBrackets InIndex d (Bare place) t fault → WordFails InBrackets InIndex d place t fault

-- words, and then one with a fault
abbrev pub WordsFail : Fails → (Syntax → Fails) → ℕ → Place → List ℕ → ScriptFault → Type 0
WordsFail InBrackets InIndex d place t fault =
    (words : Words) × (x : List ℕ) × WordsThen words d place t x × (ends_word_at place x ≡ false) × WordFails InBrackets InIndex d place (word_start place x) fault

-- the commands before, and then one with a fault
abbrev pub ScriptFails : Fails → (Syntax → Fails) → ℕ → Place → Script → List ℕ → ScriptFault → Type 0
ScriptFails InBrackets InIndex d place before t fault =
    (v : List ℕ) × ScriptThen before d place t v × BeginsCommand place v × WordsFail InBrackets InIndex d place v fault

abbrev mutual
  -- a script in brackets is one too many, isn't closed, or has a fault of its own
  pub BracketsFail : ℕ → Fails
  BracketsFail zero s fault = fault ≡ too_deeply_nested
  BracketsFail (suc d) s fault =
      (script : Script) × ((ScriptThen script d Brackets s [] × (fault ≡ missing_close_bracket)) ⊎ ScriptFails (BracketsFail d) (IndexFails d) d Brackets script s fault)

  -- and so is an index in parentheses
  pub IndexFails : ℕ → Syntax → Fails
  IndexFails zero syntax s fault = fault ≡ too_deeply_nested
  IndexFails (suc d) syntax s fault =
      ((parts : Parts) × PartsThen parts d (Index syntax) s [] × (fault ≡ told syntax missing_close_of_variable)) ⊎ PartsFail (BracketsFail d) (IndexFails d) d (Index syntax) s fault

-- the text t spells this script: its commands to the end of t, or those before the first fault, and that
abbrev pub Spells : List ℕ → Script → Type 0
Spells t script =
    ScriptThen script 32 Alone t []
    ⊎ ((before : Script) × (fault : ScriptFault) × (script ≡ join_scripts before (faulty fault)) × ScriptFails (BracketsFail 32) (IndexFails 32) 32 Alone before t fault)
