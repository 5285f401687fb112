-- The script that a text spells, read from left to right.
use Rattle.std.specs.Prelude.{ℕ, zero, suc, ◌+◌, ◌-◌, Bool, true, false, ◌||◌, ◌==◌, List, [], ◌∷◌, take, drop, Option, Some, None, if◌then◌else◌}
use Rattle.std.specs.List.{prefix_len}
use Rattle.tks_text.specs.Backslash.{escape, is_blank}
use Rattle.tks_text.specs.Run.{Step, stop, fails, takes, Run, ended, run, on_run}
use Rattle.tks_text.specs.declared.fault.ScriptFault.{ScriptFault}
use Rattle.tks_parse.specs.Tree.{Script, no_command, faulty, command, Words, no_word, word, Parts, no_part, char, variable, element, nested, chars, join_scripts, join_words}
use Rattle.tks_parse.specs.Class.{is_separator, is_name_char, is_no_close_brace, is_fold, ends_script, ends_word, ends_word_at, ends_parts, is_expanded}
use Rattle.tks_parse.specs.Fault.{missing_close_brace, missing_close_quote, missing_close_bracket, text_after_close_quote, text_after_close_brace, bad_escape, too_deeply_nested, missing_close_of_variable, told, syntax_of}
use Rattle.tks_parse.specs.Braces.{comment_len, braced_len, verbatim}
use Rattle.tks_parse.specs.declared.mode.Place.{Place}
use Rattle.tks_parse.specs.declared.mode.Place.TheVariants.{Alone, Brackets}
use Rattle.tks_parse.specs.declared.mode.Mode.{Mode}
use Rattle.tks_parse.specs.declared.mode.Mode.TheVariants.{Bare, Quoted, Index}
use Rattle.tks_parse.specs.declared.syntax.Syntax.{Syntax}
use Rattle.tks_parse.specs.declared.syntax.Syntax.TheVariants.{Scripts}

-- ---- parts

-- the character of an escape, and how many bytes it takes
abbrev pub escape_step : Syntax → Option (ℕ × ℕ) → Step ScriptFault Parts
escape_step syntax None = fails (told syntax bad_escape)
escape_step syntax (Some e) = takes (char e.0) e.1

-- the close of `${name}`
abbrev pub close_name : Syntax → List ℕ → ℕ → List ℕ → Step ScriptFault Parts
close_name syntax name n [] = fails (told syntax missing_close_of_variable)
close_name syntax name n (c ∷ u) = takes (variable name) (n + 2)

-- behind a `$` and no name: `{name}`, or the `$` stands for itself
unfoldable pub braced_name_step : Syntax → List ℕ → Step ScriptFault Parts
braced_name_step syntax [] = takes (char 36) 0
braced_name_step syntax (c ∷ u) =
    if c == 123 then close_name syntax (take (prefix_len is_no_close_brace u) u) (prefix_len is_no_close_brace u) (drop (prefix_len is_no_close_brace u) u)
    else takes (char 36) 0

-- the close of an index
abbrev pub close_index : Syntax → List ℕ → Parts → ℕ → List ℕ → Step ScriptFault Parts
close_index syntax name index n [] = fails (told syntax missing_close_of_variable)
close_index syntax name index n (c ∷ u) = takes (element name index) (n + 1)

-- the close of a script in brackets
abbrev pub close_script : Script → ℕ → List ℕ → Step ScriptFault Parts
close_script script n [] = fails missing_close_bracket
close_script script n (c ∷ u) = takes (nested script) (n + 1)

-- ---- braces and quotes

-- the close of what stands in braces or quotes
abbrev pub close_text : ScriptFault → Parts → ℕ → List ℕ → Run ScriptFault Parts
close_text missing parts n [] = ended no_part (Some missing)
close_text missing parts n (c ∷ u) = record { items = parts; fault = None; taken = n + 1 }

-- the same behind parts that were read
abbrev pub close_parts : ScriptFault → List ℕ → Run ScriptFault Parts → Run ScriptFault Parts
close_parts missing u r = elim r.fault [ None ↦ close_text missing r.items r.taken (drop r.taken u) | Some f ↦ ended no_part (Some f) ]

-- behind an opening brace: up to the brace that closes it
unfoldable pub braced_at : Syntax → List ℕ → Run ScriptFault Parts
braced_at syntax u = close_text (told syntax missing_close_brace) (chars (verbatim (take (braced_len 0 false u) u)) no_part) (braced_len 0 false u) (drop (braced_len 0 false u) u)

-- a word in braces or quotes ends where a word may end
abbrev pub ended_word : Place → Bool → ScriptFault → Parts → ℕ → List ℕ → Step ScriptFault Words
ended_word place expand text_after parts n rest = if ends_word_at place rest then takes (word expand parts) n else fails text_after

abbrev pub closed_word : Place → Bool → ScriptFault → List ℕ → Run ScriptFault Parts → Step ScriptFault Words
closed_word place expand text_after u r = on_run r (λ parts n. ended_word place expand text_after parts n (drop n u))

-- a word behind n bytes that were passed
abbrev pub behind_bytes : ℕ → Step ScriptFault Words → Step ScriptFault Words
behind_bytes n stop = stop
behind_bytes n (fails f) = fails f
behind_bytes n (takes g k) = takes g (n + k)

-- ---- what may hold scripts in brackets, read by `nest`, and indexes, read by `index`

unfoldable pub nested_step : (List ℕ → Run ScriptFault Script) → List ℕ → Step ScriptFault Parts
nested_step nest u = on_run (nest u) (λ script n. close_script script n (drop n u))

module _ (index : Syntax → List ℕ → Run ScriptFault Parts) (syntax : Syntax) where
  unfoldable pub index_step : List ℕ → ℕ → List ℕ → Step ScriptFault Parts
  index_step name n u = on_run (index syntax u) (λ parts k. close_index syntax name parts (n + 1 + k) (drop k u))

  -- behind a `$` and a name of n characters
  unfoldable pub named_step : List ℕ → ℕ → List ℕ → Step ScriptFault Parts
  named_step name n [] = takes (variable name) n
  named_step name n (c ∷ u) = if c == 40 then index_step name n u else takes (variable name) n

  unfoldable pub variable_step : List ℕ → Step ScriptFault Parts
  variable_step u =
      if prefix_len is_name_char u == 0 then braced_name_step syntax u
      else named_step (take (prefix_len is_name_char u) u) (prefix_len is_name_char u) (drop (prefix_len is_name_char u) u)

module _ (nest : List ℕ → Run ScriptFault Script) (index : Syntax → List ℕ → Run ScriptFault Parts) where
  unfoldable pub part_step : Mode → List ℕ → Step ScriptFault Parts
  part_step m [] = stop
  part_step m (c ∷ u) =
      if ends_parts m c u then stop
      else (if c == 36 then variable_step index (syntax_of m) u
      else (if c == 91 then nested_step nest u
      else (if c == 92 then escape_step (syntax_of m) (escape u)
      else takes (char c) 0)))

  unfoldable pub parts_at : Mode → List ℕ → Run ScriptFault Parts
  parts_at m t = run no_part (part_step m) 0 t

  -- behind an opening quote: up to the next quote
  unfoldable pub quoted_at : Syntax → List ℕ → Run ScriptFault Parts
  quoted_at syntax u = close_parts (told syntax missing_close_quote) u (parts_at (Quoted syntax) u)

  unfoldable pub bare_word : Place → Bool → List ℕ → Step ScriptFault Words
  bare_word place expand t = on_run (parts_at (Bare place) t) (λ parts n. takes (word expand parts) (n - 1))

  -- a word, which is split as a list where `expand` says so
  unfoldable pub plain_word : Place → Bool → List ℕ → Step ScriptFault Words
  plain_word place expand [] = stop
  plain_word place expand (c ∷ u) =
      if c == 34 then closed_word place expand text_after_close_quote u (quoted_at Scripts u)
      else (if c == 123 then closed_word place expand text_after_close_brace u (braced_at Scripts u)
      else bare_word place expand (c ∷ u))

  -- a word, or `{*}` and a word
  unfoldable pub prefixed_word : Place → List ℕ → Step ScriptFault Words
  prefixed_word place t = if is_expanded place t then behind_bytes 3 (plain_word place true (drop 3 t)) else plain_word place false t

  unfoldable pub word_step : Place → List ℕ → Step ScriptFault Words
  word_step place [] = stop
  word_step place (c ∷ u) =
      if is_blank c then takes (join_words no_word) 0
      else (if is_fold c u then takes (join_words no_word) 1
      else (if ends_word place c then stop
      else prefixed_word place (c ∷ u)))

  unfoldable pub words_at : Place → List ℕ → Run ScriptFault Words
  words_at place t = run no_word (word_step place) 0 t

  unfoldable pub words_command : Place → List ℕ → Step ScriptFault Script
  words_command place t = on_run (words_at place t) (λ words n. takes (command words) (n - 1))

  unfoldable pub command_step : Place → List ℕ → Step ScriptFault Script
  command_step place [] = stop
  command_step place (c ∷ u) =
      if is_blank c || is_separator c then takes (join_scripts no_command) 0
      else (if is_fold c u then takes (join_scripts no_command) 1
      else (if ends_script place c then stop
      else (if c == 35 then takes (join_scripts no_command) (comment_len false u)
      else words_command place (c ∷ u))))

  unfoldable pub commands_at : Place → List ℕ → Run ScriptFault Script
  commands_at place t = run no_command (command_step place) 0 t

-- scripts in brackets, and indexes in parentheses, with `depth` of either left to open
unfoldable mutual
  pub nest : ℕ → List ℕ → Run ScriptFault Script
  nest zero u = ended no_command (Some too_deeply_nested)
  nest (suc depth) u = commands_at (nest depth) (index depth) Brackets u

  pub index : ℕ → Syntax → List ℕ → Run ScriptFault Parts
  index zero syntax u = ended no_part (Some too_deeply_nested)
  index (suc depth) syntax u = parts_at (nest depth) (index depth) (Index syntax) u

-- ---- scripts

-- commands, and the fault behind them if there is one
abbrev pub closed : Script → Option ScriptFault → Script
closed script None = script
closed script (Some fault) = join_scripts script (faulty fault)

-- how many brackets and parentheses may be open in one another
abbrev pub max_depth : ℕ
max_depth = 32

unfoldable pub script_of : List ℕ → Script
script_of t = let r = commands_at (nest max_depth) (index max_depth) Alone t in closed r.items r.fault
