-- What the code returned, against what reading gives, unless memory ran out.
use Rattle.std.specs.Prelude.{◌≡◌, ℕ, Option, Some, None, Result, Ok, Err, true, List, [], ◌∷◌, ◌++◌}
use Rattle.tks_text.specs.Run.{Step, stop, fails, takes, Run}
use Rattle.tks_text.specs.Text.{is_text_byte}
use Rattle.tks_text.specs.declared.fault.ScriptFault.{ScriptFault}
use Rattle.tks_parse.specs.Tree.{Script, no_command, command, join_scripts, Words, no_word, word, join_words, Parts, no_part, char, join_parts}
use Rattle.tks_parse.specs.View.{parts_of, words_of_command, script_of_commands}
use Rattle.tks_text.specs.declared.fault.Failure.{Failure}
use Rattle.tks_text.specs.declared.fault.Failure.TheVariants as failure
use Rattle.tks_parse.specs.declared.braces.Verbatim.{Verbatim}
use Rattle.tks_parse.specs.declared.braces.Verbatim.TheVariants.{One, Pair}
use Rattle.tks_parse.specs.declared.builder.Piece.{Piece}
use Rattle.tks_parse.specs.declared.builder.Piece.TheVariants.{Char, Whole}
use Rattle.tks_parse.specs.declared.commands.Found.{Found}
use Rattle.tks_parse.specs.declared.tree.Command.{Command}
use Rattle.tks_parse.specs.declared.tree.Word.{Word}

abbrev pub FailsStep : {R : Type 0} → Failure → Step ScriptFault R → Type 0
FailsStep failure.NoMemory s = Unit {0}
FailsStep (failure.Script f) s = s ≡ fails f

-- the step that was found: none, one with this view, or a fault
abbrev pub GivesStep : {X R : Type 0} → (X → Step ScriptFault R) → Result (Option X) Failure → Step ScriptFault R → Type 0
GivesStep view (Ok None) s = s ≡ stop
GivesStep view (Ok (Some x)) s = s ≡ view x
GivesStep view (Err e) s = FailsStep e s

abbrev pub FailsRun : {R : Type 0} → Failure → Run ScriptFault R → Type 0
FailsRun failure.NoMemory r = Unit {0}
FailsRun (failure.Script f) r = r.fault ≡ Some f

-- the items that were found, with this view, or a fault
abbrev pub GivesRun : {X R : Type 0} → (X → Run ScriptFault R) → Result X Failure → Run ScriptFault R → Type 0
GivesRun view (Ok x) r = r ≡ view x
GivesRun view (Err e) r = FailsRun e r

-- the parts that a piece is
abbrev pub parts_of_piece : Piece → Parts
parts_of_piece (Char c) = char c no_part
parts_of_piece (Whole part) = parts_of (part ∷ [])

abbrev pub taken_piece : Piece × ℕ → Step ScriptFault Parts
taken_piece x = takes (join_parts (parts_of_piece x.0)) x.1

abbrev pub run_of_parts : Parts × ℕ → Run ScriptFault Parts
run_of_parts x = record { items = x.0; fault = None; taken = x.1 }

-- the words that are there
abbrev pub words_of_option : Option Word → Words
words_of_option None = no_word
words_of_option (Some w) = word w.expand w.parts no_word

abbrev pub taken_word : Option Word × ℕ → Step ScriptFault Words
taken_word x = takes (join_words (words_of_option x.0)) x.1

abbrev pub run_of_command : Command × ℕ → Run ScriptFault Words
run_of_command x = record { items = words_of_command x.0; fault = None; taken = x.1 }

-- the commands that are there
abbrev pub script_of_option : Option Command → Script
script_of_option None = no_command
script_of_option (Some c) = command (words_of_command c) no_command

abbrev pub taken_command : Option Command × ℕ → Step ScriptFault Script
taken_command x = takes (join_scripts (script_of_option x.0)) x.1

abbrev pub run_of_script : Found → Run ScriptFault Script
run_of_script found = record { items = script_of_commands found.commands.items None; fault = found.fault; taken = found.taken }

-- a character of a piece stands in texts
abbrev pub IsTextPiece : Piece → Type 0
IsTextPiece (Char c) = is_text_byte c ≡ true
IsTextPiece (Whole part) = Unit {0}

-- what stands next in braces
abbrev pub text_of_verbatim : Verbatim → List ℕ
text_of_verbatim (One c) = c ∷ []
text_of_verbatim (Pair c) = 92 ∷ c ∷ []

abbrev pub GivesVerbatim : Option (Verbatim × ℕ) → Step ScriptFault (List ℕ) → Type 0
GivesVerbatim None s = s ≡ stop
GivesVerbatim (Some x) s = s ≡ takes (λ y. text_of_verbatim x.0 ++ y) x.1

abbrev pub IsTextVerbatim : Verbatim → Type 0
IsTextVerbatim (One c) = is_text_byte c ≡ true
IsTextVerbatim (Pair c) = is_text_byte c ≡ true
