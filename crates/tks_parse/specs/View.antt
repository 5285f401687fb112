-- The code's trees, as the definitions see them. A run of literal bytes stands for its characters.
use Rattle.std.specs.Prelude.{ℕ, false, List, [], ◌∷◌, Option, Some, None}
use Rattle.tks_text.specs.declared.fault.ScriptFault.{ScriptFault}
use Rattle.tks_parse.specs.Tree.{Script, no_command, faulty, command, Words, no_word, word, Parts, no_part, variable, element, nested, chars}
use Rattle.tks_parse.specs.declared.tree.Command.{Command}
use Rattle.tks_parse.specs.declared.tree.Command.TheVariants.{Ready, Made}
use Rattle.tks_parse.specs.declared.tree.Word.{Word}
use Rattle.tks_parse.specs.declared.tree.Part.{Part}
use Rattle.tks_parse.specs.declared.tree.Part.TheVariants.{Text, Variable, Nested}

abbrev pub parts_of : List Part → Parts
parts_of [] = no_part
parts_of (Text text ∷ rest) = chars text (parts_of rest)
parts_of (Variable name None ∷ rest) = variable name (parts_of rest)
parts_of (Variable name (Some index) ∷ rest) = element name index (parts_of rest)
parts_of (Nested script ∷ rest) = nested script (parts_of rest)

abbrev pub words_of : List Word → Words
words_of [] = no_word
words_of (w ∷ rest) = word w.expand w.parts (words_of rest)

-- words that stand for themselves
abbrev pub ready_words : List (List ℕ) → Words
ready_words [] = no_word
ready_words (text ∷ texts) = word false (chars text no_part) (ready_words texts)

abbrev pub words_of_command : Command → Words
words_of_command (Ready texts) = ready_words texts.value.items
words_of_command (Made words) = words_of words.value.items

-- commands, and the fault behind them if there is one
abbrev pub script_of_commands : List Command → Option ScriptFault → Script
script_of_commands [] None = no_command
script_of_commands [] (Some fault) = faulty fault
script_of_commands (c ∷ rest) fault = command (words_of_command c) (script_of_commands rest fault)

-- the words of the command at the front, where there is one
abbrev pub first_words : Script → Option Words
first_words no_command = None
first_words (faulty fault) = None
first_words (command words rest) = Some words

-- what is behind the command at the front; a script without one stays
abbrev pub behind : Script → Script
behind no_command = no_command
behind (faulty fault) = faulty fault
behind (command words rest) = rest
