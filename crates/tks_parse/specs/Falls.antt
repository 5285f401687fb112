-- Each tree inside a tree is smaller than it.
use Rattle.std.specs.Prelude.{◌≡◌, ℕ, ◌≤◌, List, [], ◌∷◌, Option, Some, None, refl}
use Rattle.std.proofs.Common.{arith}
use denote.Param.Weighed.{most}
use Rattle.tks_text.specs.declared.fault.ScriptFault.{ScriptFault}
use Rattle.tks_parse.specs.Tree.{Parts, chars, script_size, words_size, parts_size}
use Rattle.tks_parse.specs.View.{parts_of, words_of, script_of_commands}
use Rattle.tks_parse.specs.declared.tree.Command.{Command}
use Rattle.tks_parse.specs.declared.tree.Command.TheVariants.{Ready, Made}
use Rattle.tks_parse.specs.declared.tree.Word.{Word}
use Rattle.tks_parse.specs.declared.tree.Part.{Part}
use Rattle.tks_parse.specs.declared.tree.Part.TheVariants.{Text, Variable, Nested}
use Rattle.tks_parse.specs.declared.tree.Parts.TheDeep.{deep-Part, deep-Word, deep-Command}

parts_size-chars : (t : List ℕ) (ps : Parts) → parts_size (chars t ps) ≡ parts_size ps
parts_size-chars [] ps = refl
parts_size-chars (c ∷ t) ps = parts_size-chars t ps

pub parts_fall : (parts : List Part) → most deep-Part parts ≤ parts_size (parts_of parts)
parts_fall [] = omega arith
parts_fall (Text text ∷ rest) = omega (arith, parts_fall rest, parts_size-chars text (parts_of rest))
parts_fall (Variable name None ∷ rest) = omega (arith, parts_fall rest)
parts_fall (Variable name (Some index) ∷ rest) = omega (arith, parts_fall rest)
parts_fall (Nested script ∷ rest) = omega (arith, parts_fall rest)

pub words_fall : (words : List Word) → most deep-Word words ≤ words_size (words_of words)
words_fall [] = omega arith
words_fall (w ∷ rest) = omega (arith, words_fall rest)

pub commands_fall : (commands : List Command) (fault : Option ScriptFault) → most deep-Command commands ≤ script_size (script_of_commands commands fault)
commands_fall [] fault = omega arith
commands_fall (Ready texts ∷ rest) fault = omega (arith, commands_fall rest fault)
commands_fall (Made words ∷ rest) fault = omega (arith, commands_fall rest fault, words_fall words.value.items)
