-- Trees one after the other.
use Rattle.std.proofs.Common.{◌≡◌, ℕ, false, List, [], ◌∷◌, ◌++◌, length, Some, None, refl, ap, ◌∙◌, arith}
use Rattle.tks_text.specs.declared.fault.ScriptFault.{ScriptFault}
use Rattle.tks_parse.specs.Tree.{Script, no_command, faulty, command, Words, no_word, word, Parts, no_part, char, variable, element, nested, join_scripts, join_words, join_parts, chars}
use Rattle.tks_parse.specs.View.{script_of_commands, words_of, ready_words, words_of_command, parts_of}
use Rattle.tks_parse.specs.declared.tree.Command.{Command}
use Rattle.tks_parse.specs.declared.tree.Word.{Word}
use Rattle.tks_parse.specs.declared.tree.Part.{Part}
use Rattle.tks_parse.specs.declared.tree.Part.TheVariants.{Text, Variable, Nested}

-- one more at the end

pub commands_push : (cs : List Command) (c : Command) → script_of_commands (cs ++ c ∷ []) None ≡ join_scripts (script_of_commands cs None) (command (words_of_command c) no_command)
commands_push [] c = refl
commands_push (b ∷ cs) c = ap (command (words_of_command b)) (commands_push cs c)

pub words_push : (ws : List Word) (w : Word) → words_of (ws ++ w ∷ []) ≡ join_words (words_of ws) (word w.expand w.parts no_word)
words_push [] w = refl
words_push (v ∷ ws) w = ap (word v.expand v.parts) (words_push ws w)

-- a word that stands for itself, moved in front of what is behind
pub ready_push : (ts : List (List ℕ)) (t : List ℕ) (ws : Words) → join_words (ready_words (ts ++ t ∷ [])) ws ≡ join_words (ready_words ts) (word false (chars t no_part) ws)
ready_push [] t ws = refl
ready_push (s ∷ ts) t ws = ap (word false (chars s no_part)) (ready_push ts t ws)

chars-join : (t : List ℕ) (ps qs : Parts) → chars t (join_parts ps qs) ≡ join_parts (chars t ps) qs
chars-join [] ps qs = refl
chars-join (c ∷ t) ps qs = ap (char c) (chars-join t ps qs)

pub parts_push : (ps : List Part) (p : Part) → parts_of (ps ++ p ∷ []) ≡ join_parts (parts_of ps) (parts_of (p ∷ []))
parts_push [] p = refl
parts_push (Text t ∷ ps) p = ap (chars t) (parts_push ps p) ∙ chars-join t (parts_of ps) (parts_of (p ∷ []))
parts_push (Variable n None ∷ ps) p = ap (variable n) (parts_push ps p)
parts_push (Variable n (Some is) ∷ ps) p = ap (element n is) (parts_push ps p)
parts_push (Nested s ∷ ps) p = ap (nested s) (parts_push ps p)

-- a fault at the end
pub commands_fault : (cs : List Command) (f : ScriptFault) → script_of_commands cs (Some f) ≡ join_scripts (script_of_commands cs None) (faulty f)
commands_fault [] f = refl
commands_fault (c ∷ cs) f = ap (command (words_of_command c)) (commands_fault cs f)

-- joining is associative

pub join_scripts_assoc : (a b c : Script) → join_scripts (join_scripts a b) c ≡ join_scripts a (join_scripts b c)
join_scripts_assoc no_command b c = refl
join_scripts_assoc (faulty f) b c = refl
join_scripts_assoc (command w a) b c = ap (command w) (join_scripts_assoc a b c)

pub join_words_assoc : (a b c : Words) → join_words (join_words a b) c ≡ join_words a (join_words b c)
join_words_assoc no_word b c = refl
join_words_assoc (word e p a) b c = ap (word e p) (join_words_assoc a b c)

pub join_parts_assoc : (a b c : Parts) → join_parts (join_parts a b) c ≡ join_parts a (join_parts b c)
join_parts_assoc no_part b c = refl
join_parts_assoc (char x a) b c = ap (char x) (join_parts_assoc a b c)
join_parts_assoc (variable n a) b c = ap (variable n) (join_parts_assoc a b c)
join_parts_assoc (element n i a) b c = ap (element n i) (join_parts_assoc a b c)
join_parts_assoc (nested s a) b c = ap (nested s) (join_parts_assoc a b c)

-- nothing behind changes nothing

pub join_scripts_none : (a : Script) → join_scripts a no_command ≡ a
join_scripts_none no_command = refl
join_scripts_none (faulty f) = refl
join_scripts_none (command w a) = ap (command w) (join_scripts_none a)

pub join_words_none : (a : Words) → join_words a no_word ≡ a
join_words_none no_word = refl
join_words_none (word e p a) = ap (word e p) (join_words_none a)

pub join_parts_none : (a : Parts) → join_parts a no_part ≡ a
join_parts_none no_part = refl
join_parts_none (char x a) = ap (char x) (join_parts_none a)
join_parts_none (variable n a) = ap (variable n) (join_parts_none a)
join_parts_none (element n i a) = ap (element n i) (join_parts_none a)
join_parts_none (nested s a) = ap (nested s) (join_parts_none a)

pub words_end : (a : Words) (ws : List Word) → length ws ≡ 0 → join_words a (words_of ws) ≡ a
words_end a [] h = join_words_none a
words_end a (w ∷ ws) h = absurd (omega (arith, h))
