-- How far words are made at once: up to a script or an index, which has to be run first.
use Rattle.std.specs.Prelude.{◌≡◌, ℕ, Bool, false, List, [], ◌∷◌, ◌++◌, Some, Result, Ok, Err}
use Rattle.tks_text.specs.declared.limits.Limits.{Limits}
use Rattle.tks_parse.specs.Tree.{Words, no_word, word, Parts, no_part, char, variable, element, nested}
use Rattle.tks_vars.specs.Variables.{Variables}
use Rattle.tks_tcl.specs.Cause.{Cause, after}
use Rattle.tks_eval.specs.Outcome.{appended}
use Rattle.tks_eval.specs.Evaluation.{with_value, words_in}
use Rattle.tks_parse.specs.declared.tree.Word.{Word}
use Rattle.tks_list.specs.Reading.{list_of}

-- the parts behind the characters and the scalars that come first, and the text with these
abbrev pub filled : Limits → Variables → Parts → List ℕ → Result (Parts × List ℕ) Cause
filled limits variables no_part made = Ok (no_part, made)
filled limits variables (char c rest) made = after (appended limits made (c ∷ [])) (λ made. filled limits variables rest made)
filled limits variables (variable name rest) made = after (with_value limits variables name made) (λ made. filled limits variables rest made)
filled limits variables (element name index rest) made = Ok (element name index rest, made)
filled limits variables (nested script rest) made = Ok (nested script rest, made)

-- all words; or those before one that was begun, and that one: the parts that are left of it, its text so far, and the
-- words behind it
pub data Stand : Type 0 where
  All : (words : List (List ℕ)) → Stand
  Upto : (words : List (List ℕ)) (expand : Bool) (parts : Parts) (made : List ℕ) (rest : Words) → Stand

-- what follows where nothing is left of a word's parts
abbrev pub made_or : Parts → Stand → Result Stand Cause → Result Stand Cause
made_or no_part upto next = next
made_or (char c rest) upto next = Ok upto
made_or (variable name rest) upto next = Ok upto
made_or (element name index rest) upto next = Ok upto
made_or (nested script rest) upto next = Ok upto

-- words behind those that are made
abbrev pub words_made : Limits → Variables → Words → List (List ℕ) → Result Stand Cause
words_made limits variables no_word words = Ok (All words)
words_made limits variables (word expand parts rest) words =
    after (filled limits variables parts []) (λ x. made_or x.0 (Upto words expand x.0 x.1 rest)
    (after (words_in expand x.1) (λ more. words_made limits variables rest (words ++ more))))

-- a word that is one text, which is this one
abbrev pub IsWord : Limits → Variables → Word → List ℕ → Type 0
IsWord limits variables w text = (w.expand ≡ false) × (filled limits variables w.parts [] ≡ Ok (no_part, text))

-- the text that was filled, if there is one
abbrev pub text_filled : Result (Parts × List ℕ) Cause → List ℕ
text_filled (Ok x) = x.1
text_filled (Err why) = []

-- a word that is one text, which splits into this list
abbrev pub IsListWord : Limits → Variables → Word → List (List ℕ) → Type 0
IsListWord limits variables w list =
    IsWord limits variables w (text_filled (filled limits variables w.parts []))
    × (list_of (text_filled (filled limits variables w.parts [])) ≡ Some list)
