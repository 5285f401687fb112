-- The parts and the words that are made one after the other.
use Rattle.std.specs.Prelude.{slice_get, Some, None}
use Rattle.std.proofs.Common.{◌≡◌, ◌≤◌, ◌+◌, ℕ, Bool, List, [], ◌∷◌, ◌++◌, drop, refl, sym, ap, ◌∙◌, arith}
use Rattle.tks_text.specs.declared.limits.Limits.{Limits}
use Rattle.tks_parse.specs.Tree.{Script, Words, Parts, word, chars, parts_size, words_size, script_size}
use Rattle.tks_parse.specs.View.{parts_of, words_of}
use Rattle.tks_parse.specs.declared.tree.Part.{Part}
use Rattle.tks_parse.specs.declared.tree.Part.TheVariants.{Text, Variable, Nested}
use Rattle.tks_parse.specs.declared.tree.Word.{Word}
use Rattle.tks_parse.proofs.Drops.{first_then, first_none}
use Rattle.tks_vars.specs.Variables.{Variables}
use Rattle.tks_eval.specs.Outcome.{End, Next, Level, Meaning, appended, given, after}
use Rattle.tks_eval.specs.Evaluation.{parts_do, with_value, element_name, words_in, words_do, call}
use Rattle.tks_eval.specs.Filling.{filled, IsWord}
use Rattle.tks_eval.proofs.After.{given_after, given_same}
use Rattle.tks_eval.proofs.Filling.{filled_chars, parts_filled, words_do_made, words_go}
use Rattle.tks_eval.proofs.Lent.{word_lent}

-- the part at the front, and those behind it
pub part_first : (parts : List Part) (p q : Part) → Some p ≡ slice_get parts 0 → p ≡ q → parts_of parts ≡ parts_of (q ∷ drop 1 parts)
part_first parts p q first is = ap parts_of (first_then parts p first ∙ ap (λ x. x ∷ drop 1 parts) is)

pub word_first : (words : List Word) (w : Word) → Some w ≡ slice_get words 0 → words_of words ≡ word w.expand w.parts (words_of (drop 1 words))
word_first words w first = ap words_of (first_then words w first)

-- what is behind the front is smaller
pub index_smaller : (parts : List Part) (p : Part) (name : List ℕ) (index : Parts) → Some p ≡ slice_get parts 0 → p ≡ Variable name (Some index)
    → 1 + parts_size index + parts_size (parts_of (drop 1 parts)) ≤ parts_size (parts_of parts)
index_smaller parts p name index first is = let whole = ap parts_size (part_first parts p (Variable name (Some index)) first is) in omega (arith, whole)

pub nested_smaller : (parts : List Part) (p : Part) (script : Script) → Some p ≡ slice_get parts 0 → p ≡ Nested script
    → 1 + script_size script + parts_size (parts_of (drop 1 parts)) ≤ parts_size (parts_of parts)
nested_smaller parts p script first is = let whole = ap parts_size (part_first parts p (Nested script) first is) in omega (arith, whole)

pub word_smaller : (words : List Word) (w : Word) → Some w ≡ slice_get words 0 → 1 + parts_size w.parts + words_size (words_of (drop 1 words)) ≤ words_size (words_of words)
word_smaller words w first = let whole = ap words_size (word_first words w first) in omega (arith, whole)

chars_weigh : (t : List ℕ) (rest : Parts) → parts_size (chars t rest) ≡ parts_size rest
chars_weigh [] rest = refl
chars_weigh (c ∷ t) rest = chars_weigh t rest

pub text_weighs : (parts : List Part) (p : Part) (text : List ℕ) → Some p ≡ slice_get parts 0 → p ≡ Text text → parts_size (parts_of (drop 1 parts)) ≡ parts_size (parts_of parts)
text_weighs parts p text first is = sym (ap parts_size (part_first parts p (Text text) first is) ∙ chars_weigh text (parts_of (drop 1 parts)))

module _ {S : Type 0} (limits : Limits) (level : Level S) where
  -- what follows on the index of an element
  abbrev pub index_next : List ℕ → List ℕ → Parts → List ℕ → Next S
  index_next name made rest text state variables fuel =
      given limits (with_value limits variables (element_name name text) made) state variables fuel (λ made. parts_do limits level rest made state variables fuel)

  -- what follows on a script in a word
  abbrev pub nested_next : List ℕ → Parts → List ℕ → Next S
  nested_next made rest text state variables fuel =
      given limits (appended limits made text) state variables fuel (λ made. parts_do limits level rest made state variables fuel)

  -- what follows on a word
  abbrev pub word_next : Meaning S → Bool → Words → List (List ℕ) → List ℕ → Next S
  word_next host expand rest words text state variables fuel =
      given limits (words_in expand text) state variables fuel (λ more. words_do host limits level rest (words ++ more) state variables fuel)

module _ {S : Type 0} (limits : Limits) (level : Level S) (state : S) (variables : Variables) (fuel : ℕ) where
  -- a run of characters
  parts_chars : (t made : List ℕ) (rest : Parts) → parts_do limits level (chars t rest) made state variables fuel
      ≡ given limits (appended limits made t) state variables fuel (λ made. parts_do limits level rest made state variables fuel)
  parts_chars t made rest =
      parts_filled limits variables level state fuel (chars t rest) made
      ∙ ap (λ r. given limits r state variables fuel (λ x. parts_do limits level x.0 x.1 state variables fuel)) (filled_chars limits variables t made rest)
      ∙ given_after limits state variables fuel (appended limits made t) (λ made. filled limits variables rest made) (λ x. parts_do limits level x.0 x.1 state variables fuel)
      ∙ given_same limits state variables fuel (appended limits made t) _ _ (λ m. sym (parts_filled limits variables level state fuel rest m))

  pub text_then : (parts : List Part) (p : Part) (text made : List ℕ) → Some p ≡ slice_get parts 0 → p ≡ Text text
      → parts_do limits level (parts_of parts) made state variables fuel
      ≡ given limits (appended limits made text) state variables fuel (λ made. parts_do limits level (parts_of (drop 1 parts)) made state variables fuel)
  text_then parts p text made first is =
      ap (λ ps. parts_do limits level ps made state variables fuel) (part_first parts p (Text text) first is) ∙ parts_chars text made (parts_of (drop 1 parts))

  pub value_then : (parts : List Part) (p : Part) (name made : List ℕ) → Some p ≡ slice_get parts 0 → p ≡ Variable name None
      → parts_do limits level (parts_of parts) made state variables fuel
      ≡ given limits (with_value limits variables name made) state variables fuel (λ made. parts_do limits level (parts_of (drop 1 parts)) made state variables fuel)
  value_then parts p name made first is = ap (λ ps. parts_do limits level ps made state variables fuel) (part_first parts p (Variable name None) first is)

  pub index_then : (parts : List Part) (p : Part) (name made : List ℕ) (index : Parts) → Some p ≡ slice_get parts 0 → p ≡ Variable name (Some index)
      → parts_do limits level (parts_of parts) made state variables fuel
      ≡ after (parts_do limits level index [] state variables fuel) (index_next limits level name made (parts_of (drop 1 parts)))
  index_then parts p name made index first is = ap (λ ps. parts_do limits level ps made state variables fuel) (part_first parts p (Variable name (Some index)) first is)

  pub nested_then : (parts : List Part) (p : Part) (script : Script) (made : List ℕ) → Some p ≡ slice_get parts 0 → p ≡ Nested script
      → parts_do limits level (parts_of parts) made state variables fuel
      ≡ after (level script state variables fuel) (nested_next limits level made (parts_of (drop 1 parts)))
  nested_then parts p script made first is = ap (λ ps. parts_do limits level ps made state variables fuel) (part_first parts p (Nested script) first is)

  -- without parts the text is made
  pub parts_made : (parts : List Part) (made : List ℕ) → None ≡ slice_get parts 0 → parts_do limits level (parts_of parts) made state variables fuel ≡ End 0 made state variables fuel
  parts_made parts made first = ap (λ ps. parts_do limits level (parts_of ps) made state variables fuel) (first_none parts first)

  module _ (host : Meaning S) where
    pub word_then : (rest : List Word) (w : Word) (words : List (List ℕ)) → Some w ≡ slice_get rest 0
        → words_do host limits level (words_of rest) words state variables fuel
        ≡ after (parts_do limits level w.parts [] state variables fuel) (word_next limits level host w.expand (words_of (drop 1 rest)) words)
    word_then rest w words first = ap (λ ws. words_do host limits level ws words state variables fuel) (word_first rest w first)

    -- a word that is lent is made
    pub lent_then : (rest : List Word) (w : Word) (text : List ℕ) (words : List (List ℕ)) → Some w ≡ slice_get rest 0 → IsWord limits variables w text
        → words_do host limits level (words_of rest) words state variables fuel ≡ words_do host limits level (words_of (drop 1 rest)) (words ++ text ∷ []) state variables fuel
    lent_then rest w text words first is =
        ap (λ ws. words_do host limits level (words_of ws) words state variables fuel) (first_then rest w first)
        ∙ words_do_made host limits level state variables fuel (words_of (w ∷ drop 1 rest)) words
        ∙ ap (λ r. given limits r state variables fuel (words_go host limits level state variables fuel)) (word_lent limits variables w (drop 1 rest) text words is)
        ∙ sym (words_do_made host limits level state variables fuel (words_of (drop 1 rest)) (words ++ text ∷ []))

    -- without words that are left the command runs
    pub words_then : (rest : List Word) (words : List (List ℕ)) → None ≡ slice_get rest 0
        → words_do host limits level (words_of rest) words state variables fuel ≡ call host limits level words state variables fuel
    words_then rest words first = ap (λ ws. words_do host limits level (words_of ws) words state variables fuel) (first_none rest first)
