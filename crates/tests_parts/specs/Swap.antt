-- What the tests' commands answer: the memory, and they keep the word.
use Rattle.std.specs.Prelude.{ℕ, codes, List, [], ◌∷◌}
use Rattle.tks_app.specs.declared.answer.AppAnswer.{AppAnswer}
use Rattle.tks_app.specs.declared.answer.AppCode.TheVariants as code

abbrev pub swapped : List ℕ → List (List ℕ) → AppAnswer
swapped memory (word ∷ []) = record { code = code.Value; text = memory; memory = word }
swapped memory words = record { code = code.Error; text = codes "usage"; memory = memory }

-- whatever their name
abbrev pub swap : List ℕ → List ℕ → List (List ℕ) → AppAnswer
swap name memory words = swapped memory words
