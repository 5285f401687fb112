-- What an application's one command answers in these tests: how often it was called, as far as three.
use Rattle.std.specs.Prelude.{ℕ, List, [], ◌∷◌, ◌++◌, codes}
use Rattle.tks_app.specs.declared.answer.AppAnswer.{AppAnswer}
use Rattle.tks_app.specs.declared.answer.AppCode.TheVariants.{Value}

-- the count behind so many calls, each of which left a letter
abbrev pub count_behind : List ℕ → List ℕ
count_behind [] = codes "1"
count_behind (c ∷ []) = codes "2"
count_behind (c ∷ d ∷ memory) = codes "3"

abbrev pub counted : List ℕ → AppAnswer
counted memory = record { code = Value; text = count_behind memory; memory = memory ++ codes "x" }
