-- The program's own commands: a counter, and a place that keeps a word (this project's own rule).
use Rattle.std.specs.Prelude.{ℕ, ◌+◌, ◌-◌, ◌^◌, ◌==◌, nat_le, if◌then◌else◌, List, [], ◌∷◌, codes, decimal, Option, Some, None}
use Rattle.tks_text.specs.Text.{same_text}
use Rattle.tks_app.specs.Applications.{Meaning}
use Rattle.tks_app.specs.declared.answer.AppAnswer.{AppAnswer}
use Rattle.tks_app.specs.declared.answer.AppCode.TheVariants.{Value, Error}
use Rattle.tks_desk.specs.Words.{number_in}

-- an error, behind which the memory is as it was
abbrev pub unchanged : List ℕ → List ℕ → AppAnswer
unchanged memory text = record { code = Error; text = text; memory = memory }

-- ---- the counter

-- the greatest number that is counted to
abbrev pub max_number : ℕ
max_number = 2 ^ 63 - 1

-- a number up to that one; any other counts as none, and none as 0
abbrev pub or_zero : Option ℕ → ℕ
or_zero None = 0
or_zero (Some n) = if nat_le n max_number then n else 0

-- how far a memory has counted
abbrev pub counted_to : List ℕ → ℕ
counted_to memory = or_zero (number_in memory)

-- a number is answered, and kept
abbrev pub numbered : ℕ → AppAnswer
numbered n = record { code = Value; text = decimal n; memory = decimal n }

abbrev pub next_behind : List ℕ → ℕ → AppAnswer
next_behind memory n = if n == max_number then unchanged memory (codes "full") else numbered (n + 1)

-- `app.next`: the next number
abbrev pub next_of : List ℕ → List (List ℕ) → AppAnswer
next_of memory [] = next_behind memory (counted_to memory)
next_of memory (word ∷ words) = unchanged memory (codes "usage")

-- ---- the word

-- `app.swap WORD`: the word from before; this one is kept
abbrev pub swap_of : List ℕ → List (List ℕ) → AppAnswer
swap_of memory [] = unchanged memory (codes "usage")
swap_of memory (word ∷ []) = record { code = Value; text = memory; memory = word }
swap_of memory (word ∷ other ∷ words) = unchanged memory (codes "usage")

-- ---- both

abbrev pub next_name : List ℕ
next_name = codes "app.next"

abbrev pub swap_name : List ℕ
swap_name = codes "app.swap"

abbrev pub own : Meaning
own name memory words = if same_text name next_name then next_of memory words else swap_of memory words
