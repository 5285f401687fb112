-- The rules by which the scripts of a world are run, by their numbers (this project's own rule).
use Rattle.std.specs.Prelude.{ℕ, ◌==◌, if◌then◌else◌, Option, Some, None}
use Rattle.tks_state.specs.declared.rules.Rules.{Rules}
use Rattle.tks_state.specs.declared.rules.Rules.TheVariants.{One, Two}

-- the number
abbrev pub number_of : Rules → ℕ
number_of One = 1
number_of Two = 2

-- the rules of a number
abbrev pub numbered : ℕ → Option Rules
numbered number = if number == 1 then Some One else (if number == 2 then Some Two else None)
