-- Which calls fail where one does.
use Rattle.std.specs.Prelude.{ℕ, zero, suc, Option, Some, None}

-- how many calls pass before the one that fails, behind one more call
abbrev pub one_less : Option ℕ → Option ℕ
one_less None = None
one_less (Some zero) = None
one_less (Some (suc n)) = Some n
