-- What is read as a padding is one.
use Rattle.std.proofs.Common.{◌≡◌, ℕ, ◌≤◌, ◌&&◌, nat_le, Bool, true, false, cond, List, Option, Some, None, refl, arith}
use Rattle.std.specs.Prelude.{ℤ, pos, negsuc, Result, Ok, Err}
use Rattle.std.proofs.lemmas.Bool.Decides.{nat_tests}
use Rattle.tks_text.specs.declared.integer.Range.{Range}
use Rattle.tks_text.specs.Integer.{integer_of}
use Rattle.tks_opt.specs.Values.{number_among, number_within}

among : (least most : ℕ) (r : Result (Option ℤ) Range) (n : ℕ) → number_among least most r ≡ Some n → n ≤ most
among least most (Err out) n e = absurd cc
among least most (Ok None) n e = absurd cc
among least most (Ok (Some (negsuc m))) n e = absurd cc
among least most (Ok (Some (pos m))) n e = by (nat_le least m) (nat_le m most) refl e
  where
    by : (a b : Bool) → nat_le m most ≡ b → cond (a && b) (Some m) None ≡ Some n → n ≤ most
    by true true le is = let same : m ≡ n = cc in grind (arith, nat_tests)
    by true false le is = absurd cc
    by false b le is = absurd cc

pub within : (least most : ℕ) (t : List ℕ) (n : ℕ) → number_within least most t ≡ Some n → n ≤ most
within least most t n e = among least most (integer_of t) n e
