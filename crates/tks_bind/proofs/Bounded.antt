-- Texts that are held to a bound.
use Rattle.std.proofs.Common.{◌≡◌, ◌++◌, ℕ, Bool, true, false, List, length, Option, Some, None, cond, refl, arith, leb, length-append}
use Rattle.std.proofs.lemmas.Bool.{leb-true, ltb-true}
use Rattle.tks_bind.specs.Percents.{held_to, is_over}

pub front_is_over : (most : Option ℕ) (front back : List ℕ) → is_over most front ≡ true → None ≡ held_to most (front ++ back)
front_is_over None front back h = absurd cc
front_is_over (Some most) front back h = by (leb (length (front ++ back)) most) refl
  where
    by : (b : Bool) → leb (length (front ++ back)) most ≡ b → None ≡ cond b (Some (front ++ back)) None
    by true e = absurd (omega (arith, ltb-true most (length front) h, leb-true (length (front ++ back)) most e, length-append front back))
    by false e = refl
