-- The lesser of the lesser ones is the least of all.
use Rattle.std.proofs.Common.{◌≡◌, ℕ, false, Option, Some, None, refl, arith}
use Rattle.std.proofs.lemmas.Bool.Decides.{nat_tests}
use Rattle.tks_timer.specs.After.{is_sooner, lesser}

pub along_not : (a b c : ℕ × ℕ) → is_sooner b a ≡ false → is_sooner c b ≡ false → is_sooner c a ≡ false
along_not a b c h k = grind (arith, nat_tests)

lesser_three : (a b c : ℕ) → lesser (lesser (Some a) (Some b)) (Some c) ≡ lesser (Some a) (lesser (Some b) (Some c))
lesser_three a b c = grind (arith, nat_tests)

pub lesser_assoc : (a b c : Option ℕ) → lesser (lesser a b) c ≡ lesser a (lesser b c)
lesser_assoc None b c = refl
lesser_assoc (Some a) None c = refl
lesser_assoc (Some a) (Some b) None = refl
lesser_assoc (Some a) (Some b) (Some c) = lesser_three a b c
