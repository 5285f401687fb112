-- Integers of 64 bits, seen in 128.
use Rattle.std.proofs.Common.{◌≡◌, ap, ◌∙◌, arith, ℤ, pos, ◌-ℤ◌, FitsSigned, w64, to_z, of_z, to_z-of_z}
use Rattle.std.proofs.lemmas.Int.{ints}
use Rattle.std.specs.Int.{w128}

pub fits_128 : (x : ℤ) → FitsSigned w64 x → FitsSigned w128 x
fits_128 x f = omega (arith, ints)

pub negated_fits_128 : (x : ℤ) → FitsSigned w64 x → FitsSigned w128 (pos 0 -ℤ x)
negated_fits_128 x f = omega (arith, ints)

-- what was converted is the integer
pub wide : (x l : ℤ) → FitsSigned w64 x → l ≡ to_z w64 (of_z w64 x) → to_z w128 (of_z w128 l) ≡ x
wide x l f e = ap (λ z. to_z w128 (of_z w128 z)) (e ∙ to_z-of_z f) ∙ to_z-of_z (fits_128 x f)

-- and what was negated is its negation
pub wide_negated : (x l : ℤ) → FitsSigned w64 x → l ≡ to_z w64 (of_z w64 x) → to_z w128 (of_z w128 (pos 0 -ℤ to_z w128 (of_z w128 l))) ≡ pos 0 -ℤ x
wide_negated x l f e = ap (λ z. to_z w128 (of_z w128 (pos 0 -ℤ z))) (wide x l f e) ∙ to_z-of_z (negated_fits_128 x f)
