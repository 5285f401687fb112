-- Going on in a list, one item after the other.
use Rattle.std.specs.Prelude.{slice_get, Some, None}
use Rattle.std.proofs.Common.{◌≡◌, ℕ, zero, suc, ◌+◌, drop, List, [], ◌∷◌, refl, ap, ◌∙◌, arith}

drop_suc : {X : Type 0} (n : ℕ) (xs : List X) → drop (suc n) xs ≡ drop 1 (drop n xs)
drop_suc zero xs = refl
drop_suc (suc n) [] = refl
drop_suc (suc n) (x ∷ xs) = drop_suc n xs

pub drop_next : {X : Type 0} (n : ℕ) (xs : List X) → drop (n + 1) xs ≡ drop 1 (drop n xs)
drop_next n xs = let next : n + 1 ≡ suc n = omega arith in ap (λ k. drop k xs) next ∙ drop_suc n xs

-- what stands first, and what is behind it
pub first_then : {X : Type 0} (xs : List X) (x : X) → Some x ≡ slice_get xs 0 → xs ≡ x ∷ drop 1 xs
first_then [] x e = absurd cc
first_then (y ∷ ys) x e = cc

pub first_none : {X : Type 0} (xs : List X) → None ≡ slice_get xs 0 → xs ≡ []
first_none [] e = refl
first_none (y ∷ ys) e = absurd cc
