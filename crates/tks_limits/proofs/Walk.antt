-- Lists that are walked by an index.
use Rattle.std.proofs.Common.{◌≡◌, ℕ, zero, suc, ◌+◌, Bool, ◌&&◌, List, [], ◌∷◌, Option, Some, None, ap, ◌∙◌, drop, arith}
use Rattle.std.specs.Prelude.{slice_get}
use Rattle.std.specs.List.{list_all}

or_this : {X : Type 0} → X → Option X → X
or_this d None = d
or_this d (Some x) = x

some_same : {X : Type 0} (x y : X) → Some x ≡ Some y → x ≡ y
unfolding or_this
some_same x y e = ap (or_this x) e

-- the one in a place, and those behind it
pub all_at : {X : Type 0} (p : X → Bool) (xs : List X) (i : ℕ) (x : X) → slice_get xs i ≡ Some x → list_all p (drop i xs) ≡ (p x && list_all p (drop (i + 1) xs))
all_at p [] i x e = absurd cc
all_at p (y ∷ xs) zero x e = ap (λ z. p z && list_all p xs) (some_same y x e)
all_at p (y ∷ xs) (suc i) x e =
    let same : suc (i + 1) ≡ suc i + 1 = omega arith in
    all_at p xs i x e ∙ ap (λ n. p x && list_all p (drop n (y ∷ xs))) same
