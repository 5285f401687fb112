-- Names that rise, one after the other.
use Rattle.std.proofs.Common.{◌≡◌, ℕ, true, false, List, [], ◌∷◌, ◌++◌, Option, Some}
use Rattle.tks_spelling.specs.Spelling.{last_of, is_behind, Rise}

-- one name more
pub rise_more : (before : Option (List ℕ)) (xs : List (List ℕ)) (x : List ℕ) → Rise (λ n. n) before xs → is_behind (λ n. n) (last_of before xs) x ≡ true → Rise (λ n. n) before (xs ++ x ∷ [])
rise_more before [] x h e = (e, tt)
rise_more before (y ∷ xs) x h e = (h.0, rise_more (Some y) xs x h.1 e)

-- where all rise, a name is behind those before it
pub rise_at : (before : Option (List ℕ)) (xs : List (List ℕ)) (x : List ℕ) (ys : List (List ℕ)) → Rise (λ n. n) before (xs ++ x ∷ ys) → is_behind (λ n. n) (last_of before xs) x ≡ true
rise_at before [] x ys h = h.0
rise_at before (y ∷ xs) x ys h = rise_at (Some y) xs x ys h.1

-- what is false isn't true
pub never : {A : Type 0} → false ≡ true → A
never e = absurd cc
