-- Items far behind the last.
use Rattle.std.proofs.Common.{◌≡◌, ℕ, zero, suc, ◌-◌, ◌^◌, ◌<◌, ◌≤◌, min, List, [], ◌∷◌, length, None, refl, ap, sym, ◌∙◌, ◌⊎◌, inl, inr, arith}
use Rattle.std.specs.Prelude.{slice_get}
use Rattle.std.proofs.lemmas.Bool.{cases_lt}

got_past : {X : Type 0} (xs : List X) (i : ℕ) → length xs ≤ i → slice_get xs i ≡ None
got_past [] zero h = refl
got_past [] (suc i) h = refl
got_past (x ∷ xs) zero h = absurd (omega arith)
got_past (x ∷ xs) (suc i) h = got_past xs i (omega arith)

-- a place that is cut to 64 bits has the same item, or none
pub got_cut : {X : Type 0} (xs : List X) (i : ℕ) → length xs < 2 ^ 32 → slice_get xs (min i (2 ^ 64 - 1)) ≡ slice_get xs i
got_cut xs i short = by (cases_lt (2 ^ 64 - 1) i)
  where
    by : (2 ^ 64 - 1 < i) ⊎ (i ≤ 2 ^ 64 - 1) → slice_get xs (min i (2 ^ 64 - 1)) ≡ slice_get xs i
    by (inl far) = got_past xs (min i (2 ^ 64 - 1)) (omega arith) ∙ sym (got_past xs i (omega arith))
    by (inr near) = let same : min i (2 ^ 64 - 1) ≡ i = omega arith in ap (slice_get xs) same
