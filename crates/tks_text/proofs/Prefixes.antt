-- The longest front of a list whose members pass a test.
use Rattle.std.proofs.Common.{◌≡◌, ℕ, zero, suc, ◌+◌, ◌≤◌, Bool, true, List, [], ◌∷◌, ◌++◌, length, take, drop, refl, arith}
use Rattle.std.specs.List.{AllByRecursion, prefix_len, list_all}
use Rattle.std.proofs.lemmas.Bool.{cond_both}
use Rattle.tks_text.specs.Text.{BeginsNot}
use Rattle.tks_text.proofs.Texts.{both}

module _ (p : ℕ → Bool) where
  abbrev pub Pass : List ℕ → Type 0
  Pass xs = AllByRecursion (λ c. p c ≡ true) xs

  pub prefix_passes : (xs : List ℕ) → Pass (take (prefix_len p xs) xs) × BeginsNot p (drop (prefix_len p xs) xs)
  prefix_passes [] = (tt, tt)
  prefix_passes (c ∷ xs) =
      let one : 1 + prefix_len p xs ≡ suc (prefix_len p xs) = omega arith in
      let rest = prefix_passes xs in
      cond_both (p c) (1 + prefix_len p xs) 0 (λ n. Pass (take n (c ∷ xs)) × BeginsNot p (drop n (c ∷ xs))) (λ e. rw one ((e, rest.0), rest.1)) (λ e. (tt, e))

  pub prefix_of : (xs ys : List ℕ) → Pass xs → BeginsNot p ys → prefix_len p (xs ++ ys) ≡ length xs
  prefix_of [] [] h f = refl
  prefix_of [] (c ∷ ys) h f = rw f refl
  prefix_of (c ∷ xs) ys h f =
      let one : 1 + length xs ≡ suc (length xs) = omega arith in
      rw (h.0, prefix_of xs ys h.1 f) one

  pub all_pass : (xs : List ℕ) → list_all p xs ≡ true → Pass xs
  all_pass [] e = tt
  all_pass (c ∷ xs) e = let h = both (p c) (list_all p xs) e in (h.0, all_pass xs h.1)

  pub passing_all : (xs : List ℕ) → Pass xs → list_all p xs ≡ true
  passing_all [] h = refl
  passing_all (c ∷ xs) h = rw h.0 (passing_all xs h.1)

  -- no front of those that pass is longer
  pub prefix_at_least : (xs ys : List ℕ) → Pass xs → length xs ≤ prefix_len p (xs ++ ys)
  prefix_at_least [] ys h = omega arith
  prefix_at_least (c ∷ xs) ys h = let rest = prefix_at_least xs ys h.1 in rw h.0 (omega arith)

  pub front_passes : (n : ℕ) (xs : List ℕ) → n ≤ prefix_len p xs → Pass (take n xs)
  front_passes zero xs h = tt
  front_passes (suc n) [] h = tt
  front_passes (suc n) (c ∷ xs) h =
      cond_both (p c) (1 + prefix_len p xs) 0 (λ k. suc n ≤ k → Pass (take (suc n) (c ∷ xs))) (λ e k. (e, front_passes n xs (omega arith))) (λ e k. absurd (omega (arith, k))) h
