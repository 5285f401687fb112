-- A row that is gone over item by item.
use Rattle.std.proofs.Common.{◌≡◌, ℕ, zero, suc, ◌+◌, ◌<◌, ◌≤◌, Bool, true, false, cond, if◌then◌else◌, List, [], ◌∷◌, ◌++◌, length, Some, None, refl, sym, ap, ◌∙◌, arith, append-nil}
use Rattle.std.specs.Prelude.{slice_get, slice_index_or, drop, take}
use Rattle.std.specs.List.{filter, position, position_from}
use Rattle.std.proofs.lemmas.Iterator.Adapters.{position_from-zero}
use Rattle.std.proofs.lemmas.List.{take_more}
use Rattle.std.proofs.lemmas.Option.{slice_get_within}
use Rattle.tks_share.specs.Lists.{leading}
use Rattle.tks_share.proofs.AtPlace.{from_item}

module _ {X : Type 0} where
  pub none_left : (xs : List X) (i : ℕ) → length xs ≤ i → drop i xs ≡ []
  none_left [] zero h = refl
  none_left [] (suc i) h = refl
  none_left (x ∷ xs) zero h = absurd (omega (arith, h))
  none_left (x ∷ xs) (suc i) h = none_left xs i (omega (arith, h))

  append_assoc_of : (left : List X) (x : X) (ys : List X) → left ++ x ∷ ys ≡ (left ++ x ∷ []) ++ ys
  append_assoc_of [] x ys = refl
  append_assoc_of (y ∷ left) x ys = ap (λ t. y ∷ t) (append_assoc_of left x ys)

  module _ (p : X → Bool) (xs : List X) (i : ℕ) where
    module _ (so_far : leading p xs ≡ i + leading p (drop i xs)) where
      pub leads_on : (x : X) → slice_get xs i ≡ Some x → p x ≡ true → leading p xs ≡ i + 1 + leading p (drop (i + 1) xs)
      leads_on x is passes =
          so_far ∙ ap (λ t. i + leading p t) (from_item xs i x is)
          ∙ ap (λ b. i + (if b then suc (leading p (drop (i + 1) xs)) else 0)) passes ∙ omega arith

      pub leads_to : (x : X) → slice_get xs i ≡ Some x → p x ≡ false → i ≡ leading p xs
      leads_to x is fails =
          sym (so_far ∙ ap (λ t. i + leading p t) (from_item xs i x is)
          ∙ ap (λ b. i + (if b then suc (leading p (drop (i + 1) xs)) else 0)) fails ∙ omega arith)

      pub leads_out : length xs ≤ i → leading p xs ≡ i
      leads_out h = so_far ∙ ap (λ t. i + leading p t) (none_left xs i h) ∙ omega arith

    module _ (so_far : position p xs ≡ position_from p i (drop i xs)) where
      pub seeks_on : (x : X) → slice_get xs i ≡ Some x → p x ≡ false → position p xs ≡ position_from p (i + 1) (drop (i + 1) xs)
      seeks_on x is fails =
          so_far ∙ ap (position_from p i) (from_item xs i x is)
          ∙ ap (λ b. cond b (Some i) (position_from p (i + 1) (drop (i + 1) xs))) fails

      pub sought : (x : X) → slice_get xs i ≡ Some x → p x ≡ true → Some i ≡ position p xs
      sought x is passes =
          sym (so_far ∙ ap (position_from p i) (from_item xs i x is)
          ∙ ap (λ b. cond b (Some i) (position_from p (i + 1) (drop (i + 1) xs))) passes)

      pub in_vain : length xs ≤ i → None ≡ position p xs
      in_vain h = sym (so_far ∙ ap (position_from p i) (none_left xs i h))

    module _ (left : List X) (so_far : filter p xs ≡ left ++ filter p (drop i xs)) where
      pub keeps_on : (x : X) → slice_get xs i ≡ Some x → p x ≡ true → filter p xs ≡ (left ++ x ∷ []) ++ filter p (drop (i + 1) xs)
      keeps_on x is passes =
          so_far ∙ ap (λ t. left ++ filter p t) (from_item xs i x is)
          ∙ ap (λ b. left ++ cond b (x ∷ filter p (drop (i + 1) xs)) (filter p (drop (i + 1) xs))) passes
          ∙ append_assoc_of left x (filter p (drop (i + 1) xs))

      pub leaves_out : (x : X) → slice_get xs i ≡ Some x → p x ≡ false → filter p xs ≡ left ++ filter p (drop (i + 1) xs)
      leaves_out x is fails =
          so_far ∙ ap (λ t. left ++ filter p t) (from_item xs i x is)
          ∙ ap (λ b. left ++ cond b (x ∷ filter p (drop (i + 1) xs)) (filter p (drop (i + 1) xs))) fails

      pub kept_all : length xs ≤ i → left ≡ filter p xs
      kept_all h = sym (so_far ∙ ap (λ t. left ++ filter p t) (none_left xs i h) ∙ append-nil left)

  nothing_off : (xs : List X) → drop 0 xs ≡ xs
  nothing_off [] = refl
  nothing_off (x ∷ xs) = refl

  pub seeks_from : (p : X → Bool) (xs : List X) → position p xs ≡ position_from p 0 (drop 0 xs)
  seeks_from p xs = position_from-zero p xs ∙ ap (position_from p 0) (sym (nothing_off xs))

  pub none_at : (xs : List X) (i : ℕ) → slice_get xs i ≡ None → i < length xs → ⊥
  none_at [] i is h = omega (arith, h)
  none_at (x ∷ xs) zero is h = cc
  none_at (x ∷ xs) (suc i) is h = none_at xs i is (omega (arith, h))

  got : (xs : List X) (i : ℕ) (x : X) → slice_get xs i ≡ Some x → slice_index_or xs i x ≡ x
  got [] i x is = cc
  got (y ∷ xs) zero x is = cc
  got (y ∷ xs) (suc i) x is = got xs i x is

  pub take_on : (xs : List X) (i : ℕ) (x : X) → slice_get xs i ≡ Some x → take (i + 1) xs ≡ take i xs ++ x ∷ []
  take_on xs i x is = take_more xs i x (slice_get_within xs i x is) ∙ ap (λ z. take i xs ++ z ∷ []) (got xs i x is)
