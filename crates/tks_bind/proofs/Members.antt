-- Members of lists.
use Rattle.std.specs.List.{filter, list_all}
use Rattle.std.proofs.Common.{rules, ◌≡◌, ◌⊎◌, inl, inr, ℕ, zero, suc, ◌==◌, ◌+◌, ◌<◌, Bool, true, false, cond, List, [], ◌∷◌, ◌++◌, length, drop, get_or, arith, refl, ap, sym, ◌∙◌}
use Rattle.tks_text.proofs.Texts.{both}
use Rattle.tks_bind.specs.Chosen.{IsOneOf}

module _ {X : Type 0} (x : X) where
  pub one_left : (xs ys : List X) → IsOneOf x xs → IsOneOf x (xs ++ ys)
  one_left [] ys i = absurd i
  one_left (y ∷ xs) ys (inl e) = inl e
  one_left (y ∷ xs) ys (inr i) = inr (one_left xs ys i)

  pub one_right : (xs ys : List X) → IsOneOf x ys → IsOneOf x (xs ++ ys)
  one_right [] ys i = i
  one_right (y ∷ xs) ys i = inr (one_right xs ys i)

  pub one_either : (xs ys : List X) → IsOneOf x (xs ++ ys) → IsOneOf x xs ⊎ IsOneOf x ys
  one_either [] ys i = inr i
  one_either (y ∷ xs) ys (inl e) = inl (inl e)
  one_either (y ∷ xs) ys (inr i) = by (one_either xs ys i)
    where
      by : IsOneOf x xs ⊎ IsOneOf x ys → IsOneOf x (y ∷ xs) ⊎ IsOneOf x ys
      by (inl j) = inl (inr j)
      by (inr j) = inr j

  pub one_kept : (test : X → Bool) (xs : List X) → IsOneOf x xs → test x ≡ true → IsOneOf x (filter test xs)
  one_kept test [] i h = i
  one_kept test (y ∷ xs) i h = by (test y) refl i (λ j. one_kept test xs j h)
    where
      by : (b : Bool) → test y ≡ b → IsOneOf x (y ∷ xs) → (IsOneOf x xs → IsOneOf x (filter test xs)) → IsOneOf x (cond b (y ∷ filter test xs) (filter test xs))
      by true e (inl same) rest = inl same
      by true e (inr j) rest = inr (rest j)
      by false e (inl same) rest = absurd (let g : true ≡ false = sym h ∙ (ap test same ∙ e) in cc)
      by false e (inr j) rest = rest j

  pub one_of_kept : (test : X → Bool) (xs : List X) → IsOneOf x (filter test xs) → IsOneOf x xs × (test x ≡ true)
  one_of_kept test [] i = absurd i
  one_of_kept test (y ∷ xs) i = by (test y) refl i (one_of_kept test xs)
    where
      by : (b : Bool) → test y ≡ b → IsOneOf x (cond b (y ∷ filter test xs) (filter test xs)) → (IsOneOf x (filter test xs) → IsOneOf x xs × (test x ≡ true)) → IsOneOf x (y ∷ xs) × (test x ≡ true)
      by true e (inl same) rest = (inl same, ap test same ∙ e)
      by true e (inr j) rest = let r = rest j in (inr r.0, r.1)
      by false e j rest = let r = rest j in (inr r.0, r.1)

-- those from one on are that one, and those behind it
pub drop_next : {X : Type 0} (xs : List X) (n : ℕ) (x : X) → n < length xs → x ≡ get_or xs n x → drop n xs ≡ x ∷ drop (n + 1) xs
drop_next [] n x h e = absurd (omega arith)
drop_next (y ∷ xs) zero x h e = ap (λ z. z ∷ xs) (sym e)
drop_next (y ∷ xs) (suc n) x h e = let more : suc n + 1 ≡ suc (n + 1) = omega arith in rw more (drop_next xs n x (omega arith) e)

pub behind_one : {X : Type 0} (xs : List X) (x : X) (ys : List X) → (xs ++ x ∷ []) ++ ys ≡ xs ++ x ∷ ys
behind_one [] x ys = refl
behind_one (y ∷ xs) x ys = ap (λ l. y ∷ l) (behind_one xs x ys)

-- those so far with the next one, and those behind it
pub one_on : {X : Type 0} (xs : List X) (x : X) (ys left all : List X) → left ≡ x ∷ ys → xs ++ left ≡ all → (xs ++ x ∷ []) ++ ys ≡ all
one_on xs x ys left all steps is = behind_one xs x ys ∙ (ap (λ l. xs ++ l) (sym steps) ∙ is)

-- what holds of each holds of one between others
pub all_at : {X : Type 0} (test : X → Bool) (xs : List X) (y : X) (ys : List X) → list_all test (xs ++ y ∷ ys) ≡ true → test y ≡ true
all_at test [] y ys h = (both (test y) (list_all test ys) h).0
all_at test (x ∷ xs) y ys h = all_at test xs y ys (both (test x) (list_all test (xs ++ y ∷ ys)) h).1

pub empty_list : {X : Type 0} (xs : List X) → (length xs == 0) ≡ true → xs ≡ []
empty_list [] h = refl
empty_list (x ∷ xs) h = absurd (let other : (suc (length xs) == 0) ≡ false = search rules in let g : false ≡ true = sym other ∙ h in cc)
