-- What a test says of lists that are made of lists of which it holds, and what one of two has.
use Rattle.std.proofs.Common.{◌≡◌, ℕ, Bool, true, false, if◌then◌else◌, List, [], ◌∷◌, ◌++◌, map, take, drop, Some, find, filter, IfSome, Result, IfOk, refl, ◌∙◌}
use Rattle.std.specs.List.{list_all}
use Rattle.std.proofs.lemmas.Bool.{and_parts, and_from}
use Rattle.std.proofs.lemmas.List.Elements.{All-filter, All-take, All-drop}
use Rattle.std.proofs.lemmas.List.Folds.{list_all-append}
use Rattle.std.proofs.lemmas.List.Sums.{AllPass-from_list_all, list_all-from_AllPass}

-- ---- one of two

-- one of two values, whatever is asked
pub one_so : {X : Type 0} (P : X → Type 0) (asked : Bool) (x y : X) → P x → P y → P (if asked then x else y)
one_so P true x y h k = h
one_so P false x y h k = k

-- one of two results, whatever is asked
pub one_of : {X E : Type 0} (P : X → Type 0) (asked : Bool) (r s : Result X E) → IfOk r P → IfOk s P → IfOk (if asked then r else s) P
one_of P true r s h k = h
one_of P false r s h k = k

-- one of two results, where the first comes only of what is asked
pub one_where : {X E : Type 0} (P : X → Type 0) (asked : Bool) (r s : Result X E) → (asked ≡ true → IfOk r P) → IfOk s P → IfOk (if asked then r else s) P
one_where P true r s h k = h refl
one_where P false r s h k = k

-- ---- lists

module _ {X : Type 0} (p : X → Bool) where
  -- the test holds of all
  abbrev pub AllSo : List X → Type 0
  AllSo xs = list_all p xs ≡ true

  -- one list behind the other
  pub appended_so : (xs ys : List X) → AllSo xs → AllSo ys → AllSo (xs ++ ys)
  appended_so xs ys h k = list_all-append p xs ys ∙ and_from (list_all p xs) (list_all p ys) h k

  -- one more behind all
  pub pushed_so : (xs : List X) (x : X) → AllSo xs → p x ≡ true → AllSo (xs ++ x ∷ [])
  pushed_so xs x h k = appended_so xs (x ∷ []) h (and_from (p x) true k refl)

  -- those that another test lets through
  pub filtered_so : (q : X → Bool) (xs : List X) → AllSo xs → AllSo (filter q xs)
  filtered_so q xs h = list_all-from_AllPass p (filter q xs) (All-filter q (λ x. p x ≡ true) xs (AllPass-from_list_all p xs h))

  -- the first ones
  pub front_so : (n : ℕ) (xs : List X) → AllSo xs → AllSo (take n xs)
  front_so n xs h = list_all-from_AllPass p (take n xs) (All-take (λ x. p x ≡ true) n xs (AllPass-from_list_all p xs h))

  -- those behind the first ones
  pub behind_so : (n : ℕ) (xs : List X) → AllSo xs → AllSo (drop n xs)
  behind_so n xs h = list_all-from_AllPass p (drop n xs) (All-drop (λ x. p x ≡ true) n xs (AllPass-from_list_all p xs h))

  -- each changed to one of which it holds
  pub changed_so : (f : X → X) → ((x : X) → p x ≡ true → p (f x) ≡ true) → (xs : List X) → AllSo xs → AllSo (map f xs)
  changed_so f keeps [] h = refl
  changed_so f keeps (x ∷ xs) h =
      let both = and_parts (p x) (list_all p xs) h in
      and_from (p (f x)) (list_all p (map f xs)) (keeps x both.0) (changed_so f keeps xs both.1)

  -- the first of which another test holds
  pub found_so : (test : X → Bool) (xs : List X) → AllSo xs → IfSome (find test xs) (λ x. p x ≡ true)
  found_so test [] h = tt
  found_so test (x ∷ xs) h =
      let both = and_parts (p x) (list_all p xs) h in
      one_so (λ o. IfSome o (λ y. p y ≡ true)) (test x) (Some x) (find test xs) both.0 (found_so test xs both.1)
