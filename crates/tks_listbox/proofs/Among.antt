-- Items that come in, go out or are turned one by one.
use Rattle.std.proofs.Common.{◌≡◌, ℕ, zero, suc, ◌+◌, ◌-◌, ◌<◌, ◌≤◌, max, Bool, List, [], ◌∷◌, ◌++◌, length, take, drop, map, get_or, Some, ◌⊎◌, inl, inr, refl, sym, ap, ◌∙◌, append_assoc, arith}
use Rattle.std.specs.Prelude.{slice_get, slice_set}
use Rattle.std.specs.List.{insert, remove}
use Rattle.std.proofs.lemmas.Bool.{cases_lt}
use Rattle.std.proofs.lemmas.List.{length-append, length-map, length-take-le, length-drop, drop-drop, take-append-drop, take_more, map-append}
use Rattle.std.proofs.Math.Seq.{take-append_seam}
use Rattle.tks_listbox.specs.Listbox.{new_item, among, turned, turned_in}
use Rattle.tks_listbox.specs.declared.item.Item.{Item}
use Rattle.tks_listbox.proofs.Places.{got_behind}

module _ {X : Type 0} where
  -- what stands from a place on begins with the item there
  pub behind_got : (xs : List X) (n : ℕ) (x : X) → Some x ≡ slice_get xs n → drop n xs ≡ x ∷ drop (suc n) xs
  behind_got [] zero x e = absurd cc
  behind_got [] (suc n) x e = absurd cc
  behind_got (y ∷ xs) zero x e = let same : y ≡ x = cc in ap (λ z. z ∷ xs) same
  behind_got (y ∷ xs) (suc n) x e = behind_got xs n x e

  got_inside : (xs : List X) (n : ℕ) (x : X) → Some x ≡ slice_get xs n → n < length xs
  got_inside [] zero x e = absurd cc
  got_inside [] (suc n) x e = absurd cc
  got_inside (y ∷ xs) zero x e = omega arith
  got_inside (y ∷ xs) (suc n) x e = let h = got_inside xs n x e in omega arith

  pub some_got : (xs : List X) (n : ℕ) → n < length xs → (x : X) × (Some x ≡ slice_get xs n)
  some_got [] n h = absurd (omega arith)
  some_got (x ∷ xs) zero h = (x, refl)
  some_got (x ∷ xs) (suc n) h = some_got xs n (omega arith)

  one_taken : (xs : List X) (n : ℕ) (x : X) → Some x ≡ slice_get xs n → take (suc n) xs ≡ take n xs ++ x ∷ []
  one_taken [] zero x e = absurd cc
  one_taken [] (suc n) x e = absurd cc
  one_taken (y ∷ xs) zero x e = let same : y ≡ x = cc in ap (λ z. z ∷ []) same
  one_taken (y ∷ xs) (suc n) x e = ap (λ zs. y ∷ zs) (one_taken xs n x e)

  -- one more of a range
  pub among_more : (front place : ℕ) (xs : List X) (x : X) → front ≤ place → Some x ≡ slice_get xs place → among front (place + 1) xs ≡ among front place xs ++ x ∷ []
  among_more front place xs x le e =
      let there : front + (place - front) ≡ place = omega arith in
      let more : place + 1 - front ≡ suc (place - front) = omega arith in
      let got : Some x ≡ slice_get (drop front xs) (place - front) = e ∙ sym (got_behind front xs (place - front) ∙ ap (slice_get xs) there) in
      ap (λ n. take n (drop front xs)) more ∙ one_taken (drop front xs) (place - front) x got

  pub none_among : (front behind : ℕ) (xs : List X) → behind ≤ front → among front behind xs ≡ []
  none_among front behind xs le = let none : behind - front ≡ 0 = omega arith in ap (λ n. take n (drop front xs)) none

  -- ---- in and out

  between : (fs bs cs : List X) (n : ℕ) (x : X) → n ≡ length fs + length bs → insert (fs ++ (bs ++ cs)) n x ≡ fs ++ ((bs ++ x ∷ []) ++ cs)
  between [] [] cs zero x e = refl
  between [] [] cs (suc n) x e = absurd (omega arith)
  between [] (b ∷ bs) cs zero x e = absurd (omega arith)
  between [] (b ∷ bs) cs (suc n) x e = ap (λ xs. b ∷ xs) (between [] bs cs n x (omega arith))
  between (a ∷ fs) bs cs zero x e = absurd (omega arith)
  between (a ∷ fs) bs cs (suc n) x e = ap (λ xs. a ∷ xs) (between fs bs cs n x (omega arith))

  remove_seam : (fs ys : List X) (n : ℕ) → n ≡ length fs → remove (fs ++ ys) n ≡ fs ++ drop 1 ys
  remove_seam [] ys zero e = refl
  remove_seam [] ys (suc n) e = absurd (omega arith)
  remove_seam (a ∷ fs) ys zero e = absurd (omega arith)
  remove_seam (a ∷ fs) ys (suc n) e = ap (λ xs. a ∷ xs) (remove_seam fs ys n (omega arith))

  pub one_out : (front place : ℕ) (xs : List X) → front ≤ length xs → remove (take front xs ++ drop place xs) front ≡ take front xs ++ drop (place + 1) xs
  one_out front place xs within =
      let long : front ≡ length (take front xs) = omega (arith, length-take-le front xs within) in
      remove_seam (take front xs) (drop place xs) front long ∙ ap (λ ys. take front xs ++ ys) (drop-drop 1 place xs)

  pub some_left : (front place : ℕ) (xs : List X) → front ≤ length xs → place < length xs → front < length (take front xs ++ drop place xs)
  some_left front place xs within inside = omega (arith, length-append (take front xs) (drop place xs), length-take-le front xs within, length-drop place xs)

  set_got : (xs : List X) (n : ℕ) (x y : X) → Some x ≡ slice_get xs n → slice_set xs n y ≡ take n xs ++ y ∷ drop (suc n) xs
  set_got [] zero x y e = absurd cc
  set_got [] (suc n) x y e = absurd cc
  set_got (z ∷ xs) zero x y e = refl
  set_got (z ∷ xs) (suc n) x y e = ap (λ zs. z ∷ zs) (set_got xs n x y e)

  got_seam : (fs ys : List X) (x : X) (n : ℕ) → n ≡ length fs → Some x ≡ slice_get (fs ++ x ∷ ys) n
  got_seam [] ys x zero e = refl
  got_seam [] ys x (suc n) e = absurd (omega arith)
  got_seam (a ∷ fs) ys x zero e = absurd (omega arith)
  got_seam (a ∷ fs) ys x (suc n) e = got_seam fs ys x n (omega arith)

-- one more text
pub one_in : (place i : ℕ) (xs : List Item) (texts : List (List ℕ)) (text : List ℕ) → place ≤ length xs → i < length texts → text ≡ get_or texts i text
    → insert (take place xs ++ (map new_item (take i texts) ++ drop place xs)) (place + i) (new_item text) ≡ take place xs ++ (map new_item (take (i + 1) texts) ++ drop place xs)
one_in place i xs texts text within inside e =
    let long : place + i ≡ length (take place xs) + length (map new_item (take i texts)) = omega (arith, length-take-le place xs within, length-map (take i texts) new_item, length-take-le i texts (omega arith)) in
    let more : map new_item (take i texts) ++ new_item text ∷ [] ≡ map new_item (take (i + 1) texts) =
    ap (λ t. map new_item (take i texts) ++ new_item t ∷ []) e ∙ sym (map-append new_item (take i texts) (get_or texts i text ∷ [])) ∙ ap (map new_item) (sym (take_more texts i text inside)) in
    between (take place xs) (map new_item (take i texts)) (drop place xs) (place + i) (new_item text) long
    ∙ ap (λ ys. take place xs ++ (ys ++ drop place xs)) more

-- ---- turned

turned_one : (on : Bool) (n : ℕ) (xs : List Item) (x : Item) → Some x ≡ slice_get xs n → turned_in on n (n + 1) xs ≡ take n xs ++ turned on x ∷ drop (suc n) xs
turned_one on n xs x e =
    let one : n + 1 - n ≡ 1 = omega arith in
    let next : max n (n + 1) ≡ suc n = omega arith in
    ap (λ k. take n xs ++ (map (turned on) (take k (drop n xs)) ++ drop (max n (n + 1)) xs)) one
    ∙ ap (λ k. take n xs ++ (map (turned on) (take 1 (drop n xs)) ++ drop k xs)) next
    ∙ ap (λ ys. take n xs ++ (map (turned on) (take 1 ys) ++ drop (suc n) xs)) (behind_got xs n x e)

pub turned_set : (on : Bool) (n : ℕ) (xs : List Item) (x : Item) → Some x ≡ slice_get xs n → slice_set xs n (turned on x) ≡ turned_in on n (n + 1) xs
turned_set on n xs x e = set_got xs n x (turned on x) e ∙ sym (turned_one on n xs x e)

pub turned_already : (on : Bool) (n : ℕ) (xs : List Item) (x : Item) → Some x ≡ slice_get xs n → x.is_selected ≡ on → xs ≡ turned_in on n (n + 1) xs
turned_already on n xs x e same =
    let kept : turned on x ≡ x = λ i. record { text = x.text; is_selected = sym same i } in
    sym (turned_one on n xs x e ∙ ap (λ y. take n xs ++ y ∷ drop (suc n) xs) kept ∙ ap (λ ys. take n xs ++ ys) (sym (behind_got xs n x e)) ∙ take-append-drop n xs)

-- those up to a place, and then the one there
turned_more : (on : Bool) (front place : ℕ) (xs : List Item) (x : Item) → front ≤ place → Some x ≡ slice_get xs place → turned_in on place (place + 1) (turned_in on front place xs) ≡ turned_in on front (place + 1) xs
turned_more on front place xs x le e =
    let inside = got_inside xs place x e in
    let start : List Item = take front xs in
    let middle : List Item = map (turned on) (among front place xs) in
    let rest = drop (suc place) xs in
    let at : max front place ≡ place = omega arith in
    let next : max front (place + 1) ≡ suc place = omega arith in
    let cut : turned_in on front place xs ≡ (start ++ middle) ++ x ∷ rest =
    ap (λ n. start ++ (middle ++ drop n xs)) at ∙ ap (λ ys. start ++ (middle ++ ys)) (behind_got xs place x e) ∙ sym (append_assoc start middle (x ∷ rest)) in
    let long : place ≡ length (start ++ middle) =
    omega (arith, length-append start middle, length-take-le front xs (omega arith), length-map (among front place xs) (turned on), length-take-le (place - front) (drop front xs) (omega (arith, length-drop front xs))) in
    let got : Some x ≡ slice_get ((start ++ middle) ++ x ∷ rest) place = got_seam (start ++ middle) rest x place long in
    ap (turned_in on place (place + 1)) cut
    ∙ turned_one on place ((start ++ middle) ++ x ∷ rest) x got
    ∙ ap (λ n. take n ((start ++ middle) ++ x ∷ rest) ++ turned on x ∷ drop (suc place) ((start ++ middle) ++ x ∷ rest)) long
    ∙ ap (λ ys. ys ++ turned on x ∷ drop (suc place) ((start ++ middle) ++ x ∷ rest)) (take-append_seam (start ++ middle) (x ∷ rest))
    ∙ ap (λ ys. (start ++ middle) ++ turned on x ∷ ys) (behind (start ++ middle) place long)
    ∙ append_assoc start middle (turned on x ∷ rest)
    ∙ ap (λ ys. start ++ ys) (sym (append_assoc middle (turned on x ∷ []) rest))
    ∙ ap (λ ys. start ++ (ys ++ rest)) (sym (map-append (turned on) (among front place xs) (x ∷ [])) ∙ ap (map (turned on)) (sym (among_more front place xs x le e)))
    ∙ ap (λ n. start ++ (map (turned on) (among front (place + 1) xs) ++ drop n xs)) (sym next)
  where
    behind : (fs : List Item) (n : ℕ) → n ≡ length fs → drop (suc n) (fs ++ x ∷ drop (suc place) xs) ≡ drop (suc place) xs
    behind [] zero h = refl
    behind [] (suc n) h = absurd (omega arith)
    behind (a ∷ fs) zero h = absurd (omega arith)
    behind (a ∷ fs) (suc n) h = behind fs n (omega arith)

pub turned_next : (on : Bool) (front place : ℕ) (xs : List Item) → front ≤ place → place < length xs → turned_in on place (place + 1) (turned_in on front place xs) ≡ turned_in on front (place + 1) xs
turned_next on front place xs le inside = let got = some_got xs place inside in turned_more on front place xs got.0 le got.1

pub none_turned : (on : Bool) (front behind : ℕ) (xs : List Item) → behind ≤ front → turned_in on front behind xs ≡ xs
none_turned on front behind xs le =
    let same : max front behind ≡ front = omega arith in
    ap (λ ys. take front xs ++ (map (turned on) ys ++ drop (max front behind) xs)) (none_among front behind xs le)
    ∙ ap (λ n. take front xs ++ drop n xs) same
    ∙ take-append-drop front xs

-- behind the last one
pub all_turned : (on : Bool) (front behind place : ℕ) (xs : List Item) → front ≤ place → (front ≤ behind → place ≤ behind) → (behind ≤ front → place ≡ front) → behind ≤ place → turned_in on front place xs ≡ turned_in on front behind xs
all_turned on front behind place xs low high none far = by (cases_lt front behind)
  where
    by : (front < behind) ⊎ (behind ≤ front) → turned_in on front place xs ≡ turned_in on front behind xs
    by (inl some) =
        let within = high (omega arith) in
        let same : place ≡ behind = omega arith in
        ap (λ n. turned_in on front n xs) same
    by (inr le) = ap (λ n. turned_in on front n xs) (none le) ∙ none_turned on front front xs (omega arith) ∙ sym (none_turned on front behind xs le)

pub all_among : {X : Type 0} (front behind place : ℕ) (xs : List X) → front ≤ place → (front ≤ behind → place ≤ behind) → (behind ≤ front → place ≡ front) → behind ≤ place → among front place xs ≡ among front behind xs
all_among front behind place xs low high none far = by (cases_lt front behind)
  where
    by : (front < behind) ⊎ (behind ≤ front) → among front place xs ≡ among front behind xs
    by (inl some) =
        let within = high (omega arith) in
        let same : place ≡ behind = omega arith in
        ap (λ n. among front n xs) same
    by (inr le) = ap (λ n. among front n xs) (none le) ∙ none_among front front xs (omega arith) ∙ sym (none_among front behind xs le)
