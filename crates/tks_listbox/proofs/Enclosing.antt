-- Bounds that stay around what is selected.
use Rattle.std.proofs.Common.{◌≡◌, ℕ, zero, suc, ◌+◌, ◌-◌, ◌<◌, ◌≤◌, nat_le, nat_lt, min, max, Bool, true, false, if◌then◌else◌, List, [], ◌∷◌, ◌++◌, length, take, drop, map, get_or, ◌⊎◌, inl, inr, refl, sym, ap, subst, ◌∙◌, true≢false, arith}
use Rattle.std.proofs.lemmas.Bool.{cases_lt}
use Rattle.std.proofs.lemmas.Bool.Decides.{nat_tests}
use Rattle.std.proofs.lemmas.List.{length-append, length-map, length-take-le, length-drop, get_or_append_left, get_or-append_right, get_or-take, get_or-drop, get_or-map, get_or_default, same_lists}
use Rattle.tks_listbox.specs.Listbox.{HasActive, new_item, moved_on, moved_back, among, turned, turned_in, selected_from}
use Rattle.tks_listbox.specs.Bounds.{no_item, is_on, Encloses, nowhere, come_in, go_out, with_range, without_range, turned_range}
use Rattle.tks_listbox.specs.declared.item.Item.{Item}
use Rattle.tks_listbox.specs.declared.bounds.Bounds.{Bounds}
use Rattle.tks_listbox.proofs.Among.{none_turned}

-- ---- others in the place of a part of a list

module _ {X : Type 0} (p q : ℕ) (xs ys : List X) (d : X) (within : p ≤ length xs) where
  in_front : (i : ℕ) → i < p → get_or (take p xs ++ (ys ++ drop q xs)) i d ≡ get_or xs i d
  in_front i h =
      let inside : i < length (take p xs) = omega (arith, length-take-le p xs within) in
      get_or_append_left (take p xs) (ys ++ drop q xs) d i inside ∙ get_or-take p xs i d h

  amid : (i : ℕ) → p ≤ i → i < p + length ys → get_or (take p xs ++ (ys ++ drop q xs)) i d ≡ get_or ys (i - p) d
  amid i low high =
      get_or-append_right (take p xs) (ys ++ drop q xs) p i d (length-take-le p xs within) low ∙ get_or_append_left ys (drop q xs) d (i - p) (omega arith)

  in_rest : (i : ℕ) → p + length ys ≤ i → get_or (take p xs ++ (ys ++ drop q xs)) i d ≡ get_or xs (q + (i - p - length ys)) d
  in_rest i h =
      get_or-append_right (take p xs) (ys ++ drop q xs) p i d (length-take-le p xs within) (omega arith)
      ∙ get_or-append_right ys (drop q xs) (length ys) (i - p) d refl (omega arith)
      ∙ get_or-drop q xs (i - p - length ys) d

same_on : (x y : Item) → x ≡ y → x.is_selected ≡ y.is_selected
same_on x y e = ap (λ (z : Item). z.is_selected) e

not_both : (b : Bool) → b ≡ true → b ≡ false → ⊥
not_both b t f = true≢false (sym t ∙ f)

off_unless : (b : Bool) → (b ≡ true → ⊥) → b ≡ false
off_unless true h = absurd (h refl)
off_unless false h = refl

-- ---- items that come in

module _ (place : ℕ) (texts : List (List ℕ)) (items : List Item) (b : Bounds) (within : place ≤ length items) (h : Encloses b items) where
  abbrev grown : List Item
  grown = take place items ++ (map new_item texts ++ drop place items)

  grown_long : length grown ≡ length items + length texts
  grown_long =
      omega (arith, length-append (take place items) (map new_item texts ++ drop place items), length-append (map new_item texts) (drop place items), length-take-le place items within, length-map texts new_item, length-drop place items)

  -- a selected one stood before the place, or behind it
  abbrev Stood : ℕ → Type 0
  Stood i = ((i < place) × (is_on items i ≡ true)) ⊎ ((place + length texts ≤ i) × (is_on items (i - length texts) ≡ true))

  stood : (i : ℕ) → is_on grown i ≡ true → Stood i
  stood i e = by (cases_lt i place)
    where
      news : List Item
      news = map new_item texts

      many : length news ≡ length texts
      many = length-map texts new_item

      late : place ≤ i → (i < place + length texts) ⊎ (place + length texts ≤ i) → Stood i
      late low (inl high) =
          let off = same_on _ _ (amid place place items news no_item within i low (omega (arith, many)) ∙ get_or-map new_item texts (i - place) [] no_item (omega arith)) in
          absurd (not_both (is_on grown i) e off)
      late low (inr far) =
          let there : place + (i - place - length news) ≡ i - length texts = omega (arith, many) in
          let same = same_on _ _ (in_rest place place items news no_item within i (omega (arith, many)) ∙ ap (λ n. get_or items n no_item) there) in
          inr (far, sym same ∙ e)

      by : (i < place) ⊎ (place ≤ i) → Stood i
      by (inl early) = inl (early, sym (same_on _ _ (in_front place place items news no_item within i early)) ∙ e)
      by (inr low) = late low (cases_lt i (place + length texts))

  pub came_in : Encloses (come_in place (length texts) b) grown
  came_in = by (nat_le b.behind place) refl
    where
      moved : (t : Bool) → nat_le place b.front ≡ t → place < b.behind → Encloses (record { front = if t then b.front + length texts else b.front; behind = b.behind + length texts }) grown
      moved true f some =
          let low : place ≤ b.front = grind (arith, nat_tests) in
          record {
            order = omega (arith, h.order);
            within = omega (arith, grown_long, h.within);
            around = λ i e. there low i (stood i e);
          }
        where
          there : place ≤ b.front → (i : ℕ) → Stood i → (b.front + length texts ≤ i) × (i < b.behind + length texts)
          there low i (inl s) = let a = h.around i s.1 in absurd (omega (arith, a.0, s.0))
          there low i (inr s) = let a = h.around (i - length texts) s.1 in (omega (arith, a.0, s.0), omega (arith, a.1, s.0))
      moved false f some =
          record {
            order = omega (arith, h.order);
            within = omega (arith, grown_long, h.within);
            around = λ i e. there i (stood i e);
          }
        where
          there : (i : ℕ) → Stood i → (b.front ≤ i) × (i < b.behind + length texts)
          there i (inl s) = let a = h.around i s.1 in (a.0, omega (arith, a.1))
          there i (inr s) = let a = h.around (i - length texts) s.1 in (omega (arith, a.0, s.0), omega (arith, a.1, s.0))

      by : (s : Bool) → nat_le b.behind place ≡ s → Encloses (if s then b else record { front = if nat_le place b.front then b.front + length texts else b.front; behind = b.behind + length texts }) grown
      by true e =
          let past : b.behind ≤ place = grind (arith, nat_tests) in
          record {
            order = h.order;
            within = omega (arith, grown_long, h.within);
            around = λ i o. there past i (stood i o);
          }
        where
          there : b.behind ≤ place → (i : ℕ) → Stood i → (b.front ≤ i) × (i < b.behind)
          there past i (inl s) = h.around i s.1
          there past i (inr s) = let a = h.around (i - length texts) s.1 in absurd (omega (arith, a.1, s.0))
      by false e = moved (nat_le place b.front) refl (grind (arith, nat_tests))

-- ---- items that go out

module _ (front behind : ℕ) (items : List Item) (b : Bounds) (some : front < behind) (within : behind ≤ length items) (h : Encloses b items) where
  abbrev fewer : List Item
  fewer = take front items ++ drop behind items

  fewer_long : length fewer ≡ front + (length items - behind)
  fewer_long = omega (arith, length-append (take front items) (drop behind items), length-take-le front items (omega arith), length-drop behind items)

  went_out : Encloses (go_out front behind b) fewer
  went_out =
      record {
        order = omega (arith, h.order);
        within = omega (arith, fewer_long, h.within);
        around = λ i e. there i e (cases_lt i front);
      }
    where
      there : (i : ℕ) → is_on fewer i ≡ true → (i < front) ⊎ (front ≤ i) → ((go_out front behind b).front ≤ i) × (i < (go_out front behind b).behind)
      there i e (inl early) =
          let a = h.around i (sym (same_on _ _ (in_front front behind items [] no_item (omega arith) i early)) ∙ e) in
          (omega (arith, a.0, early), omega (arith, a.1, early))
      there i e (inr late) =
          let at : behind + (i - front - 0) ≡ behind + (i - front) = omega arith in
          let same = same_on _ _ (in_rest front behind items [] no_item (omega arith) i (omega arith) ∙ ap (λ n. get_or items n no_item) at) in
          let a = h.around (behind + (i - front)) (sym same ∙ e) in
          (omega (arith, a.0, late), omega (arith, a.1, late))

-- ---- items that are selected, or taken out of the selection

module _ (on : Bool) (front behind : ℕ) (items : List Item) (within : behind ≤ length items) where
  abbrev Outside : ℕ → Type 0
  Outside i = (i < front) ⊎ (behind ≤ i)

  turned_inside : (i : ℕ) (d : Item) → front ≤ i → i < behind → get_or (turned_in on front behind items) i d ≡ turned on (get_or items i d)
  turned_inside i d low high =
      let fits : front ≤ length items = omega arith in
      let part = among front behind items in
      let long : length part ≡ behind - front = omega (arith, length-take-le (behind - front) (drop front items) (omega (arith, length-drop front items))) in
      let many : length (map (turned on) part) ≡ behind - front = omega (arith, length-map part (turned on), long) in
      let there : front + (i - front) ≡ i = omega arith in
      amid front (max front behind) items (map (turned on) part) d fits i low (omega (arith, many))
      ∙ get_or-map (turned on) part (i - front) d d (omega (arith, long))
      ∙ ap (turned on) (get_or-take (behind - front) (drop front items) (i - front) d (omega arith) ∙ get_or-drop front items (i - front) d ∙ ap (λ n. get_or items n d) there)

  turned_outside : (i : ℕ) (d : Item) → Outside i → get_or (turned_in on front behind items) i d ≡ get_or items i d
  turned_outside i d out = by (cases_lt front behind)
    where
      part : List Item
      part = among front behind items

      some : front < behind → Outside i → get_or (turned_in on front behind items) i d ≡ get_or items i d
      some s (inl early) = in_front front (max front behind) items (map (turned on) part) d (omega arith) i early
      some s (inr late) =
          let long : length part ≡ behind - front = omega (arith, length-take-le (behind - front) (drop front items) (omega (arith, length-drop front items))) in
          let many : length (map (turned on) part) ≡ behind - front = omega (arith, length-map part (turned on), long) in
          let there : max front behind + (i - front - length (map (turned on) part)) ≡ i = omega (arith, many) in
          in_rest front (max front behind) items (map (turned on) part) d (omega arith) i (omega (arith, many)) ∙ ap (λ n. get_or items n d) there

      by : (front < behind) ⊎ (behind ≤ front) → get_or (turned_in on front behind items) i d ≡ get_or items i d
      by (inl s) = some s out
      by (inr none) = ap (λ xs. get_or xs i d) (none_turned on front behind items none)

  turned_long : length (turned_in on front behind items) ≡ length items
  turned_long = by (cases_lt front behind)
    where
      part : List Item
      part = among front behind items

      by : (front < behind) ⊎ (behind ≤ front) → length (turned_in on front behind items) ≡ length items
      by (inl s) =
          omega (arith, length-append (take front items) (map (turned on) part ++ drop (max front behind) items), length-append (map (turned on) part) (drop (max front behind) items), length-take-le front items (omega arith), length-map part (turned on), length-take-le (behind - front) (drop front items) (omega (arith, length-drop front items)), length-drop (max front behind) items)
      by (inr none) = ap length (none_turned on front behind items none)

  side : (i : ℕ) → Outside i ⊎ ((front ≤ i) × (i < behind))
  side i = by (cases_lt i front) (cases_lt i behind)
    where
      by : (i < front) ⊎ (front ≤ i) → (i < behind) ⊎ (behind ≤ i) → Outside i ⊎ ((front ≤ i) × (i < behind))
      by (inl early) other = inl (inl early)
      by (inr low) (inl high) = inr (low, high)
      by (inr low) (inr late) = inl (inr late)

-- taken out of the selection where no others are in it: those between the bounds
pub turned_off_within : (front behind : ℕ) (items : List Item) (b : Bounds) → behind ≤ length items → Encloses b items
    → turned_in false (max front b.front) (min behind b.behind) items ≡ turned_in false front behind items
turned_off_within front behind items b within h =
    same_lists (turned_in false low high items) (turned_in false front behind items) (long ∙ sym (turned_long false front behind items within)) (λ k d inside. same k d (omega (arith, long)) (side false front behind items within k) (side false low high items fits k))
  where
    low : ℕ
    low = max front b.front

    high : ℕ
    high = min behind b.behind

    fits : high ≤ length items
    fits = omega arith

    long : length (turned_in false low high items) ≡ length items
    long = turned_long false low high items fits

    as_it_is : (x : Item) → x.is_selected ≡ false → turned false x ≡ x
    as_it_is x e = λ i. record { text = x.text; is_selected = sym e i }

    unselected : (k : ℕ) (d : Item) → k < length items → Outside false low high items fits k → front ≤ k → k < behind → turned false (get_or items k d) ≡ get_or items k d
    unselected k d inside out f g =
        let same : get_or items k d ≡ get_or items k no_item = get_or_default items k d no_item inside in
        let off : is_on items k ≡ false = off_unless (is_on items k) (λ e. let a = h.around k e in away out a.0 a.1) in
        as_it_is (get_or items k d) (same_on _ _ same ∙ off)
      where
        away : Outside false low high items fits k → b.front ≤ k → k < b.behind → ⊥
        away (inl early) p q = absurd (omega arith)
        away (inr late) p q = absurd (omega arith)

    same : (k : ℕ) (d : Item) → k < length items → Outside false front behind items within k ⊎ ((front ≤ k) × (k < behind)) → Outside false low high items fits k ⊎ ((low ≤ k) × (k < high))
        → get_or (turned_in false low high items) k d ≡ get_or (turned_in false front behind items) k d
    same k d inside (inl out) (inl away) = turned_outside false low high items fits k d away ∙ sym (turned_outside false front behind items within k d out)
    same k d inside (inr here) (inr there) = turned_inside false low high items fits k d there.0 there.1 ∙ sym (turned_inside false front behind items within k d here.0 here.1)
    same k d inside (inr here) (inl away) =
        turned_outside false low high items fits k d away ∙ sym (unselected k d inside away here.0 here.1) ∙ sym (turned_inside false front behind items within k d here.0 here.1)
    same k d inside (inl (inl early)) (inr there) = absurd (omega (arith, there.0))
    same k d inside (inl (inr late)) (inr there) = absurd (omega (arith, there.1))

module _ (front behind : ℕ) (items : List Item) (b : Bounds) (within : behind ≤ length items) (h : Encloses b items) where
  -- ---- selected

  selected_so : Encloses (with_range front behind b) (turned_in true front behind items)
  selected_so = by (nat_le behind front) refl (nat_le b.behind b.front) refl
    where
      new : List Item
      new = turned_in true front behind items

      long : length new ≡ length items
      long = turned_long true front behind items within

      was : (i : ℕ) → is_on new i ≡ true → ((front ≤ i) × (i < behind)) ⊎ ((b.front ≤ i) × (i < b.behind))
      was i e = sides (side true front behind items within i)
        where
          sides : Outside true front behind items within i ⊎ ((front ≤ i) × (i < behind)) → ((front ≤ i) × (i < behind)) ⊎ ((b.front ≤ i) × (i < b.behind))
          sides (inr here) = inl here
          sides (inl out) = inr (h.around i (sym (same_on _ _ (turned_outside true front behind items within i no_item out)) ∙ e))

      by : (s : Bool) → nat_le behind front ≡ s → (t : Bool) → nat_le b.behind b.front ≡ t
          → Encloses (if s then b else (if t then record { front = front; behind = behind } else record { front = min b.front front; behind = max b.behind behind })) new
      by true e t f =
          let none : behind ≤ front = grind (arith, nat_tests) in
          subst (Encloses b) (sym (none_turned true front behind items none)) h
      by false e true f =
          let some : front < behind = grind (arith, nat_tests) in
          let empty : b.behind ≤ b.front = grind (arith, nat_tests) in
          record {
            order = omega arith;
            within = omega (arith, long);
            around = λ i o. there empty i (was i o);
          }
        where
          there : b.behind ≤ b.front → (i : ℕ) → ((front ≤ i) × (i < behind)) ⊎ ((b.front ≤ i) × (i < b.behind)) → (front ≤ i) × (i < behind)
          there empty i (inl s) = s
          there empty i (inr s) = absurd (omega (arith, s.0, s.1))
      by false e false f =
          let some : front < behind = grind (arith, nat_tests) in
          record {
            order = omega (arith, h.order);
            within = omega (arith, long, h.within);
            around = λ i o. there i (was i o);
          }
        where
          there : (i : ℕ) → ((front ≤ i) × (i < behind)) ⊎ ((b.front ≤ i) × (i < b.behind)) → (min b.front front ≤ i) × (i < max b.behind behind)
          there i (inl s) = (omega (arith, s.0), omega (arith, s.1))
          there i (inr s) = (omega (arith, s.0), omega (arith, s.1))

  -- ---- taken out

  cleared_so : Encloses (without_range front behind b) (turned_in false front behind items)
  cleared_so = by (nat_lt behind b.behind) refl
    where
      new : List Item
      new = turned_in false front behind items

      long : length new ≡ length items
      long = turned_long false front behind items within

      Was : ℕ → Type 0
      Was i = Outside false front behind items within i × ((b.front ≤ i) × (i < b.behind))

      was : (i : ℕ) → is_on new i ≡ true → Was i
      was i e = sides (side false front behind items within i)
        where
          sides : Outside false front behind items within i ⊎ ((front ≤ i) × (i < behind)) → Was i
          sides (inl out) = (out, h.around i (sym (same_on _ _ (turned_outside false front behind items within i no_item out)) ∙ e))
          sides (inr here) = absurd (not_both (is_on new i) e (same_on _ _ (turned_inside false front behind items within i no_item here.0 here.1)))

      first : (t : Bool) → nat_le front b.front ≡ t → behind < b.behind → Encloses (record { front = if t then max b.front behind else b.front; behind = b.behind }) new
      first true e some =
          let low : front ≤ b.front = grind (arith, nat_tests) in
          record {
            order = omega (arith, h.order);
            within = omega (arith, long, h.within);
            around = λ i o. there low i (was i o);
          }
        where
          there : front ≤ b.front → (i : ℕ) → Was i → (max b.front behind ≤ i) × (i < b.behind)
          there low i (inl early, s) = absurd (omega (arith, s.0))
          there low i (inr late, s) = (omega (arith, s.0), s.1)
      first false e some =
          record {
            order = h.order;
            within = omega (arith, long, h.within);
            around = λ i o. (was i o).1;
          }

      second : (t : Bool) → nat_lt b.front front ≡ t → b.behind ≤ behind → Encloses (if t then record { front = b.front; behind = min b.behind front } else nowhere) new
      second true e far =
          let high : b.front < front = grind (arith, nat_tests) in
          record {
            order = omega (arith, h.order);
            within = omega (arith, long, h.within);
            around = λ i o. there i (was i o);
          }
        where
          there : (i : ℕ) → Was i → (b.front ≤ i) × (i < min b.behind front)
          there i (inl early, s) = (s.0, omega (arith, s.1))
          there i (inr late, s) = absurd (omega (arith, s.1))
      second false e far =
          let low : front ≤ b.front = grind (arith, nat_tests) in
          record {
            order = omega arith;
            within = omega arith;
            around = λ i o. there low i (was i o);
          }
        where
          there : front ≤ b.front → (i : ℕ) → Was i → (0 ≤ i) × (i < 0)
          there low i (inl early, s) = absurd (omega (arith, s.0))
          there low i (inr late, s) = absurd (omega (arith, s.1))

      by : (s : Bool) → nat_lt behind b.behind ≡ s
          → Encloses (if s then record { front = if nat_le front b.front then max b.front behind else b.front; behind = b.behind } else (if nat_lt b.front front then record { front = b.front; behind = min b.behind front } else nowhere)) new
      by true e = first (nat_le front b.front) refl (grind (arith, nat_tests))
      by false e = second (nat_lt b.front front) refl (grind (arith, nat_tests))

  pub turned_so : (on : Bool) → Encloses (turned_range on front behind b) (turned_in on front behind items)
  turned_so true = selected_so
  turned_so false = cleared_so

-- ---- of a listbox

pub around_more : (place : ℕ) (texts : List (List ℕ)) (items new : List Item) (b c : Bounds) → place ≤ length items → new ≡ take place items ++ (map new_item texts ++ drop place items) → c ≡ come_in place (length texts) b
    → Encloses b items → Encloses c new
around_more place texts items new b c within e f h = subst (Encloses c) (sym e) (subst (λ d. Encloses d (take place items ++ (map new_item texts ++ drop place items))) (sym f) (came_in place texts items b within h))

pub around_less : (front behind : ℕ) (items new : List Item) (b c : Bounds) → front < behind → behind ≤ length items → new ≡ take front items ++ drop behind items → c ≡ go_out front behind b
    → Encloses b items → Encloses c new
around_less front behind items new b c some within e f h = subst (Encloses c) (sym e) (subst (λ d. Encloses d (take front items ++ drop behind items)) (sym f) (went_out front behind items b some within h))

pub around_turned : (on : Bool) (front behind : ℕ) (items new : List Item) (b c : Bounds) → behind ≤ length items → new ≡ turned_in on front behind items → c ≡ turned_range on front behind b
    → Encloses b items → Encloses c new
around_turned on front behind items new b c within e f h = subst (Encloses c) (sym e) (subst (λ d. Encloses d (turned_in on front behind items)) (sym f) (turned_so front behind items b within h on))

-- the active item stays one of them
pub active_on : (place active : ℕ) (texts : List (List ℕ)) (items new : List Item) → place ≤ length items → new ≡ take place items ++ (map new_item texts ++ drop place items)
    → HasActive items active → HasActive new (moved_on (length items) place (length texts) active)
active_on place active texts items new within e h =
    let long = ap length e ∙ many place texts items within in
    by items h long
  where
    many : (place : ℕ) (texts : List (List ℕ)) (items : List Item) → place ≤ length items → length (take place items ++ (map new_item texts ++ drop place items)) ≡ length items + length texts
    many place texts items within =
        omega (arith, length-append (take place items) (map new_item texts ++ drop place items), length-append (map new_item texts) (drop place items), length-take-le place items within, length-map texts new_item, length-drop place items)

    by : (items : List Item) → HasActive items active → length new ≡ length items + length texts → HasActive new (moved_on (length items) place (length texts) active)
    by [] low long = omega (arith, low, long)
    by (x ∷ items) low long = goes (nat_le place active)
      where
        goes : (t : Bool) → (if t then active + length texts else active) < max 1 (length new)
        goes true = omega (arith, low, long)
        goes false = omega (arith, low, long)

pub active_back : (front behind active : ℕ) (items new : List Item) → front < behind → behind ≤ length items → new ≡ take front items ++ drop behind items
    → HasActive items active → HasActive new (moved_back front behind (length items) active)
active_back front behind active items new some within e h = by (nat_lt active front) refl (nat_le behind active) refl
  where
    long : length new ≡ front + (length items - behind)
    long = ap length e ∙ omega (arith, length-append (take front items) (drop behind items), length-take-le front items (omega arith), length-drop behind items)

    by : (s : Bool) → nat_lt active front ≡ s → (t : Bool) → nat_le behind active ≡ t
        → (if s then active else (if t then active - (behind - front) else min front (length items - (behind - front) - 1))) < max 1 (length new)
    by true x t y = let early : active < front = grind (arith, nat_tests) in omega (arith, early, long)
    by false x true y = let late : behind ≤ active = grind (arith, nat_tests) in omega (arith, late, long, h)
    by false x false y = omega (arith, long, h)

pub active_there : (on : Bool) (front behind active : ℕ) (items new : List Item) → behind ≤ length items → new ≡ turned_in on front behind items → HasActive items active → HasActive new active
active_there on front behind active items new within e h = omega (arith, h, ap length e ∙ turned_long on front behind items within)

-- ---- what is told of a selection

-- no places before the first bound
none_up_to : (p n : ℕ) (xs : List Item) → ((i : ℕ) → i < n → is_on xs i ≡ false) → selected_from p xs ≡ selected_from (p + n) (drop n xs)
none_up_to p zero xs off = let same : p ≡ p + 0 = omega arith in ap (λ q. selected_from q xs) same
none_up_to p (suc n) [] off = refl
none_up_to p (suc n) (x ∷ xs) off =
    let next : suc p + n ≡ p + suc n = omega arith in
    ap (λ b. if b then p ∷ selected_from (suc p) xs else selected_from (suc p) xs) (off 0 (omega arith))
    ∙ none_up_to (suc p) n xs (λ i h. off (suc i) (omega arith))
    ∙ ap (λ q. selected_from q (drop n xs)) next

-- none of items that aren't selected
none_of : (p : ℕ) (xs : List Item) → ((i : ℕ) → is_on xs i ≡ false) → selected_from p xs ≡ []
none_of p [] off = refl
none_of p (x ∷ xs) off =
    ap (λ b. if b then p ∷ selected_from (suc p) xs else selected_from (suc p) xs) (off 0) ∙ none_of (suc p) xs (λ i. off (suc i))

pub from_the_front : (b : Bounds) (items : List Item) → Encloses b items → selected_from 0 items ≡ selected_from b.front (drop b.front items)
from_the_front b items h =
    let there : 0 + b.front ≡ b.front = omega arith in
    none_up_to 0 b.front items (λ i early. off_unless (is_on items i) (λ e. let a = h.around i e in absurd (omega (arith, a.0))))
    ∙ ap (λ q. selected_from q (drop b.front items)) there

pub none_behind : (b : Bounds) (items : List Item) → Encloses b items → selected_from b.behind (drop b.behind items) ≡ []
none_behind b items h =
    none_of b.behind (drop b.behind items) (λ i. same_on _ _ (get_or-drop b.behind items i no_item) ∙ off_unless (is_on items (b.behind + i)) (λ e. let a = h.around (b.behind + i) e in absurd (omega (arith, a.1))))
