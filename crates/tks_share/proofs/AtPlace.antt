-- Places in a list, on either side of an item and at it.
use Rattle.std.proofs.Common.{◌≡◌, ℕ, zero, suc, ◌+◌, ◌-◌, ◌<◌, ◌≤◌, ◌==◌, Bool, true, false, cond, if◌then◌else◌, not, List, [], ◌∷◌, ◌++◌, length, Option, Some, None, refl, sym, ap, ◌∙◌, arith, length-append}
use Rattle.std.specs.Prelude.{slice_get, slice_set, drop}
use Rattle.std.specs.List.{AllByRecursion, filter, position, position_from, insert, remove}
use Rattle.std.specs.Option.{option_map}
use Rattle.std.proofs.Math.Nat.{min-eq_left}
use Rattle.std.proofs.Math.Seq.{set-append_seam}
use Rattle.std.proofs.lemmas.Bool.{ne_eqb, eq-eqb, eqb-true}
use Rattle.std.proofs.lemmas.List.Elements.{filter-append}
use Rattle.std.proofs.lemmas.List.{set-append_left, set-append_right}
use Rattle.std.proofs.lemmas.List.Edits.{insert-append_left, insert-append_right, remove-append_left, remove-append_right}
use Rattle.std.proofs.lemmas.Iterator.Adapters.{position_from-zero}
use Rattle.tks_share.specs.Tree.{counted}
use Rattle.tks_share.specs.Lists.{Fits, Rises, IsParted, leading}
use Rattle.tks_share.specs.Parts.{Follows}
use Rattle.tks_share.specs.declared.places.Part.{Part}

module _ {X : Type 0} where
  pub whole : (xs : List X) → Fits xs → counted xs ≡ length xs
  whole xs fits = min-eq_left (omega (arith, fits))

  -- what is still to come from an item on
  pub from_item : (xs : List X) (i : ℕ) (x : X) → slice_get xs i ≡ Some x → drop i xs ≡ x ∷ drop (i + 1) xs
  from_item [] i x is = cc
  from_item (y ∷ xs) zero x is = ap (λ z. z ∷ xs) (same y x is) where
    same : (a b : X) → Some a ≡ Some b → a ≡ b
    same a b p = cc
  from_item (y ∷ xs) (suc i) x is = from_item xs i x is ∙ ap (λ n. x ∷ drop n (y ∷ xs)) next where
    next : suc (i + 1) ≡ suc i + 1
    next = omega arith

  pub from_end : (xs : List X) (i : ℕ) → slice_get xs i ≡ None → drop i xs ≡ []
  from_end [] zero is = refl
  from_end [] (suc i) is = refl
  from_end (y ∷ xs) zero is = cc
  from_end (y ∷ xs) (suc i) is = from_end xs i is

  pub get_left : (l m : List X) (i : ℕ) → i < length l → slice_get (l ++ m) i ≡ slice_get l i
  get_left [] m i h = absurd (omega (arith, h))
  get_left (x ∷ l) m zero h = refl
  get_left (x ∷ l) m (suc i) h = get_left l m i (omega (arith, h))

  pub get_right : (l m : List X) (i : ℕ) → length l ≤ i → slice_get (l ++ m) i ≡ slice_get m (i - length l)
  get_right [] m i h = ap (slice_get m) (omega arith)
  get_right (x ∷ l) m zero h = absurd (omega (arith, h))
  get_right (x ∷ l) m (suc i) h = get_right l m i (omega (arith, h)) ∙ ap (slice_get m) (omega arith)

-- a part that follows a list
module _ {X : Type 0} (p : Part X) (i : ℕ) (xs : List X) (follows : Follows p i xs) where
  -- has at its place what stands at the index
  pub next_of : 0 < p.left → slice_get p.tree.now p.place ≡ slice_get xs i
  next_of more = ap (slice_get p.tree.now) (omega arith) ∙ follows.alike 0 more ∙ ap (slice_get xs) (omega arith)

  -- and follows it one item further on
  pub part_goes_on : Follows (record { tree = p.tree; place = p.place + 1; left = p.left - 1 }) (i + 1) xs
  part_goes_on = record {
    fits = follows.fits;
    alike = λ k within. ap (slice_get p.tree.now) (omega arith) ∙ follows.alike (suc k) (omega (arith, within)) ∙ ap (slice_get xs) (omega arith);
  }

module _ {X : Type 0} (l : List X) (x : X) (r es : List X) (is : es ≡ l ++ x ∷ r) (fits : Fits es) where
  all : length es ≡ length l + (1 + length r)
  all = omega (arith, ap length is, length-append l (x ∷ r))

  pub fits_left : Fits l
  fits_left = omega (arith, all, fits)

  pub fits_right : Fits r
  fits_right = omega (arith, all, fits)

  module _ (i place : ℕ) (here : place ≡ counted l) where
    at_length : place ≡ length l
    at_length = here ∙ whole l fits_left

    right_suc : place ≤ i → (i ≡ place → ⊥) → i - length l ≡ suc (i - place - 1)
    right_suc h apart = omega (arith, h, at_length, differ) where
      differ : place < i
      differ = elim (Rattle.std.proofs.lemmas.Bool.cases_lt place i) [
        | Rattle.std.proofs.Common.inl less ↦ less
        | Rattle.std.proofs.Common.inr more ↦ absurd (apart (omega (arith, h, more)))
      ]

    pub got_left : i < place → slice_get es i ≡ slice_get l i
    got_left h = ap (λ t. slice_get t i) is ∙ get_left l (x ∷ r) i (omega (arith, h, at_length))

    pub got_right : place ≤ i → (i ≡ place → ⊥) → slice_get es i ≡ slice_get r (i - place - 1)
    got_right h apart = ap (λ t. slice_get t i) is ∙ get_right l (x ∷ r) i (omega (arith, h, at_length)) ∙ ap (slice_get (x ∷ r)) (right_suc h apart)

    pub got_here : i ≡ place → slice_get es i ≡ Some x
    got_here e = ap (λ t. slice_get t i) is ∙ get_right l (x ∷ r) i (omega (arith, e, at_length)) ∙ ap (slice_get (x ∷ r)) zeroth where
      zeroth : i - length l ≡ zero
      zeroth = omega (arith, e, at_length)

    module _ (y : X) where
      pub set_left : i < place → (left : List X) → left ≡ slice_set l i y → left ++ x ∷ r ≡ slice_set es i y
      set_left h left e = ap (λ t. t ++ x ∷ r) e ∙ sym (set-append_left l (x ∷ r) i y (omega (arith, h, at_length))) ∙ ap (λ t. slice_set t i y) (sym is)

      pub set_here : i ≡ place → l ++ y ∷ r ≡ slice_set es i y
      set_here e = sym (set-append_seam l x r y) ∙ ap (λ n. slice_set (l ++ x ∷ r) n y) (sym (e ∙ at_length)) ∙ ap (λ t. slice_set t i y) (sym is)

      pub set_right : place ≤ i → (i ≡ place → ⊥) → (right : List X) → right ≡ slice_set r (i - place - 1) y → l ++ x ∷ right ≡ slice_set es i y
      set_right h apart right e =
          ap (λ t. l ++ x ∷ t) e
          ∙ ap (λ n. l ++ slice_set (x ∷ r) n y) (sym (right_suc h apart))
          ∙ sym (set-append_right l (x ∷ r) (length l) i y refl (omega (arith, h, at_length)))
          ∙ ap (λ t. slice_set t i y) (sym is)

      pub inserted_left : i ≤ place → (left : List X) → left ≡ insert l i y → left ++ x ∷ r ≡ insert es i y
      inserted_left h left e = ap (λ t. t ++ x ∷ r) e ∙ sym (insert-append_left l (x ∷ r) i y (omega (arith, h, at_length))) ∙ ap (λ t. insert t i y) (sym is)

      pub inserted_right : place < i → (right : List X) → right ≡ insert r (i - place - 1) y → l ++ x ∷ right ≡ insert es i y
      inserted_right h right e =
          ap (λ t. l ++ x ∷ t) e
          ∙ ap (λ n. l ++ insert (x ∷ r) n y) (sym (right_suc (omega (arith, h)) (λ e. omega (arith, h, e))))
          ∙ sym (insert-append_right l (x ∷ r) (length l) i y refl (omega (arith, h, at_length)))
          ∙ ap (λ t. insert t i y) (sym is)

    pub removed_left : i < place → (left : List X) → left ≡ remove l i → left ++ x ∷ r ≡ remove es i
    removed_left h left e = ap (λ t. t ++ x ∷ r) e ∙ sym (remove-append_left l (x ∷ r) i (omega (arith, h, at_length))) ∙ ap (λ t. remove t i) (sym is)

    pub removed_here : i ≡ place → l ++ r ≡ remove es i
    removed_here e =
        ap (λ n. l ++ remove (x ∷ r) n) (sym zeroth)
        ∙ sym (remove-append_right l (x ∷ r) (length l) i refl (omega (arith, e, at_length)))
        ∙ ap (λ t. remove t i) (sym is)
      where
        zeroth : i - length l ≡ zero
        zeroth = omega (arith, e, at_length)

    pub removed_right : place ≤ i → (i ≡ place → ⊥) → (right : List X) → right ≡ remove r (i - place - 1) → l ++ x ∷ right ≡ remove es i
    removed_right h apart right e =
        ap (λ t. l ++ x ∷ t) e
        ∙ ap (λ n. l ++ remove (x ∷ r) n) (sym (right_suc h apart))
        ∙ sym (remove-append_right l (x ∷ r) (length l) i refl (omega (arith, h, at_length)))
        ∙ ap (λ t. remove t i) (sym is)

-- where the item of a number stands
module _ {X : Type 0} (number : X → ℕ) where
  pub rises_left : (low : ℕ) (l m : List X) → Rises number low (l ++ m) → Rises number low l
  rises_left low [] m r = tt
  rises_left low (y ∷ l) m r = (r.0, rises_left (number y + 1) l m r.1)

  rises_right : (low : ℕ) (l : List X) (x : X) (m : List X) → Rises number low (l ++ x ∷ m) → Rises number (number x + 1) m
  rises_right low [] x m r = r.1
  rises_right low (y ∷ l) x m r = rises_right (number y + 1) l x m r.1

  reached : (low : ℕ) (l : List X) (x : X) (m : List X) → Rises number low (l ++ x ∷ m) → low ≤ number x
  reached low [] x m r = r.0
  reached low (y ∷ l) x m r = omega (arith, r.0, reached (number y + 1) l x m r.1)

  module _ (n : ℕ) where
    abbrev is_it : X → Bool
    is_it x = number x == n

    abbrev NoneHas : List X → Type 0
    NoneHas [] = Unit {0}
    NoneHas (y ∷ l) = ((number y == n) ≡ false) × NoneHas l

    before_has_none : (low : ℕ) (l : List X) (x : X) (m : List X) → Rises number low (l ++ x ∷ m) → number x ≤ n → NoneHas l
    before_has_none low [] x m r h = tt
    before_has_none low (y ∷ l) x m r h =
        (ne_eqb (number y) n (λ e. omega (arith, e, h, reached (number y + 1) l x m r.1)), before_has_none (number y + 1) l x m r.1 h)

    behind_has_none : (low : ℕ) (m : List X) → Rises number low m → n < low → NoneHas m
    behind_has_none low [] r h = tt
    behind_has_none low (y ∷ m) r h =
        (ne_eqb (number y) n (λ e. omega (arith, e, h, r.0)), behind_has_none (number y + 1) m r.1 (omega (arith, h, r.0)))

    past : (i : ℕ) (l m : List X) → NoneHas l → position_from is_it i (l ++ m) ≡ position_from is_it (i + length l) m
    past i [] m h = ap (λ k. position_from is_it k m) (omega arith)
    past i (y ∷ l) m h =
        ap (λ b. cond b (Some i) (position_from is_it (i + 1) (l ++ m))) h.0 ∙ past (i + 1) l m h.1 ∙ ap (λ k. position_from is_it k m) (omega arith)

    nowhere : (i : ℕ) (m : List X) → NoneHas m → position_from is_it i m ≡ None
    nowhere i [] h = refl
    nowhere i (y ∷ m) h = ap (λ b. cond b (Some i) (position_from is_it (i + 1) m)) h.0 ∙ nowhere (i + 1) m h.1

    in_front : (i : ℕ) (l m : List X) → NoneHas m → position_from is_it i (l ++ m) ≡ position_from is_it i l
    in_front i [] m h = nowhere i m h
    in_front i (y ∷ l) m h = ap (cond (number y == n) (Some i)) (in_front (i + 1) l m h)

    later : (k i : ℕ) (m : List X) → position_from is_it (k + i) m ≡ option_map (λ j. k + j) (position_from is_it i m)
    later k i [] = refl
    later k i (y ∷ m) =
        elim (number y == n) as (λ b. cond b (Some (k + i)) (position_from is_it (k + i + 1) m) ≡ option_map (λ j. k + j) (cond b (Some i) (position_from is_it (i + 1) m))) [
          | true ↦ refl
          | false ↦ ap (λ j. position_from is_it j m) (omega arith) ∙ later k (i + 1) m
        ]

    from_zero : (m : List X) → position is_it m ≡ position_from is_it 0 m
    from_zero m = position_from-zero is_it m

    -- a list in two
    lower : (low high : ℕ) (m : List X) → low ≤ high → Rises number high m → Rises number low m
    lower low high [] h r = tt
    lower low high (y ∷ m) h r = (omega (arith, h, r.0), r.1)

    pub rises_behind : (low : ℕ) (l m : List X) → Rises number low (l ++ m) → Rises number low m
    rises_behind low [] m r = r
    rises_behind low (y ∷ l) m r = lower low (number y + 1) m (omega (arith, r.0)) (rises_behind (number y + 1) l m r.1)

    found_above : (low k i : ℕ) (m : List X) → Rises number low m → position_from is_it k m ≡ Some i → low ≤ n
    found_above low k i [] r e = cc
    found_above low k i (y ∷ m) r e = by (number y == n) refl (found_above (number y + 1) (k + 1) i m r.1) e
      where
        by : (b : Bool) → (number y == n) ≡ b → (position_from is_it (k + 1) m ≡ Some i → number y + 1 ≤ n) → cond b (Some k) (position_from is_it (k + 1) m) ≡ Some i → low ≤ n
        by true here rest same = omega (arith, r.0, eqb-true (number y) n here)
        by false apart rest same = omega (arith, r.0, rest same)

    none_before : (low i : ℕ) (l m : List X) → Rises number low (l ++ m) → position_from is_it 0 m ≡ Some i → NoneHas l
    none_before low i [] m r e = tt
    none_before low i (y ∷ l) m r e =
        (ne_eqb (number y) n (λ s. omega (arith, s, found_above (number y + 1) 0 i m (rises_behind (number y + 1) l m r.1) e)), none_before (number y + 1) i l m r.1 e)

    -- one that is found behind isn't before it
    pub not_before : (low i : ℕ) (l m : List X) → Rises number low (l ++ m) → position is_it m ≡ Some i → position is_it l ≡ None
    not_before low i l m r e = from_zero l ∙ nowhere 0 l (none_before low i l m r (sym (from_zero m) ∙ e))

    sought_first : (k i : ℕ) (l m : List X) → position_from is_it k l ≡ Some i → position_from is_it k (l ++ m) ≡ Some i
    sought_first k i [] m e = cc
    sought_first k i (y ∷ l) m e = by (number y == n) (sought_first (k + 1) i l m) e
      where
        by : (b : Bool) → (position_from is_it (k + 1) l ≡ Some i → position_from is_it (k + 1) (l ++ m) ≡ Some i)
            → cond b (Some k) (position_from is_it (k + 1) l) ≡ Some i → cond b (Some k) (position_from is_it (k + 1) (l ++ m)) ≡ Some i
        by true rest same = same
        by false rest same = rest same

    sought_behind : (k : ℕ) (l m : List X) → position_from is_it k l ≡ None → position_from is_it k (l ++ m) ≡ position_from is_it (k + length l) m
    sought_behind k [] m e = ap (λ j. position_from is_it j m) (omega arith)
    sought_behind k (y ∷ l) m e = by (number y == n) (sought_behind (k + 1) l m) e
      where
        by : (b : Bool) → (position_from is_it (k + 1) l ≡ None → position_from is_it (k + 1) (l ++ m) ≡ position_from is_it (k + 1 + length l) m)
            → cond b (Some k) (position_from is_it (k + 1) l) ≡ None
            → cond b (Some k) (position_from is_it (k + 1) (l ++ m)) ≡ position_from is_it (k + suc (length l)) m
        by true rest same = cc
        by false rest same = rest same ∙ ap (λ j. position_from is_it j m) (omega arith)

    pub stands_first : (i : ℕ) (l m : List X) → position is_it l ≡ Some i → position is_it (l ++ m) ≡ Some i
    stands_first i l m e = from_zero (l ++ m) ∙ sought_first 0 i l m (sym (from_zero l) ∙ e)

    pub stands_behind : (l m : List X) → position is_it l ≡ None → position is_it (l ++ m) ≡ option_map (λ j. length l + j) (position is_it m)
    stands_behind l m e =
        from_zero (l ++ m) ∙ sought_behind 0 l m (sym (from_zero l) ∙ e) ∙ ap (λ k. position_from is_it k m) (omega arith)
        ∙ later (length l) 0 m ∙ ap (option_map (λ j. length l + j)) (sym (from_zero m))

    -- a number below that of the first item, or above that of the last, no item has
    pub below_first : (low : ℕ) (xs : List X) (x : X) → Rises number low xs → slice_get xs 0 ≡ Some x → n < number x → position is_it xs ≡ None
    below_first low [] x r is h = cc
    below_first low (y ∷ xs) x r is h =
        let same : y ≡ x = cc in
        from_zero (y ∷ xs) ∙ nowhere 0 (y ∷ xs) (behind_has_none (number y) (y ∷ xs) (omega arith, r.1) (omega (arith, h, ap number same)))

    all_below : (low : ℕ) (xs : List X) (i : ℕ) (x : X) → Rises number low xs → slice_get xs i ≡ Some x → length xs ≡ i + 1 → number x < n → (low ≤ number x) × NoneHas xs
    all_below low [] i x r is many h = cc
    all_below low (y ∷ []) zero x r is many h =
        let same : y ≡ x = cc in
        (omega (arith, r.0, ap number same), (ne_eqb (number y) n (λ e. omega (arith, e, h, ap number same)), tt))
    all_below low (y ∷ z ∷ xs) zero x r is many h = absurd (omega (arith, many))
    all_below low (y ∷ xs) (suc i) x r is many h =
        let rest = all_below (number y + 1) xs i x r.1 is (omega (arith, many)) h in
        (omega (arith, r.0, rest.0), (ne_eqb (number y) n (λ e. omega (arith, e, h, rest.0)), rest.1))

    pub above_last : (low : ℕ) (xs : List X) (i : ℕ) (x : X) → Rises number low xs → slice_get xs i ≡ Some x → length xs ≡ i + 1 → number x < n → position is_it xs ≡ None
    above_last low xs i x r is many h = from_zero xs ∙ nowhere 0 xs (all_below low xs i x r is many h).1

    stands_from : (k low i : ℕ) (xs : List X) (x : X) → Rises number low xs → slice_get xs i ≡ Some x → number x ≡ n → (low ≤ n) × (position_from is_it k xs ≡ Some (k + i))
    stands_from k low i [] x r is e = cc
    stands_from k low zero (y ∷ xs) x r is e =
        let same : y ≡ x = cc in
        (omega (arith, r.0, ap number same, e), ap (λ b. cond b (Some k) (position_from is_it (k + 1) xs)) (eq-eqb (number y) n (ap number same ∙ e)) ∙ ap (λ j. Some j) (omega arith))
    stands_from k low (suc i) (y ∷ xs) x r is e =
        let rest = stands_from (k + 1) (number y + 1) i xs x r.1 is e in (
          omega (arith, r.0, rest.0),
          ap (λ b. cond b (Some k) (position_from is_it (k + 1) xs)) (ne_eqb (number y) n (λ same. omega (arith, same, rest.0)))
              ∙ rest.1 ∙ ap (λ j. Some j) (omega arith),
        )

    -- an item of the number stands at its place
    pub stands_at : (low i : ℕ) (xs : List X) (x : X) → Rises number low xs → slice_get xs i ≡ Some x → number x ≡ n → position is_it xs ≡ Some i
    stands_at low i xs x r is e = from_zero xs ∙ (stands_from 0 low i xs x r is e).1 ∙ ap (λ j. Some j) (omega arith)

    -- taking out the item of the number is leaving out those of the number
    abbrev isnt_it : X → Bool
    isnt_it x = not (number x == n)

    none_out : (m : List X) → NoneHas m → filter isnt_it m ≡ m
    none_out [] h = refl
    none_out (y ∷ m) h = ap (λ b. cond (not b) (y ∷ filter isnt_it m) (filter isnt_it m)) h.0 ∙ ap (λ t. y ∷ t) (none_out m h.1)

    nowhere_out : (k : ℕ) (m : List X) → position_from is_it k m ≡ None → filter isnt_it m ≡ m
    nowhere_out k [] e = refl
    nowhere_out k (y ∷ m) e =
        elim (number y == n) as (λ b. cond b (Some k) (position_from is_it (k + 1) m) ≡ None → cond (not b) (y ∷ filter isnt_it m) (filter isnt_it m) ≡ y ∷ m) [
          | true ↦ λ same. cc
          | false ↦ λ same. ap (λ t. y ∷ t) (nowhere_out (k + 1) m same)
        ] e

    somewhere_out : (k low i : ℕ) (m : List X) → Rises number low m → position_from is_it k m ≡ Some i → (k ≤ i) × (remove m (i - k) ≡ filter isnt_it m)
    somewhere_out k low i [] rises e = cc
    somewhere_out k low i (y ∷ m) rises e =
        elim (number y == n) as (λ b. (number y == n) ≡ b → cond b (Some k) (position_from is_it (k + 1) m) ≡ Some i
        → (k ≤ i) × (remove (y ∷ m) (i - k) ≡ cond (not b) (y ∷ filter isnt_it m) (filter isnt_it m))) [
          | true ↦ λ here same.
              let at : k ≡ i = cc in
              let zeroth : i - k ≡ zero = omega (arith, at) in
              let last : number y ≡ n = eqb-true (number y) n here in
              (omega (arith, at), ap (remove (y ∷ m)) zeroth ∙ sym (none_out m (behind_has_none (number y + 1) m rises.1 (omega (arith, last)))))
          | false ↦ λ apart same.
              let rest = somewhere_out (k + 1) (number y + 1) i m rises.1 same in
              let next : i - k ≡ suc (i - (k + 1)) = omega (arith, rest.0) in
              (omega (arith, rest.0), ap (remove (y ∷ m)) next ∙ ap (λ t. y ∷ t) rest.1)
        ] refl e

    pub not_there : (m : List X) → position is_it m ≡ None → m ≡ filter isnt_it m
    not_there m e = sym (nowhere_out 0 m (sym (from_zero m) ∙ e))

    pub taken_out : (low i : ℕ) (m : List X) → Rises number low m → position is_it m ≡ Some i → remove m i ≡ filter isnt_it m
    taken_out low i m rises e = ap (remove m) whole_way ∙ (somewhere_out 0 low i m rises (sym (from_zero m) ∙ e)).1
      where
        whole_way : i ≡ i - 0
        whole_way = omega arith

    module _ (l : List X) (x : X) (r es : List X) (is : es ≡ l ++ x ∷ r) (low : ℕ) (rises : Rises number low es) where
      split : Rises number low (l ++ x ∷ r)
      split = Rattle.std.proofs.Common.subst (Rises number low) is rises

      pub left_rises : Rises number low l
      left_rises = rises_left low l (x ∷ r) split

      pub right_rises : Rises number (number x + 1) r
      right_rises = rises_right low l x r split

      pub stands_left : n < number x → position is_it es ≡ position is_it l
      stands_left h =
          ap (position is_it) is ∙ from_zero (l ++ x ∷ r)
          ∙ in_front 0 l (x ∷ r) (behind_has_none (number x) (x ∷ r) (omega arith, right_rises) h)
          ∙ sym (from_zero l)

      pub stands_here : n ≡ number x → position is_it es ≡ Some (length l)
      stands_here e =
          ap (position is_it) is ∙ from_zero (l ++ x ∷ r)
          ∙ past 0 l (x ∷ r) (before_has_none low l x r split (omega (arith, e)))
          ∙ ap (λ b. cond b (Some (0 + length l)) (position_from is_it (0 + length l + 1) r)) (eq-eqb (number x) n (sym e))
          ∙ ap (λ k. Some k) (omega arith)

      pub stands_right : number x ≤ n → (n ≡ number x → ⊥) → position is_it es ≡ option_map (λ j. length l + 1 + j) (position is_it r)
      stands_right h apart =
          ap (position is_it) is ∙ from_zero (l ++ x ∷ r)
          ∙ past 0 l (x ∷ r) (before_has_none low l x r split h)
          ∙ ap (λ b. cond b (Some (0 + length l)) (position_from is_it (0 + length l + 1) r)) (ne_eqb (number x) n (λ e. apart (sym e)))
          ∙ ap (λ k. position_from is_it k r) (omega arith)
          ∙ later (length l + 1) 0 r
          ∙ ap (option_map (λ j. length l + 1 + j)) (sym (from_zero r))

-- what a test lets through
module _ {X : Type 0} (p : X → Bool) where
  pub no_more : (xs : List X) → length (filter p xs) ≤ length xs
  no_more [] = omega arith
  no_more (x ∷ xs) = elim (p x) as (λ b. length (cond b (x ∷ filter p xs) (filter p xs)) ≤ suc (length xs)) [
    | true ↦ omega (arith, no_more xs)
    | false ↦ omega (arith, no_more xs)
  ]

  -- as many as there are are all of them
  pub all_pass : (xs : List X) → length (filter p xs) ≡ length xs → filter p xs ≡ xs
  all_pass [] e = refl
  all_pass (x ∷ xs) e =
      elim (p x) as (λ b. length (cond b (x ∷ filter p xs) (filter p xs)) ≡ suc (length xs) → cond b (x ∷ filter p xs) (filter p xs) ≡ x ∷ xs) [
        | true ↦ λ same. ap (λ t. x ∷ t) (all_pass xs (omega (arith, same)))
        | false ↦ λ same. absurd (omega (arith, same, no_more xs))
      ] e

  module _ (l : List X) (x : X) (r es : List X) (is : es ≡ l ++ x ∷ r) where
    filtered : (b : Bool) → p x ≡ b → filter p es ≡ filter p l ++ cond b (x ∷ filter p r) (filter p r)
    filtered b e = ap (filter p) is ∙ filter-append p l (x ∷ r) ∙ ap (λ b. filter p l ++ cond b (x ∷ filter p r) (filter p r)) e

    pub passed_over : p x ≡ false → (left right : List X) → left ≡ filter p l → right ≡ filter p r → left ++ right ≡ filter p es
    passed_over fails left right on_left on_right = ap (λ t. t ++ right) on_left ∙ ap (λ t. filter p l ++ t) on_right ∙ sym (filtered false fails)

    pub let_through : p x ≡ true → (left right : List X) → left ≡ filter p l → right ≡ filter p r → left ++ x ∷ right ≡ filter p es
    let_through passes left right on_left on_right = ap (λ t. t ++ x ∷ right) on_left ∙ ap (λ t. filter p l ++ x ∷ t) on_right ∙ sym (filtered true passes)

    -- where as many are left on both sides as there were, all passed
    pub unchanged : Fits es → p x ≡ true → (left right : List X) → left ≡ filter p l → right ≡ filter p r → counted left ≡ counted l → counted right ≡ counted r
        → es ≡ filter p es
    unchanged fits passes left right on_left on_right left_many right_many =
        is ∙ ap (λ t. t ++ x ∷ r) (sym (kept l left (fits_left l x r es is fits) on_left left_many))
        ∙ ap (λ t. filter p l ++ x ∷ t) (sym (kept r right (fits_right l x r es is fits) on_right right_many)) ∙ sym (filtered true passes)
      where
        kept : (xs now : List X) → Fits xs → now ≡ filter p xs → counted now ≡ counted xs → filter p xs ≡ xs
        kept xs now small e many =
            let fewer : Fits now = omega (arith, small, no_more xs, ap length e) in
            all_pass xs (sym (ap length e) ∙ sym (whole now fewer) ∙ many ∙ whole xs small)

-- where a test parts a list
module _ {X : Type 0} (p : X → Bool) where
  none_pass : (l : List X) (x : X) (r : List X) → AllByRecursion (λ y. p y ≡ false) (l ++ x ∷ r) → p x ≡ false
  none_pass [] x r h = h.0
  none_pass (y ∷ l) x r h = none_pass l x r h.1

  pub parted_left : (l : List X) (x : X) (r : List X) → IsParted p (l ++ x ∷ r) → IsParted p l
  parted_left [] x r h = tt
  parted_left (y ∷ l) x r h = (λ fails. none_left l (x ∷ r) (h.0 fails), parted_left l x r h.1)
    where
      none_left : (l m : List X) → AllByRecursion (λ y. p y ≡ false) (l ++ m) → AllByRecursion (λ y. p y ≡ false) l
      none_left [] m n = tt
      none_left (z ∷ l) m n = (n.0, none_left l m n.1)

  pub parted_right : (l : List X) (x : X) (r : List X) → IsParted p (l ++ x ∷ r) → IsParted p r
  parted_right [] x r h = h.1
  parted_right (y ∷ l) x r h = parted_right l x r h.1

  -- an item that fails ends those that pass
  pub leading_left : (l : List X) (x : X) (r : List X) → p x ≡ false → leading p (l ++ x ∷ r) ≡ leading p l
  leading_left [] x r fails = rw fails refl
  leading_left (y ∷ l) x r fails = ap (λ n. if p y then suc n else 0) (leading_left l x r fails)

  -- before one that passes all do
  pub leading_right : (l : List X) (x : X) (r : List X) → IsParted p (l ++ x ∷ r) → p x ≡ true → leading p (l ++ x ∷ r) ≡ length l + 1 + leading p r
  leading_right [] x r h passes = rw passes (omega arith)
  leading_right (y ∷ l) x r h passes = by (p y) refl (leading_right l x r h.1 passes)
    where
      by : (b : Bool) → p y ≡ b → leading p (l ++ x ∷ r) ≡ length l + 1 + leading p r → (if b then suc (leading p (l ++ x ∷ r)) else 0) ≡ suc (length l) + 1 + leading p r
      by true e rest = omega (arith, rest)
      by false e rest = absurd (let never : false ≡ true = sym (none_pass l x r (h.0 e)) ∙ passes in cc)
