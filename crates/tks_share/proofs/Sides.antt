-- A list of entries in order, and the two sides of one of them.
use Rattle.std.proofs.Common.{◌≡◌, Bool, true, false, cond, not, ◌&&◌, T, List, [], ◌∷◌, ◌++◌, Some, None, Ordering, Less, Equal, Greater, is_eq, refl, ap, ◌∙◌}
use Rattle.std.specs.Ordering.{is_lt, ordering_reverse, eq_by_cmp}
use Rattle.std.specs.Cmp.{IsTotalOrder}
use Rattle.std.specs.FinMap.Entries.{find, put, is_sorted, below_all, where_key, by_order}

pub first : (a b : Bool) → T (a && b) → T a
first true b p = tt
first false b p = p

pub second : (a b : Bool) → T (a && b) → T b
second true b p = p
second false b p = absurd p

both : (a b : Bool) → T a → T b → T (a && b)
both true b p q = q
both false b p q = p

pub less : (r : Ordering) → T (is_lt r) → r ≡ Less
less Less p = refl
less Equal p = absurd p
less Greater p = absurd p

module _ {K X : Type 0} (R : K → K → Ordering) where
  pub sorted_before : (l m : List (K × X)) → T (is_sorted R (l ++ m)) → T (is_sorted R l)
  sorted_before [] m s = tt
  sorted_before (y ∷ l) m s = both (below_all R y.0 l) (is_sorted R l) (below_before y.0 l m (first _ _ s)) (sorted_before l m (second _ _ s)) where
    below_before : (x : K) (l m : List (K × X)) → T (below_all R x (l ++ m)) → T (below_all R x l)
    below_before x [] m h = tt
    below_before x (y ∷ l) m h = both (is_lt (R x y.0)) (below_all R x l) (first _ _ h) (below_before x l m (second _ _ h))

  pub sorted_behind : (l m : List (K × X)) → T (is_sorted R (l ++ m)) → T (is_sorted R m)
  sorted_behind [] m s = s
  sorted_behind (y ∷ l) m s = sorted_behind l m (second _ _ s)

  middle : (x : K) (l : List (K × X)) (e : K × X) (r : List (K × X)) → T (below_all R x (l ++ e ∷ r)) → R x e.0 ≡ Less
  middle x [] e r h = less _ (first _ _ h)
  middle x (y ∷ l) e r h = middle x l e r (second _ _ h)

  -- the key is above each of these
  abbrev pub IsAbove : K → List (K × X) → Type 0
  IsAbove k [] = Unit {0}
  IsAbove k (y ∷ l) = (R k y.0 ≡ Greater) × IsAbove k l

  -- the key is below each of these
  abbrev pub IsUnder : K → List (K × X) → Type 0
  IsUnder k [] = Unit {0}
  IsUnder k (y ∷ m) = (R k y.0 ≡ Less) × IsUnder k m

  pub find_past : (q : K) (l m : List (K × X)) → IsAbove q l → find R q (l ++ m) ≡ find R q m
  find_past q [] m h = refl
  find_past q (y ∷ l) m h = ap (λ r. cond (is_eq r) (Some y.1) (find R q (l ++ m))) h.0 ∙ find_past q l m h.1

  pub put_past : (k : K) (v : X) (l m : List (K × X)) → IsAbove k l → put R k v (l ++ m) ≡ l ++ put R k v m
  put_past k v [] m h = refl
  put_past k v (y ∷ l) m h =
      ap (λ r. by_order r ((k, v) ∷ y ∷ (l ++ m)) ((y.0, v) ∷ (l ++ m)) (y ∷ put R k v (l ++ m))) h.0 ∙ ap (λ t. y ∷ t) (put_past k v l m h.1)

  -- the entries without a key's
  abbrev pub without : K → List (K × X) → List (K × X)
  without k = where_key R (λ x. not (eq_by_cmp R k x))

  pub without_past : (k : K) (l m : List (K × X)) → IsAbove k l → without k (l ++ m) ≡ l ++ without k m
  without_past k [] m h = refl
  without_past k (y ∷ l) m h = ap (λ r. cond (not (is_eq r)) (y ∷ without k (l ++ m)) (without k (l ++ m))) h.0 ∙ ap (λ t. y ∷ t) (without_past k l m h.1)

  find_under : (q : K) (m : List (K × X)) → IsUnder q m → find R q m ≡ None
  find_under q [] h = refl
  find_under q (y ∷ m) h = ap (λ r. cond (is_eq r) (Some y.1) (find R q m)) h.0 ∙ find_under q m h.1

  pub find_front : (q : K) (l m : List (K × X)) → IsUnder q m → find R q (l ++ m) ≡ find R q l
  find_front q [] m h = find_under q m h
  find_front q (y ∷ l) m h = ap (cond (eq_by_cmp R q y.0) (Some y.1)) (find_front q l m h)

  pub put_front : (k : K) (v : X) (l : List (K × X)) (e : K × X) (r : List (K × X)) → R k e.0 ≡ Less → put R k v (l ++ e ∷ r) ≡ put R k v l ++ e ∷ r
  put_front k v [] e r h = ap (λ c. by_order c ((k, v) ∷ e ∷ r) ((e.0, v) ∷ r) (e ∷ put R k v r)) h
  put_front k v (y ∷ l) e r h =
      elim (R k y.0) as (λ c. by_order c ((k, v) ∷ y ∷ (l ++ e ∷ r)) ((y.0, v) ∷ (l ++ e ∷ r)) (y ∷ put R k v (l ++ e ∷ r)) ≡ by_order c ((k, v) ∷ y ∷ l) ((y.0, v) ∷ l) (y ∷ put R k v l) ++ e ∷ r) [
        | Less ↦ refl
        | Equal ↦ refl
        | Greater ↦ ap (λ t. y ∷ t) (put_front k v l e r h)
      ]

  pub without_under : (k : K) (m : List (K × X)) → IsUnder k m → without k m ≡ m
  without_under k [] h = refl
  without_under k (y ∷ m) h = ap (λ r. cond (not (is_eq r)) (y ∷ without k m) (without k m)) h.0 ∙ ap (λ t. y ∷ t) (without_under k m h.1)

  pub without_front : (k : K) (l m : List (K × X)) → IsUnder k m → without k (l ++ m) ≡ without k l ++ m
  without_front k [] m h = without_under k m h
  without_front k (y ∷ l) m h =
      elim (not (eq_by_cmp R k y.0)) as (λ b. cond b (y ∷ without k (l ++ m)) (without k (l ++ m)) ≡ cond b (y ∷ without k l) (without k l) ++ m) [
        | true ↦ ap (λ t. y ∷ t) (without_front k l m h)
        | false ↦ without_front k l m h
      ]

  -- those whose keys come behind a key
  abbrev pub later : K → List (K × X) → List (K × X)
  later k = where_key R (λ x. is_lt (R k x))

  pub later_under : (k : K) (m : List (K × X)) → IsUnder k m → later k m ≡ m
  later_under k [] h = refl
  later_under k (y ∷ m) h = ap (λ r. cond (is_lt r) (y ∷ later k m) (later k m)) h.0 ∙ ap (λ t. y ∷ t) (later_under k m h.1)

  later_front : (k : K) (l m : List (K × X)) → IsUnder k m → later k (l ++ m) ≡ later k l ++ m
  later_front k [] m h = later_under k m h
  later_front k (y ∷ l) m h =
      elim (is_lt (R k y.0)) as (λ b. cond b (y ∷ later k (l ++ m)) (later k (l ++ m)) ≡ cond b (y ∷ later k l) (later k l) ++ m) [
        | true ↦ ap (λ t. y ∷ t) (later_front k l m h)
        | false ↦ later_front k l m h
      ]

  later_past : (k : K) (l m : List (K × X)) → IsAbove k l → later k (l ++ m) ≡ later k m
  later_past k [] m h = refl
  later_past k (y ∷ l) m h = ap (λ r. cond (is_lt r) (y ∷ later k (l ++ m)) (later k (l ++ m))) h.0 ∙ later_past k l m h.1

  module _ (o : IsTotalOrder R) where
    pub above_greater : (k : K) (l : List (K × X)) (e : K × X) (r : List (K × X)) → R k e.0 ≡ Greater → T (is_sorted R (l ++ e ∷ r)) → IsAbove k l
    above_greater k [] e r p s = tt
    above_greater k (y ∷ l) e r p s =
        let under = middle y.0 l e r (first _ _ s) in (
          o.antisymm k y.0 ∙ ap ordering_reverse (o.trans y.0 e.0 k under (o.antisymm e.0 k ∙ ap ordering_reverse p)),
          above_greater k l e r p (second _ _ s),
        )

    pub above_equal : (k : K) (l : List (K × X)) (e : K × X) (r : List (K × X)) → R k e.0 ≡ Equal → T (is_sorted R (l ++ e ∷ r)) → IsAbove k l
    above_equal k [] e r p s = tt
    above_equal k (y ∷ l) e r p s =
        let under = middle y.0 l e r (first _ _ s) in
        (o.congr k e.0 y.0 p ∙ o.antisymm e.0 y.0 ∙ ap ordering_reverse under, above_equal k l e r p (second _ _ s))

    pub under_less : (k x : K) (m : List (K × X)) → R k x ≡ Less → T (below_all R x m) → IsUnder k m
    under_less k x [] p h = tt
    under_less k x (y ∷ m) p h = (o.trans k x y.0 p (less _ (first _ _ h)), under_less k x m p (second _ _ h))

    under_equal : (k x : K) (m : List (K × X)) → R k x ≡ Equal → T (below_all R x m) → IsUnder k m
    under_equal k x [] p h = tt
    under_equal k x (y ∷ m) p h = (o.congr k x y.0 p ∙ less _ (first _ _ h), under_equal k x m p (second _ _ h))

    pub under_from_less : (k : K) (l : List (K × X)) (e : K × X) (r : List (K × X)) → R k e.0 ≡ Less → T (is_sorted R (l ++ e ∷ r)) → IsUnder k (e ∷ r)
    under_from_less k l e r p s = (p, under_less k e.0 r p (first _ _ (sorted_behind l (e ∷ r) s)))

    pub under_from_equal : (k : K) (l : List (K × X)) (e : K × X) (r : List (K × X)) → R k e.0 ≡ Equal → T (is_sorted R (l ++ e ∷ r)) → IsUnder k r
    under_from_equal k l e r p s = under_equal k e.0 r p (first _ _ (sorted_behind l (e ∷ r) s))

    -- what is found, put in and taken out on either side of an entry and at it
    pub find_left : (q : K) (l : List (K × X)) (e : K × X) (r : List (K × X)) → R q e.0 ≡ Less → T (is_sorted R (l ++ e ∷ r)) → find R q (l ++ e ∷ r) ≡ find R q l
    find_left q l e r p s = find_front q l (e ∷ r) (under_from_less q l e r p s)

    pub find_here : (q : K) (l : List (K × X)) (e : K × X) (r : List (K × X)) → R q e.0 ≡ Equal → T (is_sorted R (l ++ e ∷ r)) → find R q (l ++ e ∷ r) ≡ Some e.1
    find_here q l e r p s = find_past q l (e ∷ r) (above_equal q l e r p s) ∙ ap (λ c. cond (is_eq c) (Some e.1) (find R q r)) p

    pub find_right : (q : K) (l : List (K × X)) (e : K × X) (r : List (K × X)) → R q e.0 ≡ Greater → T (is_sorted R (l ++ e ∷ r)) → find R q (l ++ e ∷ r) ≡ find R q r
    find_right q l e r p s = find_past q l (e ∷ r) (above_greater q l e r p s) ∙ ap (λ c. cond (is_eq c) (Some e.1) (find R q r)) p

    pub put_here : (k : K) (v : X) (l : List (K × X)) (e : K × X) (r : List (K × X)) → R k e.0 ≡ Equal → T (is_sorted R (l ++ e ∷ r)) → put R k v (l ++ e ∷ r) ≡ l ++ (e.0, v) ∷ r
    put_here k v l e r p s = put_past k v l (e ∷ r) (above_equal k l e r p s) ∙ ap (λ c. l ++ by_order c ((k, v) ∷ e ∷ r) ((e.0, v) ∷ r) (e ∷ put R k v r)) p

    pub put_right : (k : K) (v : X) (l : List (K × X)) (e : K × X) (r : List (K × X)) → R k e.0 ≡ Greater → T (is_sorted R (l ++ e ∷ r)) → put R k v (l ++ e ∷ r) ≡ l ++ e ∷ put R k v r
    put_right k v l e r p s = put_past k v l (e ∷ r) (above_greater k l e r p s) ∙ ap (λ c. l ++ by_order c ((k, v) ∷ e ∷ r) ((e.0, v) ∷ r) (e ∷ put R k v r)) p

    pub without_left : (k : K) (l : List (K × X)) (e : K × X) (r : List (K × X)) → R k e.0 ≡ Less → T (is_sorted R (l ++ e ∷ r)) → without k (l ++ e ∷ r) ≡ without k l ++ e ∷ r
    without_left k l e r p s = without_front k l (e ∷ r) (under_from_less k l e r p s)

    pub without_here : (k : K) (l : List (K × X)) (e : K × X) (r : List (K × X)) → R k e.0 ≡ Equal → T (is_sorted R (l ++ e ∷ r)) → without k (l ++ e ∷ r) ≡ l ++ r
    without_here k l e r p s =
        without_past k l (e ∷ r) (above_equal k l e r p s)
        ∙ ap (λ c. l ++ cond (not (is_eq c)) (e ∷ without k r) (without k r)) p
        ∙ ap (λ t. l ++ t) (without_under k r (under_from_equal k l e r p s))

    pub without_right : (k : K) (l : List (K × X)) (e : K × X) (r : List (K × X)) → R k e.0 ≡ Greater → T (is_sorted R (l ++ e ∷ r)) → without k (l ++ e ∷ r) ≡ l ++ e ∷ without k r
    without_right k l e r p s =
        without_past k l (e ∷ r) (above_greater k l e r p s) ∙ ap (λ c. l ++ cond (not (is_eq c)) (e ∷ without k r) (without k r)) p

    pub later_left : (k : K) (l : List (K × X)) (e : K × X) (r : List (K × X)) → R k e.0 ≡ Less → T (is_sorted R (l ++ e ∷ r)) → later k (l ++ e ∷ r) ≡ later k l ++ e ∷ r
    later_left k l e r p s = later_front k l (e ∷ r) (under_from_less k l e r p s)

    later_greater : (k : K) (l : List (K × X)) (e : K × X) (r : List (K × X)) → R k e.0 ≡ Greater → T (is_sorted R (l ++ e ∷ r)) → later k (l ++ e ∷ r) ≡ later k r
    later_greater k l e r p s = later_past k l (e ∷ r) (above_greater k l e r p s) ∙ ap (λ c. cond (is_lt c) (e ∷ later k r) (later k r)) p

    later_equal : (k : K) (l : List (K × X)) (e : K × X) (r : List (K × X)) → R k e.0 ≡ Equal → T (is_sorted R (l ++ e ∷ r)) → later k (l ++ e ∷ r) ≡ later k r
    later_equal k l e r p s = later_past k l (e ∷ r) (above_equal k l e r p s) ∙ ap (λ c. cond (is_lt c) (e ∷ later k r) (later k r)) p

    pub later_right : (k : K) (l : List (K × X)) (e : K × X) (r : List (K × X)) → (R k e.0 ≡ Less → ⊥) → T (is_sorted R (l ++ e ∷ r)) → later k (l ++ e ∷ r) ≡ later k r
    later_right k l e r apart s =
        elim (R k e.0) as (λ c. R k e.0 ≡ c → later k (l ++ e ∷ r) ≡ later k r) [
          | Less ↦ λ p. absurd (apart p)
          | Equal ↦ λ p. later_equal k l e r p s
          | Greater ↦ λ p. later_greater k l e r p s
        ] refl
