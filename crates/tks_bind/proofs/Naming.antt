-- The places of virtual events by their names, where one comes in, changes or goes out.
use Rattle.std.specs.FinMap as map
use Rattle.std.specs.List.{list_all, remove}
use Rattle.std.specs.Cmp.Lexicographic.{bytes_decides, nat_list_cmp_total}
use Rattle.std.proofs.Common.{◌≡◌, ◌<◌, ◌≤◌, ◌+◌, ◌==◌, ℕ, zero, suc, Bool, true, false, cond, not, nat_lt, List, [], ◌∷◌, ◌++◌, length, slice_get, slice_set, Some, None, refl, sym, ap, ◌∙◌, arith, true≢false}
use Rattle.std.proofs.lemmas.Bool.Decides.{nat_tests}
use Rattle.tks_share.specs.Names.{order}
use Rattle.tks_share.proofs.Alike.{names_alike}
use Rattle.tks_text.specs.Text.{same_text}
use Rattle.tks_text.proofs.Texts.{both}
use Rattle.tks_bind.specs.declared.name_places.NamePlaces.{NamePlaces}
use Rattle.tks_bind.specs.declared.virtual_event.VirtualEvent.{VirtualEvent}
use Rattle.tks_bind.specs.Distinct.{all_differ}
use Rattle.tks_bind.specs.VirtualEvents.{is_named}
use Rattle.tks_bind.specs.VirtualIndexes.{index_of, found, ArePlaced}
use Rattle.tks_bind.specs.WellFormed.{names_differ, are_virtuals}
use Rattle.tks_bind.proofs.Virtually.{found_inside}
use Rattle.tks_bind.proofs.Differing.{join, all_pushed, all_removed}

-- ---- where one stands

module _ (name : List ℕ) where
  pub stands : (vs : List VirtualEvent) → slice_get vs (index_of name vs) ≡ found name vs
  stands [] = refl
  stands (v ∷ vs) = by (is_named name v) (stands vs)
    where
      by : (b : Bool) → slice_get vs (index_of name vs) ≡ found name vs
          → slice_get (v ∷ vs) (cond b 0 (suc (index_of name vs))) ≡ cond b (Some v) (found name vs)
      by true rest = refl
      by false rest = rest

  pub at_most : (vs : List VirtualEvent) → index_of name vs ≤ length vs
  at_most [] = omega arith
  at_most (v ∷ vs) = by (is_named name v) (at_most vs)
    where
      by : (b : Bool) → index_of name vs ≤ length vs → cond b 0 (suc (index_of name vs)) ≤ suc (length vs)
      by true rest = omega arith
      by false rest = omega (arith, rest)

  -- a name that none has
  pub none_there : (vs : List VirtualEvent) → found name vs ≡ None → index_of name vs ≡ length vs
  none_there [] none = refl
  none_there (v ∷ vs) none = by (is_named name v) none (none_there vs)
    where
      by : (b : Bool) → cond b (Some v) (found name vs) ≡ None → (found name vs ≡ None → index_of name vs ≡ length vs) → cond b 0 (suc (index_of name vs)) ≡ suc (length vs)
      by true none rest = cc
      by false none rest = ap suc (rest none)

  pub none_before : (vs : List VirtualEvent) (v : VirtualEvent) → v.name ≡ name → list_all (λ u. names_differ u v) vs ≡ true → index_of name vs ≡ length vs
  none_before [] v e h = refl
  none_before (u ∷ vs) v e h = by (is_named name u) refl (both (names_differ u v) (list_all (λ w. names_differ w v) vs) h) (none_before vs v e)
    where
      by : (b : Bool) → is_named name u ≡ b → (names_differ u v ≡ true) × (list_all (λ w. names_differ w v) vs ≡ true)
          → (list_all (λ w. names_differ w v) vs ≡ true → index_of name vs ≡ length vs) → cond b 0 (suc (index_of name vs)) ≡ suc (length vs)
      by true k two rest =
          let same = (bytes_decides u.name v.name).1 ((bytes_decides u.name name).0 k ∙ sym e) in
          absurd (true≢false (sym two.0 ∙ ap not same))
      by false k two rest = ap suc (rest two.1)

-- ---- numbers at the same places

past : (ns : List ℕ) (i : ℕ) → slice_get ns i ≡ None → length ns ≤ i
past [] i h = omega arith
past (n ∷ ns) zero h = cc
past (n ∷ ns) (suc i) h = let rest = past ns i h in omega (arith, rest)

no_number : (ns : List ℕ) (i : ℕ) → length ns ≤ i → slice_get ns i ≡ None
no_number [] i h = refl
no_number (n ∷ ns) zero h = absurd (omega (arith, h))
no_number (n ∷ ns) (suc i) h = no_number ns i (omega (arith, h))

last_number : (ns : List ℕ) (n i : ℕ) → i ≡ length ns → slice_get (ns ++ n ∷ []) i ≡ Some n
last_number [] n i e = ap (slice_get (n ∷ [])) e
last_number (m ∷ ns) n zero e = absurd (omega (arith, e))
last_number (m ∷ ns) n (suc i) e = last_number ns n i (omega (arith, e))

pub many_left : {X Y : Type 0} (xs : List X) (ys : List Y) (i : ℕ) → length xs ≡ length ys → length (remove xs i) ≡ length (remove ys i)
many_left [] [] zero e = refl
many_left [] [] (suc i) e = refl
many_left [] (y ∷ ys) i e = absurd (omega (arith, e))
many_left (x ∷ xs) [] i e = absurd (omega (arith, e))
many_left (x ∷ xs) (y ∷ ys) zero e = omega (arith, e)
many_left (x ∷ xs) (y ∷ ys) (suc i) e = ap suc (many_left xs ys i (omega (arith, e)))

many_more : {X Y : Type 0} (xs : List X) (ys : List Y) (x : X) (y : Y) → length xs ≡ length ys → length (xs ++ x ∷ []) ≡ length (ys ++ y ∷ [])
many_more [] [] x y e = refl
many_more [] (z ∷ ys) x y e = absurd (omega (arith, e))
many_more (z ∷ xs) [] x y e = absurd (omega (arith, e))
many_more (z ∷ xs) (w ∷ ys) x y e = ap suc (many_more xs ys x y (omega (arith, e)))

many_set : {X : Type 0} (xs : List X) (i : ℕ) (x : X) → length (slice_set xs i x) ≡ length xs
many_set [] zero x = refl
many_set [] (suc i) x = refl
many_set (y ∷ xs) zero x = refl
many_set (y ∷ xs) (suc i) x = ap suc (many_set xs i x)

-- ---- one comes in

module _ (other : List ℕ) (v : VirtualEvent) (isnt : is_named other v ≡ false) where
  more_elsewhere : (ns : List ℕ) (n : ℕ) (vs : List VirtualEvent) → length ns ≡ length vs → slice_get (ns ++ n ∷ []) (index_of other (vs ++ v ∷ [])) ≡ slice_get ns (index_of other vs)
  more_elsewhere [] n [] e = ap (λ b. slice_get (n ∷ []) (cond b 0 1)) isnt
  more_elsewhere [] n (u ∷ vs) e = absurd (omega (arith, e))
  more_elsewhere (m ∷ ns) n [] e = absurd (omega (arith, e))
  more_elsewhere (m ∷ ns) n (u ∷ vs) e = by (is_named other u) (more_elsewhere ns n vs (omega (arith, e)))
    where
      by : (b : Bool) → slice_get (ns ++ n ∷ []) (index_of other (vs ++ v ∷ [])) ≡ slice_get ns (index_of other vs)
          → slice_get (m ∷ (ns ++ n ∷ [])) (cond b 0 (suc (index_of other (vs ++ v ∷ [])))) ≡ slice_get (m ∷ ns) (cond b 0 (suc (index_of other vs)))
      by true rest = refl
      by false rest = rest

more_here : (name : List ℕ) (v : VirtualEvent) (vs : List VirtualEvent) → is_named name v ≡ true → index_of name vs ≡ length vs → index_of name (vs ++ v ∷ []) ≡ length vs
more_here name v [] is e = ap (λ b. cond b 0 1) is
more_here name v (u ∷ vs) is e = by (is_named name u) e (more_here name v vs is)
  where
    by : (b : Bool) → cond b 0 (suc (index_of name vs)) ≡ suc (length vs) → (index_of name vs ≡ length vs → index_of name (vs ++ v ∷ []) ≡ length vs)
        → cond b 0 (suc (index_of name (vs ++ v ∷ []))) ≡ suc (length vs)
    by true e rest = absurd (omega (arith, e))
    by false e rest = ap suc (rest (omega (arith, e)))

below_more : (next : ℕ) (ns : List ℕ) → list_all (λ n. nat_lt n next) ns ≡ true → list_all (λ n. nat_lt n (next + 1)) ns ≡ true
below_more next [] h = refl
below_more next (n ∷ ns) h =
    let two = both (nat_lt n next) (list_all (λ m. nat_lt m next) ns) h in
    let first : nat_lt n (next + 1) ≡ true = let lt = two.0 in grind (arith, nat_tests) in
    join (nat_lt n (next + 1)) (list_all (λ m. nat_lt m (next + 1)) ns) first (below_more next ns two.1)

-- the next number is new
pub next_is_new : (next : ℕ) (ns : List ℕ) → list_all (λ n. nat_lt n next) ns ≡ true → list_all (λ n. not (n == next)) ns ≡ true
next_is_new next [] h = refl
next_is_new next (n ∷ ns) h =
    let two = both (nat_lt n next) (list_all (λ m. nat_lt m next) ns) h in
    let other : not (n == next) ≡ true = let lt = two.0 in grind (arith, nat_tests) in
    join (not (n == next)) (list_all (λ m. not (m == next)) ns) other (next_is_new next ns two.1)

module _ (p : NamePlaces) (vs : List VirtualEvent) (h : ArePlaced vs p) where
  pub placed_pushed : (name : List ℕ) (v : VirtualEvent) → index_of name vs ≡ length vs → v.name ≡ name
      → ArePlaced (vs ++ v ∷ []) (record { numbers = map.insert p.numbers name p.next; places = p.places ++ p.next ∷ []; next = p.next + 1 })
  placed_pushed name v none is = record {
    many = many_more p.places vs p.next v h.many;
    below = all_pushed (λ n. nat_lt n (p.next + 1)) p.places p.next (below_more p.next p.places h.below) (let next = p.next in grind (arith, nat_tests));
    found = λ other.
        map.get-insert nat_list_cmp_total p.numbers name p.next other
        ∙ ap (λ b. cond b (Some p.next) (map.get p.numbers other)) (names_alike other name)
        ∙ by other (same_text other name) refl;
  }
    where
      by : (other : List ℕ) (b : Bool) → same_text other name ≡ b → cond b (Some p.next) (map.get p.numbers other) ≡ slice_get (p.places ++ p.next ∷ []) (index_of other (vs ++ v ∷ []))
      by other true e =
          let same : other ≡ name = (bytes_decides other name).0 e in
          let named : is_named name v ≡ true = (bytes_decides v.name name).1 is in
          sym (
          ap (λ o. slice_get (p.places ++ p.next ∷ []) (index_of o (vs ++ v ∷ []))) same
          ∙ last_number p.places p.next (index_of name (vs ++ v ∷ [])) (more_here name v vs named none ∙ sym h.many)
          )
      by other false e = h.found other ∙ sym (more_elsewhere other v (apart other e) p.places p.next vs h.many)
        where
          apart : (other : List ℕ) → same_text other name ≡ false → is_named other v ≡ false
          apart other e = at (is_named other v) refl
            where
              at : (b : Bool) → is_named other v ≡ b → b ≡ false
              at true k = absurd (true≢false (sym ((bytes_decides other name).1 (sym ((bytes_decides v.name other).0 k) ∙ is)) ∙ e))
              at false k = refl

  -- ---- one is found

  pub none_placed : (name : List ℕ) → map.get p.numbers name ≡ None → length vs ≡ index_of name vs
  none_placed name none =
      let beyond = past p.places (index_of name vs) (sym (h.found name) ∙ none) in
      let most = at_most name vs in
      omega (arith, beyond, most, h.many)

  pub number_placed : (name : List ℕ) (n : ℕ) → map.get p.numbers name ≡ Some n → slice_get p.places (index_of name vs) ≡ Some n
  number_placed name n some = sym (h.found name) ∙ some

  pub inside : (name : List ℕ) (v : VirtualEvent) → found name vs ≡ Some v → (index : ℕ) → index ≡ index_of name vs → index < length p.places
  inside name v there index at = let within = found_inside name v vs there in omega (arith, within, at, h.many)

  -- ---- another takes the place of one, under its name

  pub placed_set : (name : List ℕ) (v w : VirtualEvent) → found name vs ≡ Some v → w.name ≡ v.name → ArePlaced (slice_set vs (index_of name vs) w) p
  placed_set name v w there same = record {
    many = h.many ∙ sym (many_set vs (index_of name vs) w);
    below = h.below;
    found = λ other. h.found other ∙ ap (slice_get p.places) (sym (alike other vs there));
  }
    where
      alike : (other : List ℕ) (us : List VirtualEvent) → found name us ≡ Some v → index_of other (slice_set us (index_of name us) w) ≡ index_of other us
      alike other [] f = cc
      alike other (u ∷ us) f = by (is_named name u) f (alike other us)
        where
          by : (b : Bool) → cond b (Some u) (found name us) ≡ Some v → (found name us ≡ Some v → index_of other (slice_set us (index_of name us) w) ≡ index_of other us)
              → index_of other (slice_set (u ∷ us) (cond b 0 (suc (index_of name us))) w) ≡ index_of other (u ∷ us)
          by true f rest =
              let one : u ≡ v = cc in
              ap (λ m. cond (same_text m other) 0 (suc (index_of other us))) (same ∙ ap (λ (x : VirtualEvent). x.name) (sym one))
          by false f rest = ap (λ n. cond (is_named other u) 0 (suc n)) (rest f)

-- ---- one goes out

other_named : (name other : List ℕ) (v : VirtualEvent) → same_text other name ≡ false → is_named name v ≡ true → is_named other v ≡ false
other_named name other v apart is = by (is_named other v) refl
  where
    by : (b : Bool) → is_named other v ≡ b → b ≡ false
    by true k = absurd (true≢false (sym ((bytes_decides other name).1 (sym ((bytes_decides v.name other).0 k) ∙ (bytes_decides v.name name).0 is)) ∙ apart))
    by false k = refl

less_elsewhere : (name other : List ℕ) (ns : List ℕ) (vs : List VirtualEvent) → same_text other name ≡ false → length ns ≡ length vs
    → slice_get (remove ns (index_of name vs)) (index_of other (remove vs (index_of name vs))) ≡ slice_get ns (index_of other vs)
less_elsewhere name other [] [] apart e = refl
less_elsewhere name other [] (v ∷ vs) apart e = absurd (omega (arith, e))
less_elsewhere name other (n ∷ ns) [] apart e = absurd (omega (arith, e))
less_elsewhere name other (n ∷ ns) (v ∷ vs) apart e = by (is_named name v) refl (less_elsewhere name other ns vs apart (omega (arith, e)))
  where
    at : (b : Bool) → slice_get (remove ns (index_of name vs)) (index_of other (remove vs (index_of name vs))) ≡ slice_get ns (index_of other vs)
        → slice_get (n ∷ remove ns (index_of name vs)) (cond b 0 (suc (index_of other (remove vs (index_of name vs))))) ≡ slice_get (n ∷ ns) (cond b 0 (suc (index_of other vs)))
    at true rest = refl
    at false rest = rest

    by : (b : Bool) → is_named name v ≡ b → slice_get (remove ns (index_of name vs)) (index_of other (remove vs (index_of name vs))) ≡ slice_get ns (index_of other vs)
        → slice_get (remove (n ∷ ns) (cond b 0 (suc (index_of name vs)))) (index_of other (remove (v ∷ vs) (cond b 0 (suc (index_of name vs))))) ≡ slice_get (n ∷ ns) (index_of other (v ∷ vs))
    by true is rest = sym (ap (λ b. slice_get (n ∷ ns) (cond b 0 (suc (index_of other vs)))) (other_named name other v apart is))
    by false isnt rest = at (is_named other v) rest

-- the name that went is no one's
less_here : (name : List ℕ) (vs : List VirtualEvent) → are_virtuals vs ≡ true → index_of name (remove vs (index_of name vs)) ≡ length (remove vs (index_of name vs))
less_here name [] h = refl
less_here name (v ∷ vs) h = by (is_named name v) refl (both (list_all (names_differ v) vs) (all_differ names_differ vs) h) (less_here name vs)
  where
    behind : (us : List VirtualEvent) → is_named name v ≡ true → list_all (names_differ v) us ≡ true → index_of name us ≡ length us
    behind [] is h = refl
    behind (u ∷ us) is h = at (is_named name u) refl (both (names_differ v u) (list_all (names_differ v) us) h) (behind us is)
      where
        at : (b : Bool) → is_named name u ≡ b → (names_differ v u ≡ true) × (list_all (names_differ v) us ≡ true) → (list_all (names_differ v) us ≡ true → index_of name us ≡ length us)
            → cond b 0 (suc (index_of name us)) ≡ suc (length us)
        at true k two rest =
            let same = (bytes_decides v.name u.name).1 ((bytes_decides v.name name).0 is ∙ sym ((bytes_decides u.name name).0 k)) in
            absurd (true≢false (sym two.0 ∙ ap not same))
        at false k two rest = ap suc (rest two.1)

    by : (b : Bool) → is_named name v ≡ b → (list_all (names_differ v) vs ≡ true) × (are_virtuals vs ≡ true)
        → (are_virtuals vs ≡ true → index_of name (remove vs (index_of name vs)) ≡ length (remove vs (index_of name vs)))
        → index_of name (remove (v ∷ vs) (cond b 0 (suc (index_of name vs)))) ≡ length (remove (v ∷ vs) (cond b 0 (suc (index_of name vs))))
    by true is two rest = behind vs is two.0
    by false isnt two rest = ap (λ b. cond b 0 (suc (index_of name (remove vs (index_of name vs))))) isnt ∙ ap suc (rest two.1)

pub placed_removed : (p : NamePlaces) (vs : List VirtualEvent) → ArePlaced vs p → are_virtuals vs ≡ true → (name : List ℕ) (index : ℕ) → index ≡ index_of name vs
    → ArePlaced (remove vs index) (record { numbers = map.remove p.numbers name; places = remove p.places index; next = p.next })
placed_removed p vs h differ name index at = record {
  many = many_left p.places vs index h.many;
  below = all_removed (λ n. nat_lt n p.next) p.places index h.below;
  found = λ other.
      map.get-remove nat_list_cmp_total p.numbers name other
      ∙ ap (λ b. cond b None (map.get p.numbers other)) (names_alike other name)
      ∙ by other (same_text other name) refl
      ∙ ap (λ i. slice_get (remove p.places i) (index_of other (remove vs i))) (sym at);
}
  where
    by : (other : List ℕ) (b : Bool) → same_text other name ≡ b
        → cond b None (map.get p.numbers other) ≡ slice_get (remove p.places (index_of name vs)) (index_of other (remove vs (index_of name vs)))
    by other true e =
        let same : other ≡ name = (bytes_decides other name).0 e in
        let here = less_here name vs differ in
        let many = many_left p.places vs (index_of name vs) h.many in
        sym (
        ap (λ o. slice_get (remove p.places (index_of name vs)) (index_of o (remove vs (index_of name vs)))) same
        ∙ no_number (remove p.places (index_of name vs)) (index_of name (remove vs (index_of name vs))) (omega (arith, here, many))
        )
    by other false e = h.found other ∙ sym (less_elsewhere name other p.places vs e h.many)

-- no virtual event
pub none_so_far : (p : NamePlaces) → p.numbers ≡ map.empty → p.places ≡ [] → ArePlaced [] p
none_so_far p numbers places = record {
  many = ap length places;
  below = ap (list_all (λ n. nat_lt n p.next)) places;
  found = λ name. ap (λ m. map.get m name) numbers ∙ map.get-empty order name ∙ ap (λ ns. slice_get ns 0) (sym places);
}
