-- Numbers in a row by their counts, where one comes in or goes out.
use Rattle.std.specs.FinMap as map
use Rattle.std.specs.Int.{w64, to_be_bytes}
use Rattle.std.specs.List.{AllByRecursion, list_all, remove, position, position_or_len}
use Rattle.std.proofs.Common.{◌≡◌, ◌<◌, ◌≤◌, ◌+◌, ◌^◌, ◌==◌, ℕ, zero, suc, Bool, true, false, cond, not, List, [], ◌∷◌, ◌++◌, length, slice_get, slice_set, Option, Some, None, refl, sym, ap, subst, ◌∙◌, arith, true≢false, nat_lt}
use Rattle.std.proofs.lemmas.Bool.Decides.{nat_tests}
use Rattle.std.proofs.lemmas.Bool.{ne_eqb}
use Rattle.std.proofs.lemmas.Nat.{from_be_bytes-to_be_bytes_8}
use Rattle.std.proofs.lemmas.Option.{slice_get_within}
use Rattle.std.specs.Cmp.Lexicographic.{bytes_decides, nat_list_cmp_total}
use Rattle.tks_share.specs.Lists.{Rises}
use Rattle.tks_share.specs.Maps.{Map}
use Rattle.tks_share.proofs.Alike.{names_alike}
use Rattle.tks_text.specs.Text.{same_text}
use Rattle.tks_text.proofs.Texts.{both}
use Rattle.tks_bind.specs.declared.places.Counted.{Counted}
use Rattle.tks_bind.specs.Places.{key, IsCounted, AreCounted, put_at}

-- ---- under other numbers

some_is : {X : Type 0} (a b : X) → Some a ≡ Some b → a ≡ b
some_is a b p = cc

same_key : (a b : ℕ) → a < 2 ^ 64 → b < 2 ^ 64 → key a ≡ key b → a ≡ b
same_key a b x y e = sym (from_be_bytes-to_be_bytes_8 a x) ∙ ap (Rattle.std.specs.Int.from_be_bytes w64) e ∙ from_be_bytes-to_be_bytes_8 b y

other_key : (a b : ℕ) → a < 2 ^ 64 → b < 2 ^ 64 → (a == b) ≡ false → same_text (key a) (key b) ≡ false
other_key a b x y other = by (same_text (key a) (key b)) refl
  where
    by : (t : Bool) → same_text (key a) (key b) ≡ t → t ≡ false
    by true e =
        let same : a ≡ b = same_key a b x y ((bytes_decides (key a) (key b)).0 e) in
        let there : (a == b) ≡ true = grind (arith, nat_tests) in
        absurd (true≢false (sym there ∙ other))
    by false e = refl

module _ (m : Map ℕ) (name : List ℕ) where
  put_here : (v : ℕ) → map.get (map.insert m name v) name ≡ Some v
  put_here v =
      map.get-insert nat_list_cmp_total m name v name
      ∙ ap (λ b. cond b (Some v) (map.get m name)) (names_alike name name ∙ (bytes_decides name name).1 refl)

  put_elsewhere : (v : ℕ) (other : List ℕ) → same_text other name ≡ false → map.get (map.insert m name v) other ≡ map.get m other
  put_elsewhere v other apart =
      map.get-insert nat_list_cmp_total m name v other
      ∙ ap (λ b. cond b (Some v) (map.get m other)) (names_alike other name ∙ apart)

  taken_elsewhere : (other : List ℕ) → same_text other name ≡ false → map.get (map.remove m name) other ≡ map.get m other
  taken_elsewhere other apart =
      map.get-remove nat_list_cmp_total m name other
      ∙ ap (λ b. cond b None (map.get m other)) (names_alike other name ∙ apart)

-- ---- of all

module _ {X : Type 0} where
  all_so : (P Q : X → Type 0) → ((x : X) → P x → Q x) → (xs : List X) → AllByRecursion P xs → AllByRecursion Q xs
  all_so P Q f [] h = tt
  all_so P Q f (x ∷ xs) h = (f x h.0, all_so P Q f xs h.1)

  all_two : (P Q R : X → Type 0) → ((x : X) → P x → Q x → R x) → (xs : List X) → AllByRecursion P xs → AllByRecursion Q xs → AllByRecursion R xs
  all_two P Q R f [] h k = tt
  all_two P Q R f (x ∷ xs) h k = (f x h.0 k.0, all_two P Q R f xs h.1 k.1)

  all_behind : (P : X → Type 0) (xs : List X) (x : X) → AllByRecursion P xs → P x → AllByRecursion P (xs ++ x ∷ [])
  all_behind P [] x h p = (p, tt)
  all_behind P (y ∷ xs) x h p = (h.0, all_behind P xs x h.1 p)

  all_at : (P : X → Type 0) (xs : List X) (i : ℕ) (x : X) → AllByRecursion P xs → slice_get xs i ≡ Some x → P x
  all_at P [] i x h is = cc
  all_at P (y ∷ xs) zero x h is = subst P (some_is y x is) h.0
  all_at P (y ∷ xs) (suc i) x h is = all_at P xs i x h.1 is

  all_left : (P : X → Type 0) (xs : List X) (i : ℕ) → AllByRecursion P xs → AllByRecursion P (remove xs i)
  all_left P [] zero h = tt
  all_left P [] (suc i) h = tt
  all_left P (y ∷ xs) zero h = h.1
  all_left P (y ∷ xs) (suc i) h = (h.0, all_left P xs i h.1)

  all_set : (P : X → Type 0) (xs : List X) (i : ℕ) (x : X) → AllByRecursion P (remove xs i) → P x → AllByRecursion P (slice_set xs i x)
  all_set P [] zero x h p = tt
  all_set P [] (suc i) x h p = tt
  all_set P (y ∷ xs) zero x h p = (p, h)
  all_set P (y ∷ xs) (suc i) x h p = (h.0, all_set P xs i x h.1 p)

-- what no number is, none of the numbers is
none_is : (n : ℕ) (cs : List Counted) → list_all (λ m. not (m == n)) (Rattle.std.specs.Prelude.map (λ c. c.number) cs) ≡ true → AllByRecursion (λ c. (c.number == n) ≡ false) cs
none_is n [] h = tt
none_is n (c ∷ cs) h =
    let two = both (not (c.number == n)) (list_all (λ m. not (m == n)) (Rattle.std.specs.Prelude.map (λ c. c.number) cs)) h in
    (turned_back (c.number == n) two.0, none_is n cs two.1)
  where
    turned_back : (a : Bool) → not a ≡ true → a ≡ false
    turned_back true h = sym h
    turned_back false h = refl

-- ---- counts that rise

abbrev count_of : Counted → ℕ
count_of c = c.count

counts_from : (low : ℕ) (cs : List Counted) → Rises count_of low cs → AllByRecursion (λ c. low ≤ c.count) cs
counts_from low [] h = tt
counts_from low (c ∷ cs) h = (h.0, all_so (λ d. c.count + 1 ≤ d.count) (λ d. low ≤ d.count) (λ d k. omega (arith, k, h.0)) cs (counts_from (c.count + 1) cs h.1))

rise_lower : (low lower : ℕ) (cs : List Counted) → lower ≤ low → Rises count_of low cs → Rises count_of lower cs
rise_lower low lower [] le h = tt
rise_lower low lower (c ∷ cs) le h = (omega (arith, le, h.0), h.1)

rise_behind : (low next : ℕ) (cs : List Counted) (c : Counted) → Rises count_of low cs → AllByRecursion (λ c. c.count < next) cs → low ≤ next → c.count ≡ next → Rises count_of low (cs ++ c ∷ [])
rise_behind low next [] c h k le e = (omega (arith, le, e), tt)
rise_behind low next (d ∷ cs) c h k le e = (h.0, rise_behind (d.count + 1) next cs c h.1 k.1 (omega (arith, k.0)) e)

rise_left : (low : ℕ) (cs : List Counted) (i : ℕ) → Rises count_of low cs → Rises count_of low (remove cs i)
rise_left low [] zero h = tt
rise_left low [] (suc i) h = tt
rise_left low (c ∷ cs) zero h = rise_lower (c.count + 1) low cs (omega (arith, h.0)) h.1
rise_left low (c ∷ cs) (suc i) h = (h.0, rise_left (c.count + 1) cs i h.1)

rise_set : (low : ℕ) (cs : List Counted) (i : ℕ) (old c : Counted) → slice_get cs i ≡ Some old → c.count ≡ old.count → Rises count_of low cs → Rises count_of low (slice_set cs i c)
rise_set low [] i old c is e h = cc
rise_set low (d ∷ cs) zero old c is e h =
    let same : c.count ≡ d.count = e ∙ ap count_of (sym (some_is d old is)) in
    (omega (arith, same, h.0), subst (λ n. Rises count_of (n + 1) cs) (sym same) h.1)
rise_set low (d ∷ cs) (suc i) old c is e h = (h.0, rise_set (d.count + 1) cs i old c is e h.1)

-- the others have other counts
others_count : (low : ℕ) (cs : List Counted) (i : ℕ) (c : Counted) → Rises count_of low cs → slice_get cs i ≡ Some c → AllByRecursion (λ d. (d.count == c.count) ≡ false) (remove cs i)
others_count low [] i c h is = cc
others_count low (d ∷ cs) zero c h is =
    let same : d.count ≡ c.count = ap count_of (some_is d c is) in
    all_so (λ e. d.count + 1 ≤ e.count) (λ e. (e.count == c.count) ≡ false) (λ e k. ne_eqb e.count c.count (λ q. absurd (omega (arith, k, q, same)))) cs (counts_from (d.count + 1) cs h.1)
others_count low (d ∷ cs) (suc i) c h is =
    let above : d.count + 1 ≤ c.count = all_at (λ e. d.count + 1 ≤ e.count) cs i c (counts_from (d.count + 1) cs h.1) is in
    (ne_eqb d.count c.count (λ q. absurd (omega (arith, above, q))), others_count (d.count + 1) cs i c h.1 is)

-- ---- where a number stands

position_from_or : {X : Type 0} (p : X → Bool) (xs : List X) (i : ℕ) → position_or_len p xs ≡ i → i < length xs → position p xs ≡ Some i
position_from_or p xs i e lt =
    let within : nat_lt i (length xs) ≡ true = grind (arith, nat_tests) in
    ap (λ n. cond (nat_lt n (length xs)) (Some n) None) e ∙ ap (λ b. cond b (Some i) None) within

stands_at : (low : ℕ) (cs : List Counted) (i : ℕ) (c : Counted) → Rises count_of low cs → slice_get cs i ≡ Some c → position_or_len (λ d. d.count == c.count) cs ≡ i
stands_at low [] i c h is = cc
stands_at low (d ∷ cs) zero c h is =
    let same : (d.count == c.count) ≡ true = let e = ap count_of (some_is d c is) in grind (arith, nat_tests) in
    ap (λ b. cond (not b) (1 + position_or_len (λ d. d.count == c.count) cs) 0) same
stands_at low (d ∷ cs) (suc i) c h is =
    let above : d.count + 1 ≤ c.count = all_at (λ e. d.count + 1 ≤ e.count) cs i c (counts_from (d.count + 1) cs h.1) is in
    let other : (d.count == c.count) ≡ false = grind (arith, nat_tests) in
    let rest = stands_at (d.count + 1) cs i c h.1 is in
    ap (λ b. cond (not b) (1 + position_or_len (λ d. d.count == c.count) cs) 0) other ∙ ap (λ n. 1 + n) rest ∙ omega arith

record Stands (cs : List Counted) (i n : ℕ) : Type 0 where
  pub one : Counted
  pub there : slice_get cs i ≡ Some one
  pub is : one.number ≡ n

numbered_at : (cs : List Counted) (i n : ℕ) → slice_get (Rattle.std.specs.Prelude.map (λ c. c.number) cs) i ≡ Some n → Stands cs i n
numbered_at [] i n is = cc
numbered_at (c ∷ cs) zero n is = record { one = c; there = refl; is = some_is c.number n is }
numbered_at (c ∷ cs) (suc i) n is = let rest = numbered_at cs i n is in record { one = rest.one; there = rest.there; is = rest.is }

module _ (cs : List Counted) (counts : Map ℕ) (next : ℕ) (h : AreCounted cs counts next) where
  module _ (place n : ℕ) (is : slice_get (Rattle.std.specs.Prelude.map (λ c. c.number) cs) place ≡ Some n) where
    at : Stands cs place n
    at = numbered_at cs place n is

    found_so : map.get counts (key n) ≡ Some (at).one.count
    found_so = ap (λ m. map.get counts (key m)) (sym (at).is) ∙ (all_at (IsCounted counts next) cs place (at).one h.counted (at).there).found

    pub some_count : map.get counts (key n) ≡ None → ⊥
    some_count none = let g : ◌≡◌ {A = Option ℕ} None (Some (at).one.count) = sym none ∙ found_so in cc

    pub place_found : (count : ℕ) → map.get counts (key n) ≡ Some count → position (λ c. c.count == count) cs ≡ Some place
    place_found count found =
        let same : (at).one.count ≡ count = some_is (at).one.count count (sym found_so ∙ found) in
        subst (λ m. position (λ c. c.count == m) cs ≡ Some place) same
        (position_from_or (λ c. c.count == (at).one.count) cs place (stands_at 0 cs place (at).one h.rising (at).there) (slice_get_within cs place (at).one (at).there))

  -- ---- what is done

  module _ (n : ℕ) (small : n < 2 ^ 64) (new : list_all (λ m. not (m == n)) (Rattle.std.specs.Prelude.map (λ c. c.number) cs) ≡ true) where
    pub counted_pushed : AreCounted (cs ++ record { count = next; number = n } ∷ []) (map.insert counts (key n) next) (next + 1)
    counted_pushed =
        let c : Counted = record { count = next; number = n } in
        let m = map.insert counts (key n) next in
        record {
          rising = rise_behind 0 next cs c h.rising (all_so (IsCounted counts next) (λ d. d.count < next) (λ d k. k.below) cs h.counted) (omega arith) refl;
          counted =
              all_behind (IsCounted m (next + 1)) cs c
              (all_two (IsCounted counts next) (λ d. (d.number == n) ≡ false) (IsCounted m (next + 1)) (λ d k other. record {
                below = omega (arith, k.below);
                small = k.small;
                found = put_elsewhere counts (key n) next (key d.number) (other_key d.number n k.small small other) ∙ k.found;
              }) cs h.counted (none_is n cs new))
              (record { below = omega arith; small = small; found = put_here counts (key n) next });
        }

  module _ (i : ℕ) (old : Counted) (there : slice_get cs i ≡ Some old) where
    itself : IsCounted counts next old
    itself = all_at (IsCounted counts next) cs i old h.counted there

    other_number : (d : Counted) → IsCounted counts next d → (d.count == old.count) ≡ false → (d.number == old.number) ≡ false
    other_number d k other = by (d.number == old.number) refl
      where
        by : (b : Bool) → (d.number == old.number) ≡ b → b ≡ false
        by true e =
            let same : d.number ≡ old.number = grind (arith, nat_tests) in
            let counts_same : d.count ≡ old.count = some_is d.count old.count (sym k.found ∙ ap (λ m. map.get counts (key m)) same ∙ (itself).found) in
            let there : (d.count == old.count) ≡ true = grind (arith, nat_tests) in
            absurd (true≢false (sym there ∙ other))
        by false e = refl

    others_stay : AllByRecursion (IsCounted (map.remove counts (key old.number)) next) (remove cs i)
    others_stay =
        all_two (IsCounted counts next) (λ d. (d.count == old.count) ≡ false) (IsCounted (map.remove counts (key old.number)) next) (λ d k other. record {
          below = k.below;
          small = k.small;
          found =
              taken_elsewhere counts (key old.number) (key d.number) (other_key d.number old.number k.small (itself).small (other_number d k other)) ∙ k.found;
        }) (remove cs i) (all_left (IsCounted counts next) cs i h.counted) (others_count 0 cs i old h.rising there)

    pub counted_removed : AreCounted (remove cs i) (map.remove counts (key old.number)) next
    counted_removed = record { rising = rise_left 0 cs i h.rising; counted = others_stay }

    pub counted_set : (n : ℕ) → n < 2 ^ 64 → list_all (λ m. not (m == n)) (Rattle.std.specs.Prelude.map (λ c. c.number) cs) ≡ true
        → AreCounted (slice_set cs i (record { count = old.count; number = n })) (map.insert (map.remove counts (key old.number)) (key n) old.count) next
    counted_set n small new =
        let c : Counted = record { count = old.count; number = n } in
        let less = map.remove counts (key old.number) in
        let m = map.insert less (key n) old.count in
        record {
          rising = rise_set 0 cs i old c there refl h.rising;
          counted =
              all_set (IsCounted m next) cs i c
              (all_two (IsCounted less next) (λ d. (d.number == n) ≡ false) (IsCounted m next) (λ d k other. record {
                below = k.below;
                small = k.small;
                found = put_elsewhere less (key n) old.count (key d.number) (other_key d.number n k.small small other) ∙ k.found;
              }) (remove cs i) others_stay (all_left (λ d. (d.number == n) ≡ false) cs i (none_is n cs new)))
              (record { below = (itself).below; small = small; found = put_here less (key n) old.count });
        }

-- ---- numbers alone

pub map_removed : {X Y : Type 0} (f : X → Y) (xs : List X) (i : ℕ) → Rattle.std.specs.Prelude.map f (remove xs i) ≡ remove (Rattle.std.specs.Prelude.map f xs) i
map_removed f [] zero = refl
map_removed f [] (suc i) = refl
map_removed f (x ∷ xs) zero = refl
map_removed f (x ∷ xs) (suc i) = ap (λ l. f x ∷ l) (map_removed f xs i)

pub put_set : (ns : List ℕ) (i n : ℕ) → i < length ns → slice_set ns i n ≡ put_at i n ns
put_set [] i n lt = absurd (omega (arith, lt))
put_set (m ∷ ns) zero n lt = refl
put_set (m ∷ ns) (suc i) n lt = ap (λ l. m ∷ l) (put_set ns i n (omega (arith, lt)))

pub put_last : (ns : List ℕ) (i n : ℕ) → length ns ≤ i → ns ++ n ∷ [] ≡ put_at i n ns
put_last [] i n le = refl
put_last (m ∷ ns) zero n le = absurd (omega (arith, le))
put_last (m ∷ ns) (suc i) n le = ap (λ l. m ∷ l) (put_last ns i n (omega (arith, le)))
