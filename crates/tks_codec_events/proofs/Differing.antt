-- Members that differ, told by keys, one after the other.
use Rattle.std.proofs.Common.{◌≡◌, ℕ, zero, suc, ◌+◌, ◌<◌, Bool, true, false, not, List, [], ◌∷◌, ◌++◌, length, take, get_or, inl, inr, Ordering, Less, Equal, Greater, is_eq, refl, sym, ap, subst, ◌∙◌, true≢false, arith}
use Rattle.std.specs.Prelude.{◌&&◌, ◌||◌}
use Rattle.std.specs.BTreeMap.{is_at}
use Rattle.std.specs.BTreeSet.{BTreeSet, insert_key}
use Rattle.std.specs.Cmp.{eq_by_cmp_equiv}
use Rattle.std.specs.Cmp.Lexicographic.{slice_cmp, texts_ties, nat_list_cmp_total}
use Rattle.std.specs.Global.{Vec}
use Rattle.std.specs.List.{AllByRecursion, list_all, list_any}
use Rattle.std.specs.Ordering.{nat_cmp, eq_by_cmp, match_ordering}
use Rattle.std.proofs.lemmas.Bool.{and_parts, and_from, and_cases, and_left, and_right}
use Rattle.std.proofs.lemmas.List.{take_more}
use Rattle.std.proofs.lemmas.List.Folds.{list_all-append, list_any-append, list_all_at}
use Rattle.tks_text.specs.Text.{same_text}
use Rattle.tks_bind.specs.Distinct.{all_differ}
use Rattle.tks_spelling.proofs.Loop.{one_holds}
use Rattle.tks_codec_events.specs.Keys.{Tells, has_key}

-- ---- those up to a place, and one more

module _ {T : Type 0} (differ : T → T → Bool) where
  -- they differ with one more that differs from each
  differ_more : (xs : List T) (x : T) → all_differ differ xs ≡ true → list_all (λ a. differ a x) xs ≡ true → all_differ differ (xs ++ x ∷ []) ≡ true
  differ_more [] x h k = refl
  differ_more (a ∷ xs) x h k =
      let b = and_parts (list_all (differ a) xs) (all_differ differ xs) h in
      let new = and_parts (differ a x) (list_all (λ c. differ c x) xs) k in
      let first = list_all-append (differ a) xs (x ∷ []) ∙ and_from (list_all (differ a) xs) (differ a x && true) b.0 (and_from (differ a x) true new.0 refl) in
      and_from (list_all (differ a) (xs ++ x ∷ [])) (all_differ differ (xs ++ x ∷ [])) first (differ_more xs x b.1 new.1)

  -- they don't where one is like one before it
  not_apart : (xs : List T) (i : ℕ) (x : T) → i < length xs → x ≡ get_or xs i x → list_all (λ a. differ a x) (take i xs) ≡ false → all_differ differ xs ≡ false
  not_apart [] i x lt is h = absurd (omega (arith, lt))
  not_apart (a ∷ xs) zero x lt is h = absurd (true≢false h)
  not_apart (a ∷ xs) (suc i) x lt is h =
      elim (and_cases (differ a x) (list_all (λ c. differ c x) (take i xs)) h) [
        | inl f ↦ and_left (list_all (differ a) xs) (all_differ differ xs) (list_all_at (differ a) xs i x (omega (arith, lt)) (ap (differ a) (sym is) ∙ f))
        | inr f ↦ and_right (list_all (differ a) xs) (all_differ differ xs) (not_apart xs i x (omega (arith, lt)) is f)
      ]

-- what is known of those up to a place, whose keys were seen
pub record AreSeen {T : Type 0} (differ : T → T → Bool) (key : T → List ℕ) (IsTold : T → Type 0) (seen : List ℕ → Bool) (first : List T) : Type 0 where
  pub told : AllByRecursion IsTold first
  pub keys : (k : List ℕ) → seen k ≡ list_any (λ a. same_text (key a) k) first
  pub apart : all_differ differ first ≡ true

neither : (a b : Bool) → (not a && not b) ≡ not (a || b)
neither true b = refl
neither false b = refl

last_first : (a b : Bool) → (a || b) ≡ (b || (a || false))
last_first true true = refl
last_first true false = refl
last_first false true = refl
last_first false false = refl

module _ {T : Type 0} (differ : T → T → Bool) (key : T → List ℕ) (IsTold : T → Type 0) (tells : Tells differ key IsTold) where
  -- one differs from those that have other keys
  by_keys : (first : List T) (x : T) → AllByRecursion IsTold first → IsTold x → list_all (λ a. differ a x) first ≡ not (list_any (λ a. same_text (key a) (key x)) first)
  by_keys [] x h k = refl
  by_keys (a ∷ first) x h k =
      ap (λ b. b && list_all (λ c. differ c x) first) (tells a x h.0 k)
      ∙ ap (λ b. not (same_text (key a) (key x)) && b) (by_keys first x h.1 k)
      ∙ neither (same_text (key a) (key x)) (list_any (λ c. same_text (key c) (key x)) first)

  module _ (seen : List ℕ → Bool) (xs : List T) (i : ℕ) (x : T) (lt : i < length xs) (is : x ≡ get_or xs i x) (so_far : AreSeen differ key IsTold seen (take i xs)) (told : IsTold x) where
    by_seen : list_all (λ a. differ a x) (take i xs) ≡ not (seen (key x))
    by_seen = by_keys (take i xs) x so_far.told told ∙ ap not (sym (so_far.keys (key x)))

    -- a new key is seen
    pub one_more : (is_new : Bool) (new : List ℕ → Bool) → is_new ≡ not (seen (key x)) → is_new ≡ true → ((k : List ℕ) → new k ≡ (same_text (key x) k || seen k)) → AreSeen differ key IsTold new (take (i + 1) xs)
    one_more is_new new e t kept =
        let more : take (i + 1) xs ≡ take i xs ++ x ∷ [] = take_more xs i x lt ∙ ap (λ y. take i xs ++ y ∷ []) (sym is) in
        record {
          told = one_holds IsTold xs i x lt is so_far.told told;
          keys =
              λ k. kept k
              ∙ ap (λ b. same_text (key x) k || b) (so_far.keys k)
              ∙ last_first (same_text (key x) k) (list_any (λ a. same_text (key a) k) (take i xs))
              ∙ sym (list_any-append (λ a. same_text (key a) k) (take i xs) (x ∷ []))
              ∙ ap (list_any (λ a. same_text (key a) k)) (sym more);
          apart = subst (λ l. all_differ differ l ≡ true) (sym more) (differ_more differ (take i xs) x so_far.apart (by_seen ∙ sym e ∙ t));
        }

    -- a key that was seen before
    pub one_again : (is_new : Bool) → is_new ≡ not (seen (key x)) → is_new ≡ false → false ≡ all_differ differ xs
    one_again is_new e f = sym (not_apart differ xs i x lt is (by_seen ∙ sym e ∙ f))

-- ---- keys in a set

-- equal in the order is the same
same_order : (a b : List ℕ) → eq_by_cmp (slice_cmp nat_cmp) a b ≡ same_text b a
same_order a b = (eq_by_cmp_equiv nat_list_cmp_total).symm a b ∙ sym (texts_ties b a)

twice : (a b : Bool) → (a || b) ≡ (a || (a || b))
twice true b = refl
twice false b = refl

swapped : (a b c : Bool) → (a || (b || c)) ≡ (b || (a || c))
swapped true true c = refl
swapped true false c = refl
swapped false b c = refl

abbrev order : Vec ℕ → Vec ℕ → Ordering
order v w = slice_cmp nat_cmp v.items w.items

abbrev among : List (Vec ℕ) → List ℕ → Bool
among ks k = list_any (is_at (λ (v : Vec ℕ). slice_cmp nat_cmp k v.items)) ks

one_among : (v : Vec ℕ) (ks : List (Vec ℕ)) (k : List ℕ) → among (insert_key order ks v) k ≡ (same_text v.items k || among ks k)
one_among v [] k = ap (λ b. b || false) (same_order k v.items)
one_among v (w ∷ ks) k = by (order v w) refl (one_among v ks k)
  where
    by : (r : Ordering) → order v w ≡ r → among (insert_key order ks v) k ≡ (same_text v.items k || among ks k) → among (match_ordering r (v ∷ w ∷ ks) (w ∷ ks) (w ∷ insert_key order ks v)) k ≡ (same_text v.items k || among (w ∷ ks) k)
    by Less e rest = ap (λ b. b || among (w ∷ ks) k) (same_order k v.items)
    by Equal e rest =
        let alike = eq_by_cmp_equiv nat_list_cmp_total in
        let one : eq_by_cmp (slice_cmp nat_cmp) k w.items ≡ same_text v.items k = alike.symm k w.items ∙ sym (alike.congr v.items w.items k (ap is_eq e)) ∙ alike.symm v.items k ∙ same_order k v.items in
        ap (λ b. b || among ks k) one ∙ twice (same_text v.items k) (among ks k) ∙ ap (λ b. same_text v.items k || (b || among ks k)) (sym one)
    by Greater e rest = ap (λ b. eq_by_cmp (slice_cmp nat_cmp) k w.items || b) rest ∙ swapped (eq_by_cmp (slice_cmp nat_cmp) k w.items) (same_text v.items k) (among ks k)

-- a key that was put in is there, and the others stay
pub one_kept : (old new : BTreeSet (Vec ℕ)) (v : Vec ℕ) → new.keys ≡ insert_key order old.keys v → (k : List ℕ) → has_key new k ≡ (same_text v.items k || has_key old k)
one_kept old new v e k = ap (λ ks. among ks k) e ∙ one_among v old.keys k

-- ---- two keys

exchanged : (a b c d : Bool) → ((a && b) && (c && d)) ≡ ((a && c) && (b && d))
exchanged true true c d = refl
exchanged true false true d = refl
exchanged true false false d = refl
exchanged false b c d = refl

module _ {T : Type 0} (p q : T → T → Bool) where
  both_all : (x : T) (ys : List T) → list_all (λ y. p x y && q x y) ys ≡ (list_all (p x) ys && list_all (q x) ys)
  both_all x [] = refl
  both_all x (y ∷ ys) = ap (λ b. (p x y && q x y) && b) (both_all x ys) ∙ exchanged (p x y) (q x y) (list_all (p x) ys) (list_all (q x) ys)

  -- they differ by both where they differ by each
  both_differ : (xs : List T) → all_differ (λ x y. p x y && q x y) xs ≡ (all_differ p xs && all_differ q xs)
  both_differ [] = refl
  both_differ (x ∷ xs) =
      ap (λ b. b && all_differ (λ x y. p x y && q x y) xs) (both_all x xs)
      ∙ ap (λ b. (list_all (p x) xs && list_all (q x) xs) && b) (both_differ xs)
      ∙ exchanged (list_all (p x) xs) (list_all (q x) xs) (all_differ p xs) (all_differ q xs)

  module _ (xs : List T) (first : Bool) (e : first ≡ all_differ p xs) where
    both_by : all_differ (λ x y. p x y && q x y) xs ≡ (first && all_differ q xs)
    both_by = both_differ xs ∙ ap (λ b. b && all_differ q xs) (sym e)

    -- where they differ by the one, the other decides
    pub second_decides : (second : Bool) → first ≡ true → second ≡ all_differ q xs → second ≡ all_differ (λ x y. p x y && q x y) xs
    second_decides second t f = f ∙ sym (both_by ∙ ap (λ b. b && all_differ q xs) t)

    -- where they don't, that decides
    pub first_decides : first ≡ false → first ≡ all_differ (λ x y. p x y && q x y) xs
    first_decides f = f ∙ sym (both_by ∙ ap (λ b. b && all_differ q xs) f)
