-- What the commands on lists answer: fields joined again, ranges place by place, the first that is found.
use Rattle.std.proofs.Common.{◌≡◌, ◌≢◌, ℕ, zero, suc, ◌+◌, ◌<◌, ◌≤◌, ◌==◌, nat_lt, Bool, true, false, not, cond, if◌then◌else◌, List, [], ◌∷◌, length, take, drop, Option, Some, None, Result, Ok, refl, sym, ap, ◌∙◌, arith}
use Rattle.std.specs.Prelude.{map, ◌+ℤ◌, pos}
use Rattle.std.specs.List.{slice_get, list_any, position_or_len}
use Rattle.std.proofs.lemmas.Option.{slice_get_within}
use Rattle.std.proofs.lemmas.Bool.{eqb-true}
use Rattle.std.proofs.lemmas.Bool.Decides.{nat_tests}
use Rattle.std.proofs.lemmas.Cmp.{nat_list_eq_equiv}
use Rattle.std.specs.Cmp.Lexicographic as texts
use Rattle.tks_text.specs.Text.{same_text}
use Rattle.tks_list.specs.Quoting.{joined}
use Rattle.tks_list.proofs.Joined.{joined_splits}
use Rattle.tks_list.proofs.Told.{splits_one}
use Rattle.tks_tcl.specs.Cause.{Cause, after}
use Rattle.tks_tcl.specs.Words.{list_read, list_in}
use Rattle.tks_tcl.specs.Index.{Index, place, before, range}
use Rattle.tks_tcl.specs.Lists.{separated, joined_by, is_among, fields, with_first, split_at}
use Rattle.tks_tcl.specs.Laws.{JoinsBack, member_of_range, IsFirst, FindsFirst, MissesNone}

-- ---- fields

-- texts behind a character, each with that before it
behind : (c : ℕ) (f : List ℕ) (fs : List (List ℕ)) → separated (c ∷ []) (f ∷ fs) ≡ c ∷ joined_by (c ∷ []) (f ∷ fs)
behind c f fs = refl

joined_with_first : (c d : ℕ) (fs : List (List ℕ)) → joined_by (c ∷ []) (with_first d fs) ≡ d ∷ joined_by (c ∷ []) fs
joined_with_first c d [] = refl
joined_with_first c d (f ∷ fs) = refl

module _ (c : ℕ) where
  -- there is always a field
  abbrev first_of : List (List ℕ) → Type 0
  first_of fs = (f : List ℕ) × ((rest : List (List ℕ)) × (fs ≡ f ∷ rest))

  some_with : (d : ℕ) (fs : List (List ℕ)) → first_of (with_first d fs)
  some_with d [] = (_, (_, refl))
  some_with d (f ∷ fs) = (_, (_, refl))

  some_field_by : (d : ℕ) (t : List ℕ) (b : Bool) → is_among (c ∷ []) d ≡ b → first_of (fields (c ∷ []) (d ∷ t))
  some_field_by d t true e = ([], (fields (c ∷ []) t, ap (λ b. if b then [] ∷ fields (c ∷ []) t else with_first d (fields (c ∷ []) t)) e))
  some_field_by d t false e =
      let some = some_with d (fields (c ∷ []) t) in
      (some.0, (some.1.0, ap (λ b. if b then [] ∷ fields (c ∷ []) t else with_first d (fields (c ∷ []) t)) e ∙ some.1.1))

  some_field : (t : List ℕ) → first_of (fields (c ∷ []) t)
  some_field [] = ([], ([], refl))
  some_field (d ∷ t) = some_field_by d t (is_among (c ∷ []) d) refl

  is_it : (d : ℕ) → is_among (c ∷ []) d ≡ true → c ≡ d
  is_it d e = eqb-true c d (either (c == d) e)
    where
      either : (b : Bool) → list_any (λ (x : Bool). x) (b ∷ []) ≡ true → b ≡ true
      either true e = refl
      either false e = absurd cc

  fields_step : (d : ℕ) (t : List ℕ) (b : Bool) → is_among (c ∷ []) d ≡ b → joined_by (c ∷ []) (fields (c ∷ []) t) ≡ t → joined_by (c ∷ []) (fields (c ∷ []) (d ∷ t)) ≡ d ∷ t
  fields_step d t true e h =
      let some = some_field t in
      ap (λ b. joined_by (c ∷ []) (if b then [] ∷ fields (c ∷ []) t else with_first d (fields (c ∷ []) t))) e
      ∙ ap (separated (c ∷ [])) some.1.1
      ∙ ap (λ (fs : List (List ℕ)). c ∷ joined_by (c ∷ []) fs) (sym some.1.1)
      ∙ ap (λ (x : List ℕ). c ∷ x) h ∙ ap (λ (x : ℕ). x ∷ t) (is_it d e)
  fields_step d t false e h =
      ap (λ b. joined_by (c ∷ []) (if b then [] ∷ fields (c ∷ []) t else with_first d (fields (c ∷ []) t))) e
      ∙ joined_with_first c d (fields (c ∷ []) t) ∙ ap (λ (x : List ℕ). d ∷ x) h

  fields_joined : (t : List ℕ) → joined_by (c ∷ []) (fields (c ∷ []) t) ≡ t
  fields_joined [] = refl
  fields_joined (d ∷ t) = fields_step d t (is_among (c ∷ []) d) refl (fields_joined t)

  split_joined : (t : List ℕ) → joined_by (c ∷ []) (split_at (c ∷ []) t) ≡ t
  split_joined [] = refl
  split_joined (d ∷ t) = fields_joined (d ∷ t)

each_behind : (t : List ℕ) → separated [] (map (λ c. c ∷ []) t) ≡ t
each_behind [] = refl
each_behind (c ∷ t) = ap (λ (x : List ℕ). c ∷ x) (each_behind t)

each_joined : (t : List ℕ) → joined_by [] (split_at [] t) ≡ t
each_joined [] = refl
each_joined (c ∷ t) = ap (λ (x : List ℕ). c ∷ x) (each_behind t)

-- a list that was joined is read
list_again : (l : List (List ℕ)) → list_in (joined l) ≡ Ok l
list_again l = ap list_read ((splits_one (joined l) l).0 (joined_splits l))

pub character_back : (c : ℕ) → JoinsBack (c ∷ [])
character_back c split join t =
    ap (λ (r : Result (List (List ℕ)) Cause). after r (λ l. Ok (joined_by (c ∷ []) l))) (list_again (split_at (c ∷ []) t))
    ∙ ap Ok (split_joined c t)

pub each_back : JoinsBack []
each_back split join t =
    ap (λ (r : Result (List (List ℕ)) Cause). after r (λ l. Ok (joined_by [] l))) (list_again (split_at [] t))
    ∙ ap Ok (each_joined t)

-- ---- ranges

none_below : (k : ℕ) → nat_lt k 0 ≡ false
none_below k = grind (arith, nat_tests)

first_below : (m : ℕ) → nat_lt 0 (suc m) ≡ true
first_below m = grind (arith, nat_tests)

next_below : (k m : ℕ) → nat_lt (suc k) (suc m) ≡ nat_lt k m
next_below k m = by (nat_lt k m) refl
  where
    by : (b : Bool) → nat_lt k m ≡ b → nat_lt (suc k) (suc m) ≡ nat_lt k m
    by true e = grind (arith, nat_tests)
    by false e = grind (arith, nat_tests)

module _ {A : Type 0} where
  behind_places : (l : List A) (n k : ℕ) → slice_get (drop n l) k ≡ slice_get l (n + k)
  behind_places l zero k = ap (slice_get l) none_more
    where
      none_more : k ≡ 0 + k
      none_more = omega arith
  behind_places [] (suc n) k = refl
  behind_places (x ∷ l) (suc n) k = behind_places l n k ∙ sym (ap (slice_get (x ∷ l)) one_more)
    where
      one_more : suc n + k ≡ suc (n + k)
      one_more = omega arith

  before_places : (l : List A) (m k : ℕ) → slice_get (take m l) k ≡ (if nat_lt k m then slice_get l k else None)
  before_places l zero k = sym (ap (λ b. if b then slice_get l k else None) (none_below k))
  before_places [] (suc m) k = nothing (nat_lt k (suc m))
    where
      nothing : (b : Bool) → ◌≡◌ {A = Option A} None (if b then None else None)
      nothing true = refl
      nothing false = refl
  before_places (x ∷ l) (suc m) zero = sym (ap (λ b. if b then Some x else None) (first_below m))
  before_places (x ∷ l) (suc m) (suc k) = before_places l m k ∙ sym (ap (λ b. if b then slice_get l k else None) (next_below k m))

pub by_place : (first last : Index) (l : List (List ℕ)) (k : ℕ) → slice_get (range first last l) k ≡ member_of_range first last l k
by_place first last l k =
    behind_places (take (before (place last (length l) +ℤ pos 1)) l) (before (place first (length l))) k
    ∙ before_places l (before (place last (length l) +ℤ pos 1)) (before (place first (length l)) + k)

-- ---- the first that is found

module _ (value : List ℕ) where
  abbrev is_it_not : List ℕ → Bool
  is_it_not e = not (same_text e value)

  -- how many members stand before the first that is the value
  abbrev front : List (List ℕ) → ℕ
  front l = position_or_len (λ e. same_text e value) l

  told : (e : List ℕ) → same_text e value ≡ true → e ≡ value
  told e is = texts.same_text e value (sym is)

  tells : (e : List ℕ) → e ≡ value → same_text e value ≡ true
  tells e is = ap (λ (x : List ℕ). same_text x value) is ∙ nat_list_eq_equiv.refl value

  here : (e : List ℕ) (l : List (List ℕ)) → same_text e value ≡ true → front (e ∷ l) ≡ 0
  here e l is = ap (λ b. cond (not b) (1 + front l) 0) is

  later : (e : List ℕ) (l : List (List ℕ)) → same_text e value ≡ false → front (e ∷ l) ≡ suc (front l)
  later e l isnt = ap (λ b. cond (not b) (1 + front l) 0) isnt ∙ omega arith

  -- none of those before it is the value
  before_step : (x : List ℕ) (l : List (List ℕ)) (b : Bool) → same_text x value ≡ b → ((k : ℕ) → k < front l → slice_get l k ≢ Some value)
      → (k : ℕ) → k < front (x ∷ l) → slice_get (x ∷ l) k ≢ Some value
  before_step x l true is h k lt e = absurd (nothing (here x l is))
    where
      nothing : front (x ∷ l) ≡ 0 → ⊥
      nothing none = omega (arith, lt)
  before_step x l false isnt h zero lt e =
      let same : x ≡ value = cc in
      let told : same_text x value ≡ true = tells x same in
      cc
  before_step x l false isnt h (suc k) lt e =
      let at : front (x ∷ l) ≡ suc (front l) = later x l isnt in
      h k (omega (arith, lt, at)) e

  none_before : (l : List (List ℕ)) (k : ℕ) → k < front l → slice_get l k ≢ Some value
  none_before [] k lt e = absurd (omega arith)
  none_before (x ∷ l) k lt e = before_step x l (same_text x value) refl (none_before l) k lt e

  -- the one at it is
  there_step : (x : List ℕ) (l : List (List ℕ)) (b : Bool) → same_text x value ≡ b → (front l < length l → slice_get l (front l) ≡ Some value)
      → front (x ∷ l) < length (x ∷ l) → slice_get (x ∷ l) (front (x ∷ l)) ≡ Some value
  there_step x l true is h lt = ap (slice_get (x ∷ l)) (here x l is) ∙ ap Some (told x is)
  there_step x l false isnt h lt =
      let at : front (x ∷ l) ≡ suc (front l) = later x l isnt in
      ap (slice_get (x ∷ l)) at ∙ h (omega (arith, lt, at))

  is_there : (l : List (List ℕ)) → front l < length l → slice_get l (front l) ≡ Some value
  is_there [] lt = absurd (omega arith)
  is_there (x ∷ l) lt = there_step x l (same_text x value) refl (is_there l) lt

  -- where it is among members it is found
  reached : (l : List (List ℕ)) (n : ℕ) → slice_get l n ≡ Some value → front l ≤ n
  reached l n is = by (nat_lt n (front l)) refl
    where
      by : (b : Bool) → nat_lt n (front l) ≡ b → front l ≤ n
      by true e = absurd (none_before l n (grind (arith, nat_tests)) is)
      by false e = grind (arith, nat_tests)

  found_by : (l : List (List ℕ)) (n : ℕ) (b : Bool) → nat_lt (front l) (length l) ≡ b → cond b (Some (front l)) None ≡ Some n → IsFirst value l n
  found_by l n true lt e =
      let at : front l ≡ n = cc in
      record {
        is = ap (slice_get l) (sym at) ∙ is_there l (grind (arith, nat_tests));
        first = λ k below. none_before l k (omega (arith, below, at));
      }
  found_by l n false lt e = absurd cc

  finds_by : (l : List (List ℕ)) (n : ℕ) (b : Bool) → nat_lt (front l) (length l) ≡ b → IsFirst value l n → cond b (Some (front l)) None ≡ Some n
  finds_by l n true lt h =
      let upto : front l ≤ n = reached l n h.is in
      let not_before : n ≤ front l = no_sooner l n lt h in
      ap Some (omega (arith, upto, not_before))
    where
      no_sooner : (l : List (List ℕ)) (n : ℕ) → nat_lt (front l) (length l) ≡ true → IsFirst value l n → n ≤ front l
      no_sooner l n lt h = by (nat_lt (front l) n) refl
        where
          by : (b : Bool) → nat_lt (front l) n ≡ b → n ≤ front l
          by true e = absurd (h.first (front l) (grind (arith, nat_tests)) (is_there l (grind (arith, nat_tests))))
          by false e = grind (arith, nat_tests)
  finds_by l n false lt h =
      let upto : front l ≤ n = reached l n h.is in
      let within : n < length l = slice_get_within l n value h.is in
      let past : length l ≤ front l = grind (arith, nat_tests) in
      absurd (omega (arith, upto, within, past))

  missed_by : (l : List (List ℕ)) (b : Bool) → nat_lt (front l) (length l) ≡ b → cond b (Some (front l)) None ≡ None → (k : ℕ) → slice_get l k ≢ Some value
  missed_by l true lt e k is = absurd cc
  missed_by l false lt e k is =
      let upto : front l ≤ k = reached l k is in
      let within : k < length l = slice_get_within l k value is in
      let past : length l ≤ front l = grind (arith, nat_tests) in
      omega (arith, upto, within, past)

  misses_by : (l : List (List ℕ)) (b : Bool) → nat_lt (front l) (length l) ≡ b → ((k : ℕ) → slice_get l k ≢ Some value) → cond b (Some (front l)) None ≡ None
  misses_by l true lt none = absurd (none (front l) (is_there l (grind (arith, nat_tests))))
  misses_by l false lt none = refl

pub finds_first : (value : List ℕ) (l : List (List ℕ)) → FindsFirst value l
finds_first value l n = (found_by value l n _ refl, finds_by value l n _ refl)

pub misses_none : (value : List ℕ) (l : List (List ℕ)) → MissesNone value l
misses_none value l = (missed_by value l _ refl, misses_by value l _ refl)
