-- In the order of their bytes, the paths of those that stand in a window come right behind its own.
use Rattle.std.specs.Prelude.{◌⊎◌, ◌==◌, nat_le}
use Rattle.std.specs.List.{AllByRecursion, list_all, slice_split, onto_first}
use Rattle.std.specs.Ordering.{ordering_then, nat_cmp}
use Rattle.std.specs.Cmp.{ranked, nat_cmp_is}
use Rattle.std.specs.Cmp.Lexicographic.{bytes_decides}
use Rattle.std.proofs.Common.{◌≡◌, ℕ, ◌≤◌, Bool, true, false, cond, ◌||◌, ◌&&◌, List, [], ◌∷◌, Ordering, Less, Equal, Greater, refl, sym, ap, subst, ◌∙◌, true≢false, arith, inl, inr}
use Rattle.std.proofs.lemmas.Bool.{eqb-true, eq-eqb}
use Rattle.std.proofs.lemmas.Bool.Decides.{nat_tests}
use Rattle.tks_share.specs.Names.{order}
use Rattle.tks_text.specs.Text.{same_text}
use Rattle.tks_tree.specs.Path.{is_name_byte, is_name, is_dot, root_path, are_names_behind_dot, is_path, goes_on}
use Rattle.tks_tree.proofs.Trees.{both, first_true, second_true}

-- ---- the bytes of paths

-- each byte is a dot, or comes behind one
abbrev pub FromDot : List ℕ → Type 0
FromDot path = AllByRecursion (λ c. 46 ≤ c) path

name_byte : (c : ℕ) → is_name_byte c ≡ true → 46 ≤ c
name_byte c h = by (nat_le 46 c) refl
  where
    by : (b : Bool) → nat_le 46 c ≡ b → 46 ≤ c
    by true e = grind (arith, nat_tests)
    by false e =
        let upper : nat_le 65 c ≡ false = grind (arith, nat_tests) in
        let lower : nat_le 97 c ≡ false = grind (arith, nat_tests) in
        let digit : nat_le 48 c ≡ false = grind (arith, nat_tests) in
        let line : (c == 95) ≡ false = grind (arith, nat_tests) in
        absurd (true≢false (sym (rw (upper, lower, digit, line) at h)))

name_bytes : (name : List ℕ) → list_all is_name_byte name ≡ true → FromDot name
name_bytes [] h = tt
name_bytes (c ∷ name) h = (name_byte c (first_true (is_name_byte c) _ h), name_bytes name (second_true (is_name_byte c) _ h))

all_names : (names : List (List ℕ)) → list_all is_name names ≡ true → AllByRecursion FromDot names
all_names [] h = tt
all_names (name ∷ names) h =
    (name_bytes name (second_true _ _ (first_true _ _ (first_true (is_name name) _ h))), all_names names (second_true (is_name name) _ h))

-- what is cut at dots
cut : (names : List ℕ) → AllByRecursion FromDot (slice_split is_dot names) → FromDot names
cut [] h = tt
cut (c ∷ names) h = by (is_dot c) refl h (cut names)
  where
    onto : (parts : List (List ℕ)) → AllByRecursion FromDot (onto_first c parts) → (46 ≤ c) × AllByRecursion FromDot parts
    onto [] h = (h.0.0, tt)
    onto (part ∷ parts) h = (h.0.0, (h.0.1, h.1))

    by : (b : Bool) → is_dot c ≡ b → AllByRecursion FromDot (cond b ([] ∷ slice_split is_dot names) (onto_first c (slice_split is_dot names))) → (AllByRecursion FromDot (slice_split is_dot names) → FromDot names) → FromDot (c ∷ names)
    by true e h rest = (omega (arith, eqb-true c 46 e), rest h.1)
    by false e h rest = let two = onto (slice_split is_dot names) h in (two.0, rest two.1)

pub path_bytes : (path : List ℕ) → is_path path ≡ true → FromDot path
path_bytes path h = by (same_text path root_path) refl h
  where
    behind_dot : (path : List ℕ) → are_names_behind_dot path ≡ true → FromDot path
    behind_dot [] h = tt
    behind_dot (c ∷ names) h = (omega (arith, eqb-true c 46 (first_true (is_dot c) _ h)), cut names (all_names (slice_split is_dot names) (second_true (is_dot c) _ h)))

    by : (b : Bool) → same_text path root_path ≡ b → (b || are_names_behind_dot path) ≡ true → FromDot path
    by true e h = subst FromDot (sym ((bytes_decides path root_path).0 e)) (omega arith, tt)
    by false e h = behind_dot path h

-- ---- their order

-- of two texts in order, the first byte of the second is no lesser
upto : (c d : ℕ) (o : Ordering) → ordering_then (nat_cmp c d) o ≡ Less → c ≤ d
upto c d o h = by (nat_cmp c d) refl h
  where
    by : (r : Ordering) → nat_cmp c d ≡ r → ordering_then r o ≡ Less → c ≤ d
    by Less e h = omega (arith, ranked c d Less (sym e))
    by Equal e h = omega (arith, ranked c d Equal (sym e))
    by Greater e h = cc

-- where these are the same, the others decide
same_first : (c d : ℕ) (o : Ordering) → c ≡ d → ordering_then (nat_cmp c d) o ≡ o
same_first c d o e = ap (λ r. ordering_then r o) (sym (nat_cmp_is c d Equal e))

-- what goes on from a path comes behind it
pub goes_behind : (p v : List ℕ) → goes_on p v ≡ true → order p v ≡ Less
goes_behind [] [] h = absurd (true≢false (sym h))
goes_behind [] (c ∷ v) h = refl
goes_behind (b ∷ p) [] h = absurd (true≢false (sym h))
goes_behind (b ∷ p) (c ∷ v) h = same_first b c (order p v) (sym (eqb-true c b (first_true (c == b) _ h))) ∙ goes_behind p v (second_true (c == b) _ h)

-- a path other than `.` comes behind it
pub root_first : (v : List ℕ) → is_path v ≡ true → same_text v root_path ≡ false → order root_path v ≡ Less
root_first [] h other = absurd (true≢false (sym h))
root_first (c ∷ []) h other = let names : (is_dot c && false) ≡ true = subst (λ b. (b || (is_dot c && false)) ≡ true) other h in absurd (true≢false (sym (second_true (is_dot c) false names)))
root_first (c ∷ d ∷ v) h other =
    let names : are_names_behind_dot (c ∷ d ∷ v) ≡ true = subst (λ b. (b || are_names_behind_dot (c ∷ d ∷ v)) ≡ true) other h in
    same_first 46 c Less (sym (eqb-true c 46 (first_true (is_dot c) _ names)))

-- what comes between a path and one that goes on from it goes on from it too
pub between : (p e v : List ℕ) → FromDot e → order p e ≡ Less → (order e v ≡ Less) ⊎ (e ≡ v) → goes_on p v ≡ true → goes_on p e ≡ true
between [] [] v from above below h = cc
between [] (c ∷ e) [] from above below h = absurd (true≢false (sym h))
between [] (c ∷ e) (d ∷ v) from above below h =
    let dot = eqb-true d 46 h in
    eq-eqb c 46 (by below)
  where
    by : (order (c ∷ e) (d ∷ v) ≡ Less) ⊎ (c ∷ e ≡ d ∷ v) → c ≡ 46
    by (inl l) = omega (arith, from.0, upto c d (order e v) l, eqb-true d 46 h)
    by (inr same) = let first : c ≡ d = cc in first ∙ eqb-true d 46 h
between (b ∷ p) [] v from above below h = cc
between (b ∷ p) (c ∷ e) [] from above below h = absurd (true≢false (sym h))
between (b ∷ p) (c ∷ e) (d ∷ v) from above below h =
    let at = by below in
    let same : b ≡ c = omega (arith, upto b c (order p e) above, at.0, eqb-true d b (first_true (d == b) _ h)) in
    both (c == b) (goes_on p e) (eq-eqb c b (sym same)) (between p e v from.1 (sym (same_first b c (order p e) same) ∙ above) (rest at) (second_true (d == b) _ h))
  where
    by : (order (c ∷ e) (d ∷ v) ≡ Less) ⊎ (c ∷ e ≡ d ∷ v) → (c ≤ d) × ((order (c ∷ e) (d ∷ v) ≡ Less) ⊎ (c ∷ e ≡ d ∷ v))
    by (inl l) = (upto c d (order e v) l, inl l)
    by (inr same) = let first : c ≡ d = cc in (omega (arith, first), inr same)

    rest : (c ≤ d) × ((order (c ∷ e) (d ∷ v) ≡ Less) ⊎ (c ∷ e ≡ d ∷ v)) → (order e v ≡ Less) ⊎ (e ≡ v)
    rest at = elim at.1 [
      | inl l ↦ inl (sym (same_first c d (order e v) (omega (arith, at.0, upto b c (order p e) above, eqb-true d b (first_true (d == b) _ h)))) ∙ l)
      | inr same ↦ inr (let tail : e ≡ v = cc in tail)
    ]
