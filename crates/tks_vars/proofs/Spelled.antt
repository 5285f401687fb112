-- How the name of an element is spelled.
use Rattle.std.proofs.Common.{◌≡◌, ◌≢◌, ℕ, suc, ◌+◌, ◌-◌, ◌<◌, ◌==◌, Bool, true, false, not, cond, nat_lt, if◌then◌else◌, List, [], ◌∷◌, ◌++◌, length, take, drop, Option, Some, None, option_map, refl, sym, subst, ap, ◌∙◌, arith}
use Rattle.std.specs.List.{list_all, position, position_or_len}
use Rattle.std.specs.Cmp.Lexicographic as texts
use Rattle.std.proofs.lemmas.List.{take-append-drop, take-append-le, drop-append-le, length-append}
use Rattle.std.proofs.lemmas.List.Folds.{position_or_len_push}
use Rattle.std.proofs.lemmas.List.Quantifiers.{position-Some}
use Rattle.std.proofs.Math.Seq.{take-append_seam, drop-append_seam, drop-append-add}
use Rattle.std.proofs.lemmas.Bool.{eqb-true, and_parts, and_from}
use Rattle.std.proofs.lemmas.Bool.Decides.{nat_tests}
use Rattle.tks_text.specs.Text.{same_text}
use Rattle.tks_vars.specs.Names.{Name, halves, closed, whole, element, element_named, named_behind, named_in, named}
use Rattle.tks_vars.specs.Laws.{NamesElement}

-- the place of the first `(`, or the length
abbrev open_at : List ℕ → ℕ
open_at t = position_or_len (λ b. b == 40) t

abbrev has_none : List ℕ → Bool
has_none t = list_all (λ b. not (b == 40)) t

-- one more byte in front of the place
front_at : (c : ℕ) (t : List ℕ) (k n : ℕ) → n ≡ suc k → take n (c ∷ t) ≡ c ∷ take k t
front_at c t k n e = ap (λ i. take i (c ∷ t)) e

behind_at : (c : ℕ) (t : List ℕ) (k n : ℕ) → n ≡ suc k → drop n (c ∷ t) ≡ drop k t
behind_at c t k n e = ap (λ i. drop i (c ∷ t)) e

-- the place, by whether the first byte is one
at_first : (c : ℕ) (t : List ℕ) → (c == 40) ≡ true → open_at (c ∷ t) ≡ 0
at_first c t e = ap (λ b. cond (not b) (1 + open_at t) 0) e

at_later : (c : ℕ) (t : List ℕ) → (c == 40) ≡ false → open_at (c ∷ t) ≡ suc (open_at t)
at_later c t e = ap (λ b. cond (not b) (1 + open_at t) 0) e ∙ omega arith

front_step : (c : ℕ) (t : List ℕ) (b : Bool) → (c == 40) ≡ b → has_none (take (open_at t) t) ≡ true → has_none (take (open_at (c ∷ t)) (c ∷ t)) ≡ true
front_step c t true e h = ap (λ n. has_none (take n (c ∷ t))) (at_first c t e)
front_step c t false e h =
    ap has_none (front_at c t (open_at t) (open_at (c ∷ t)) (at_later c t e))
    ∙ and_from (not (c == 40)) (has_none (take (open_at t) t)) (ap not e) h

front_has_none : (t : List ℕ) → has_none (take (open_at t) t) ≡ true
front_has_none [] = refl
front_has_none (c ∷ t) = front_step c t (c == 40) refl (front_has_none t)

parted_step : (c : ℕ) (t : List ℕ) (b : Bool) → (c == 40) ≡ b → open_at (c ∷ t) < length (c ∷ t) → (open_at t < length t → t ≡ take (open_at t) t ++ (40 ∷ drop (open_at t + 1) t))
    → c ∷ t ≡ take (open_at (c ∷ t)) (c ∷ t) ++ (40 ∷ drop (open_at (c ∷ t) + 1) (c ∷ t))
parted_step c t true e lt h =
    let is : c ≡ 40 = eqb-true c 40 e in
    let at : open_at (c ∷ t) ≡ 0 = at_first c t e in
    ap (λ x. x ∷ t) is ∙ sym (ap (λ n. take n (c ∷ t) ++ (40 ∷ drop (n + 1) (c ∷ t))) at)
parted_step c t false e lt h =
    let at : open_at (c ∷ t) ≡ suc (open_at t) = at_later c t e in
    let within : open_at t < length t = omega (arith, at, lt) in
    let next : open_at (c ∷ t) + 1 ≡ suc (open_at t + 1) = omega (arith, at) in
    ap (λ u. c ∷ u) (h within)
    ∙ sym (ap (λ u. u ++ (40 ∷ drop (open_at (c ∷ t) + 1) (c ∷ t))) (front_at c t (open_at t) (open_at (c ∷ t)) at)
    ∙ ap (λ u. (c ∷ take (open_at t) t) ++ (40 ∷ u)) (behind_at c t (open_at t + 1) (open_at (c ∷ t) + 1) next))

parted : (t : List ℕ) → open_at t < length t → t ≡ take (open_at t) t ++ (40 ∷ drop (open_at t + 1) t)
parted [] lt = absurd (omega arith)
parted (c ∷ t) lt = parted_step c t (c == 40) refl lt (parted t)

-- the place is behind bytes of which none is one
placed_step : (c : ℕ) (v rest : List ℕ) → (not (c == 40) ≡ true) → open_at (v ++ (40 ∷ rest)) ≡ length v → open_at (c ∷ (v ++ (40 ∷ rest))) ≡ suc (length v)
placed_step c v rest other h = at_later c (v ++ (40 ∷ rest)) (turned (c == 40) other) ∙ ap suc h
  where
    turned : (b : Bool) → not b ≡ true → b ≡ false
    turned true e = absurd cc
    turned false e = refl

placed : (v rest : List ℕ) → has_none v ≡ true → open_at (v ++ (40 ∷ rest)) ≡ length v
placed [] rest h = refl
placed (c ∷ v) rest h =
    let both = and_parts (not (c == 40)) (has_none v) h in
    placed_step c v rest both.0 (placed v rest both.1)

-- ---- the end

unclosed : (r i : List ℕ) (b : Bool) → same_text (drop (length r - 1) r) (41 ∷ []) ≡ b → closed r ≡ Some i → r ≡ i ++ (41 ∷ [])
unclosed r i true e is =
    let index : Some (take (length r - 1) r) ≡ Some i = sym (ap (λ b. if b then Some (take (length r - 1) r) else None) e) ∙ is in
    let same : drop (length r - 1) r ≡ 41 ∷ [] = texts.same_text _ _ (sym e) in
    let front : take (length r - 1) r ≡ i = cc in
    sym (take-append-drop (length r - 1) r) ∙ ap (λ u. u ++ drop (length r - 1) r) front ∙ ap (λ u. i ++ u) same
unclosed r i false e is = absurd (none (sym (ap (λ b. if b then Some (take (length r - 1) r) else None) e) ∙ is))
  where
    none : ◌≡◌ {A = Option (List ℕ)} None (Some i) → ⊥
    none e = cc

closing : (i : List ℕ) → closed (i ++ (41 ∷ [])) ≡ Some i
closing i =
    let length_is : length (i ++ (41 ∷ [])) - 1 ≡ length i = omega (arith, length-append i (41 ∷ [])) in
    ap (λ n. if same_text (drop n (i ++ (41 ∷ []))) (41 ∷ []) then Some (take n (i ++ (41 ∷ []))) else None) length_is
    ∙ ap (λ u. if same_text u (41 ∷ []) then Some (take (length i) (i ++ (41 ∷ []))) else None) (drop-append_seam i (41 ∷ []))
    ∙ ap Some (take-append_seam i (41 ∷ []))

-- ---- a text that ends with `)`, by what stands before that

abbrev opens : ℕ → Bool
opens b = b == 40

same_place : (f : List ℕ) → position opens (f ++ (41 ∷ [])) ≡ position opens f
same_place f = grind (arith, nat_tests, position_or_len_push opens f 41, length-append f (41 ∷ []))

-- what its parts before the `)` make of it
abbrev pub named_parts : List ℕ → Option (List ℕ × List ℕ) → Option Name
named_parts t None = Some (whole t)
named_parts t (Some parts) = element_named parts.0 parts.1

named_before : (f : List ℕ) → named (f ++ (41 ∷ [])) ≡ named_parts (f ++ (41 ∷ [])) (halves f)
named_before f = ap (λ (o : Option ℕ). named_in t (option_map (λ k. (take k t, drop (k + 1) t)) o)) (same_place f) ∙ by (position opens f) refl
  where
    t : List ℕ
    t = f ++ (41 ∷ [])

    by : (o : Option ℕ) → position opens f ≡ o → named_in t (option_map (λ k. (take k t, drop (k + 1) t)) o) ≡ named_parts t (option_map (λ k. (take k f, drop (k + 1) f)) o)
    by None e = refl
    by (Some k) e =
        let lt : k < length f = (position-Some opens f k 0 e).0 in
        ap (λ u. named_behind t u (closed (drop (k + 1) t))) (take-append-le k f (41 ∷ []) (omega (arith, lt)))
        ∙ ap (λ u. named_behind t (take k f) (closed u)) (drop-append-le (k + 1) f (41 ∷ []) (omega (arith, lt)))
        ∙ ap (named_behind t (take k f)) (closing (drop (k + 1) f))

pub named_closed : (t f : List ℕ) → closed t ≡ Some f → named t ≡ named_parts t (halves f)
named_closed t f e = subst (λ t. named t ≡ named_parts t (halves f)) (sym (unclosed t f _ refl e)) (named_before f)

-- ---- from a name to its spelling

abbrev index_of : Option Name → Option (List ℕ)
index_of None = None
index_of (Some n) = n.index

-- a whole variable is no element
not_whole : (t v i : List ℕ) → Some (whole t) ≡ Some (element v i) → ⊥
not_whole t v i e =
    let none : ◌≡◌ {A = Option (List ℕ)} None (Some i) = ap index_of e in
    cc

by_variable : (t v i front r : List ℕ) (o : Option (List ℕ)) → closed r ≡ o → t ≡ front ++ (40 ∷ r) → has_none front ≡ true → named_behind t front o ≡ Some (element v i) → NamesElement t v i
by_variable t v i front r None is parts none e = absurd (not_whole t v i e)
by_variable t v i [] r (Some j) is parts none e = absurd cc
by_variable t v i (c ∷ front) r (Some j) is parts none e =
    let same : element (c ∷ front) j ≡ element v i = cc in
    let variable : c ∷ front ≡ v = ap (λ (n : Name). n.variable) same in
    let found : Some j ≡ Some i = ap (λ (n : Name). n.index) same in
    let index : j ≡ i = cc in
    let end : r ≡ i ++ (41 ∷ []) = unclosed r i _ refl (is ∙ ap Some index) in
    record {
      spelled = parts ∙ ap (λ u. u ++ (40 ∷ r)) variable ∙ ap (λ u. v ++ (40 ∷ u)) end;
      some = λ empty. not_empty c front (variable ∙ empty);
      first = sym (ap has_none variable) ∙ none;
    }
  where
    not_empty : (c : ℕ) (front : List ℕ) → c ∷ front ≡ [] → ⊥
    not_empty c front e = cc

by_place : (t v i : List ℕ) (b : Bool) → nat_lt (open_at t) (length t) ≡ b
    → named_in t (option_map (λ k. (take k t, drop (k + 1) t)) (cond b (Some (open_at t)) None)) ≡ Some (element v i) → NamesElement t v i
by_place t v i true lt e = by_variable t v i (take (open_at t) t) (drop (open_at t + 1) t) (closed (drop (open_at t + 1) t)) refl (parted t (below lt)) (front_has_none t) e
  where
    below : nat_lt (open_at t) (length t) ≡ true → open_at t < length t
    below lt = grind (arith, nat_tests)
by_place t v i false lt e = absurd (not_whole t v i e)

pub spelled : (t v i : List ℕ) → named t ≡ Some (element v i) → NamesElement t v i
spelled t v i e = by_place t v i (nat_lt (open_at t) (length t)) refl e

-- ---- and back

named_by : (t v i : List ℕ) → v ≢ [] → element_named v i ≡ Some (element v i)
named_by t [] i some = absurd (some refl)
named_by t (c ∷ v) i some = refl

place_is : (v r : List ℕ) → has_none v ≡ true → position (λ b. b == 40) (v ++ (40 ∷ r)) ≡ Some (length v)
place_is v r none =
    let at : open_at (v ++ (40 ∷ r)) ≡ length v = placed v r none in
    let within : nat_lt (length v) (length (v ++ (40 ∷ r))) ≡ true = grind (arith, nat_tests, length-append v (40 ∷ r)) in
    ap (λ n. cond (nat_lt n (length (v ++ (40 ∷ r)))) (Some n) None) at ∙ ap (λ b. cond b (Some (length v)) None) within

named_so : (v i : List ℕ) → v ≢ [] → has_none v ≡ true → named (v ++ (40 ∷ (i ++ (41 ∷ [])))) ≡ Some (element v i)
named_so v i some none =
    let t = v ++ (40 ∷ (i ++ (41 ∷ []))) in
    ap (λ (o : Option ℕ). named_in t (option_map (λ k. (take k t, drop (k + 1) t)) o)) (place_is v (i ++ (41 ∷ [])) none)
    ∙ ap (λ u. named_behind t u (closed (drop (length v + 1) t))) (take-append_seam v (40 ∷ (i ++ (41 ∷ []))))
    ∙ ap (λ u. named_behind t v (closed u)) (drop-append-add v (40 ∷ (i ++ (41 ∷ []))) 1)
    ∙ ap (named_behind t v) (closing i)
    ∙ named_by t v i some

pub spells : (t v i : List ℕ) → NamesElement t v i → named t ≡ Some (element v i)
spells t v i h = ap named h.spelled ∙ named_so v i h.some h.first
