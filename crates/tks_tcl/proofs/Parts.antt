-- Parts of texts and lists: ranges, fields, and texts without white space at their ends.
use Rattle.std.proofs.Common.{◌≡◌, ℕ, suc, pos, ◌+ℤ◌, ◌+◌, ◌<◌, ◌≤◌, Bool, true, false, cond, List, [], ◌∷◌, ◌++◌, append_assoc, length, take, drop, min, refl, sym, ap, ◌∙◌, arith}
use Rattle.std.specs.Prelude.{not, ◌&&◌}
use Rattle.std.specs.List.{list_all, prefix_len}
use Rattle.std.proofs.Math.Seq.{drop-cons}
use Rattle.std.proofs.lemmas.List.{take_all, take_min, length-take, drop_all, drop_min}
use Rattle.std.proofs.lemmas.List.Folds.{list_all-append}
use Rattle.tks_text.specs.Text.{IsText}
use Rattle.tks_text.specs.Integer.{is_space}
use Rattle.tks_text.proofs.Texts.{text_drop, text_take}
use Rattle.tks_tcl.specs.Index.{Index, place, before, range}
use Rattle.tks_tcl.specs.Lists.{without_end, is_among, with_first, fields}

-- ---- ranges

-- places beyond the members that are left are cut
pub drop_cut : {A : Type 0} (n m : ℕ) (l : List A) → m ≡ length l → drop (min n m) l ≡ drop n l
drop_cut n m l e = rw e (drop_min n l)

-- the members from one index to another, by how many stand before them and up to their end
pub range_within : {A : Type 0} (first last : Index) (l : List A) (front behind : ℕ) → front ≡ min (before (place first (length l))) behind → behind ≡ min (before (place last (length l) +ℤ pos 1)) (length l)
    → drop front (take behind l) ≡ range first last l
range_within first last l front behind f b =
    let len : behind ≡ length (take behind l) = omega (arith, length-take behind l, b) in
    ap (λ n. drop n (take behind l)) f ∙ drop_cut (before (place first (length l))) behind (take behind l) len
    ∙ ap (drop (before (place first (length l)))) (ap (λ n. take n l) b ∙ take_min (before (place last (length l) +ℤ pos 1)) l)

-- ---- fields

module _ (separators : List ℕ) where
  -- how many characters stand before the first separator
  abbrev pub field_len : List ℕ → ℕ
  field_len t = prefix_len (λ c. not (is_among separators c)) t

  behind_first : List ℕ → List (List ℕ)
  behind_first [] = []
  behind_first (s ∷ t) = fields separators t

  first_field : (t : List ℕ) → fields separators t ≡ take (field_len t) t ∷ behind_first (drop (field_len t) t)
  unfolding behind_first
  first_field [] = refl
  first_field (c ∷ t) =
      let one : 1 + field_len t ≡ suc (field_len t) = omega arith in
      elim (is_among separators c) as (λ b. cond b ([] ∷ fields separators t) (with_first c (fields separators t)) ≡ take (cond (not b) (1 + field_len t) 0) (c ∷ t) ∷ behind_first (drop (cond (not b) (1 + field_len t) 0) (c ∷ t))) [
        | true ↦ refl
        | false ↦ rw one (ap (with_first c) (first_field t))
      ]

  -- a field that a separator ends stands before the others
  pub field_ends : (list : List (List ℕ)) (t : List ℕ) (n : ℕ) → n ≡ field_len t → n < length t → (list ++ take n t ∷ []) ++ fields separators (drop (n + 1) t) ≡ list ++ fields separators t
  unfolding behind_first
  field_ends list t n e lt =
      let one : n + 1 ≡ suc n = omega arith in
      let first : fields separators t ≡ take n t ∷ fields separators (drop (n + 1) t) = rw (one, e) (first_field t ∙ ap (λ l. take (field_len t) t ∷ behind_first l) (drop-cons t (field_len t) 0 (rw (← e) lt))) in
      append_assoc list (take n t ∷ []) (fields separators (drop (n + 1) t)) ∙ ap (λ l. list ++ l) (sym first)

  -- the last field is what is left
  pub last_field : (list : List (List ℕ)) (t : List ℕ) (n : ℕ) → n ≡ field_len t → length t ≤ n → list ++ t ∷ [] ≡ list ++ fields separators t
  unfolding behind_first
  last_field list t n e h =
      let all : fields separators t ≡ t ∷ [] = first_field t ∙ rw (← e, take_all n t h, drop_all n t h) refl in
      ap (λ l. list ++ l) (sym all)

-- ---- ends

-- white space at the end falls away
pub space_falls : (t : List ℕ) (c : ℕ) → is_space c ≡ true → without_end (t ++ c ∷ []) ≡ without_end t
space_falls [] c e = rw e refl
space_falls (d ∷ t) c e =
    let all : list_all is_space (d ∷ t ++ c ∷ []) ≡ list_all is_space (d ∷ t) = list_all-append is_space (d ∷ t) (c ∷ []) ∙ and_true (list_all is_space (d ∷ t)) (is_space c) e in
    ap (λ b. cond b [] (d ∷ without_end (t ++ c ∷ []))) all ∙ ap (λ u. cond (list_all is_space (d ∷ t)) [] (d ∷ u)) (space_falls t c e)
  where
    and_true : (a b : Bool) → b ≡ true → (a && (b && true)) ≡ a
    and_true true b h = rw h refl
    and_true false b h = refl

-- another character stays, and all that stands before it
pub other_stays : (t : List ℕ) (c : ℕ) → is_space c ≡ false → without_end (t ++ c ∷ []) ≡ t ++ c ∷ []
other_stays [] c e = rw e refl
other_stays (d ∷ t) c e =
    let all : list_all is_space (d ∷ t ++ c ∷ []) ≡ false = list_all-append is_space (d ∷ t) (c ∷ []) ∙ and_false (list_all is_space (d ∷ t)) (is_space c) e in
    ap (λ b. cond b [] (d ∷ without_end (t ++ c ∷ []))) all ∙ ap (λ u. d ∷ u) (other_stays t c e)
  where
    and_false : (a b : Bool) → b ≡ false → (a && (b && true)) ≡ false
    and_false true b h = rw h refl
    and_false false b h = refl

-- a text's front is one
pub text_front : (front back : List ℕ) → IsText (front ++ back) → IsText front
text_front [] back h = tt
text_front (c ∷ front) back h = (h.0, text_front front back h.1)

pub range_is_text : (first last : Index) (text : List ℕ) → IsText text → IsText (range first last text)
range_is_text first last text h =
    text_drop (before (place first (length text))) _ (text_take (before (place last (length text) +ℤ pos 1)) text h)
