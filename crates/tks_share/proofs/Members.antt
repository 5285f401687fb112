-- Entries of maps: what is found under a name is one, and each is found under its name.
use Rattle.std.specs.Prelude.{◌⊎◌}
use Rattle.std.specs.FinMap as fin
use Rattle.std.specs.FinMap.Entries.{find, is_sorted, below_all}
use Rattle.std.specs.Ordering.{is_lt, ordering_reverse, eq_by_cmp}
use Rattle.std.specs.Cmp.{tied_itself}
use Rattle.std.specs.Cmp.Lexicographic.{nat_list_cmp_total}
use Rattle.std.proofs.Common.{◌≡◌, ℕ, T, Bool, true, false, cond, List, [], ◌∷◌, Some, Ordering, Less, Equal, Greater, is_eq, refl, sym, ap, subst, ◌∙◌, true≢false, inl, inr}
use Rattle.tks_share.specs.Names.{order, behind}
use Rattle.tks_share.proofs.Sides.{first, second, less}

-- one of the members of a list
abbrev pub IsOneOf : {X : Type 0} → X → List X → Type 0
IsOneOf x [] = ⊥
IsOneOf x (y ∷ ys) = (x ≡ y) ⊎ IsOneOf x ys

same_name : (q p : List ℕ) → eq_by_cmp order q p ≡ true → q ≡ p
same_name q p h = fin.slice_cmp-IsAntisymmetric fin.nat_cmp-IsAntisymmetric q p (by (order q p) h)
  where
    by : (o : Ordering) → is_eq o ≡ true → o ≡ Equal
    by Less e = cc
    by Equal e = refl
    by Greater e = cc

module _ {V : Type 0} where
  -- what is found under a name is an entry
  pub found_entry : (q : List ℕ) (n : V) (es : List (List ℕ × V)) → find order q es ≡ Some n → IsOneOf (q, n) es
  found_entry q n [] is = cc
  found_entry q n (e ∷ es) is = by (eq_by_cmp order q e.0) refl is (found_entry q n es)
    where
      by : (b : Bool) → eq_by_cmp order q e.0 ≡ b → cond b (Some e.1) (find order q es) ≡ Some n → (find order q es ≡ Some n → IsOneOf (q, n) es) → IsOneOf (q, n) (e ∷ es)
      by true t is rest = let name = same_name q e.0 t in let number : n ≡ e.1 = cc in inl (λ i. (name i, number i))
      by false t is rest = inr (rest is)

  pub below_entry : (x : List ℕ) (e : List ℕ × V) (es : List (List ℕ × V)) → T (below_all order x es) → IsOneOf e es → order x e.0 ≡ Less
  below_entry x e [] h i = absurd i
  below_entry x e (f ∷ es) h i = elim i [
    | inl same ↦ ap (λ (g : List ℕ × V). order x g.0) same ∙ less _ (first _ _ h)
    | inr j ↦ below_entry x e es (second _ _ h) j
  ]

  -- an entry is found under its name
  pub entry_found : (e : List ℕ × V) (es : List (List ℕ × V)) → T (is_sorted order es) → IsOneOf e es → find order e.0 es ≡ Some e.1
  entry_found e [] h i = absurd i
  entry_found e (f ∷ es) h i = elim i [
    | inl same ↦ subst (λ (g : List ℕ × V). find order g.0 (f ∷ es) ≡ Some g.1) (sym same) (ap (λ o. cond (is_eq o) (Some f.1) (find order f.0 es)) (tied_itself nat_list_cmp_total f.0))
    | inr j ↦
        let later = nat_list_cmp_total.antisymm e.0 f.0 ∙ ap ordering_reverse (below_entry f.0 e es (first _ _ h) j) in
        ap (λ o. cond (is_eq o) (Some f.1) (find order e.0 es)) later ∙ entry_found e es (second _ _ h) j
  ]

  -- those behind a name
  pub behind_entry : (p : List ℕ) (e : List ℕ × V) (es : List (List ℕ × V)) → order p e.0 ≡ Less → IsOneOf e es → IsOneOf e (behind p es)
  behind_entry p e [] h i = absurd i
  behind_entry p e (f ∷ es) h i = by (is_lt (order p f.0)) refl i (behind_entry p e es h)
    where
      by : (b : Bool) → is_lt (order p f.0) ≡ b → IsOneOf e (f ∷ es) → (IsOneOf e es → IsOneOf e (behind p es)) → IsOneOf e (cond b (f ∷ behind p es) (behind p es))
      by true l (inl same) rest = inl same
      by true l (inr j) rest = inr (rest j)
      by false l (inl same) rest = absurd (true≢false (sym (ap is_lt (ap (λ (g : List ℕ × V). order p g.0) (sym same) ∙ h)) ∙ l))
      by false l (inr j) rest = rest j

  pub entry_behind : (p : List ℕ) (e : List ℕ × V) (es : List (List ℕ × V)) → IsOneOf e (behind p es) → (order p e.0 ≡ Less) × IsOneOf e es
  entry_behind p e [] i = absurd i
  entry_behind p e (f ∷ es) i = by (is_lt (order p f.0)) refl i (entry_behind p e es)
    where
      lesser : (o : Ordering) → is_lt o ≡ true → o ≡ Less
      lesser Less e = refl
      lesser Equal e = cc
      lesser Greater e = cc

      by : (b : Bool) → is_lt (order p f.0) ≡ b → IsOneOf e (cond b (f ∷ behind p es) (behind p es)) → (IsOneOf e (behind p es) → (order p e.0 ≡ Less) × IsOneOf e es) → (order p e.0 ≡ Less) × IsOneOf e (f ∷ es)
      by true l (inl same) rest = (ap (λ (g : List ℕ × V). order p g.0) same ∙ lesser (order p f.0) l, inl same)
      by true l (inr j) rest = let r = rest j in (r.0, inr r.1)
      by false l j rest = let r = rest j in (r.0, inr r.1)
