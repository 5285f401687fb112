-- Entries given one after the other.
use Rattle.std.proofs.Common.{◌≡◌, ℕ, true, false, cond, T, List, [], ◌∷◌, Option, Some, None, Ordering, Less, Equal, Greater, refl, sym, ap, ◌∙◌}
use Rattle.std.specs.Ordering.{is_lt, ordering_reverse}
use Rattle.std.specs.Cmp.{tied_itself}
use Rattle.std.specs.Cmp.Lexicographic.{nat_list_cmp_total}
use Rattle.std.specs.FinMap.Entries.{is_sorted, below_all}
use Rattle.tks_share.specs.Names.{order, behind}
use Rattle.tks_share.specs.Tree.{front}
use Rattle.tks_share.specs.Going.{those_ahead}
use Rattle.tks_share.specs.declared.iter.Ahead.{Ahead}
use Rattle.tks_share.specs.declared.iter.Ahead.TheVariants as ahead
use Rattle.tks_share.proofs.Sides.{first, second, less, later_under, under_less}

lesser : (r : Ordering) → is_lt r ≡ true → r ≡ Less
lesser Less e = refl
lesser Equal e = cc
lesser Greater e = cc

module _ {V : Type 0} where
  -- the entries from this one on
  abbrev rest_of : List (List ℕ × V) → Option (List ℕ × V) → List (List ℕ × V)
  rest_of all None = []
  rest_of all (Some e) = e ∷ behind e.0 all

  -- behind the first entry stand the others
  others : (e : List ℕ × V) (es : List (List ℕ × V)) → T (below_all order e.0 es) → behind e.0 (e ∷ es) ≡ es
  others e es h =
      ap (λ r. cond (is_lt r) (e ∷ behind e.0 es) (behind e.0 es)) (tied_itself nat_list_cmp_total e.0) ∙ behind_all e.0 es (each e.0 es h) where
        each : (x : List ℕ) (m : List (List ℕ × V)) → T (below_all order x m) → Rattle.tks_share.proofs.Sides.IsUnder order x m
        each x [] p = tt
        each x (y ∷ m) p = (less _ (first _ _ p), each x m (second _ _ p))

        behind_all : (x : List ℕ) (m : List (List ℕ × V)) → Rattle.tks_share.proofs.Sides.IsUnder order x m → behind x m ≡ m
        behind_all x m p = later_under order x m p

  begun : (es : List (List ℕ × V)) (next : Option (List ℕ × V)) → T (is_sorted order es) → next ≡ front es → rest_of es next ≡ es
  begun [] next s e = ap (rest_of []) e
  begun (x ∷ es) next s e = ap (rest_of (x ∷ es)) e ∙ ap (λ l. x ∷ l) (others x es (first _ _ s))

  -- the first of those behind a name stands behind all that are below those
  below_first : (x name : List ℕ) (es : List (List ℕ × V)) (e : List ℕ × V) → T (below_all order x es) → Some e ≡ front (behind name es) → order x e.0 ≡ Less
  below_first x name [] e h is = cc
  below_first x name (y ∷ es) e h is =
      elim (is_lt (order name y.0)) as (λ b. Some e ≡ front (cond b (y ∷ behind name es) (behind name es)) → order x e.0 ≡ Less) [
        | true ↦ λ same. ap (λ (k : List ℕ). order x k) (ap (λ (p : List ℕ × V). p.0) (same_entry e y same)) ∙ less _ (first _ _ h)
        | false ↦ λ same. below_first x name es e (second _ _ h) same
      ] is where
        same_entry : (a b : List ℕ × V) → Some a ≡ Some b → a ≡ b
        same_entry a b p = cc

  passed : (x : List ℕ × V) (name : List ℕ) (es : List (List ℕ × V)) (next : Option (List ℕ × V)) → T (below_all order x.0 es) → next ≡ front (behind name es) → rest_of (x ∷ es) next ≡ rest_of es next
  passed x name es None h is = refl
  passed x name es (Some e) h is =
      ap (λ r. e ∷ cond (is_lt r) (x ∷ behind e.0 es) (behind e.0 es)) (nat_list_cmp_total.antisymm e.0 x.0 ∙ ap ordering_reverse (below_first x.0 name es e h is))

  goes_on : (es : List (List ℕ × V)) (name : List ℕ) (next : Option (List ℕ × V)) → T (is_sorted order es) → next ≡ front (behind name es) → rest_of es next ≡ behind name es
  goes_on [] name next s is = ap (rest_of []) is
  goes_on (x ∷ es) name next s is =
      elim (is_lt (order name x.0)) as (λ b. is_lt (order name x.0) ≡ b → next ≡ front (cond b (x ∷ behind name es) (behind name es)) → rest_of (x ∷ es) next ≡ cond b (x ∷ behind name es) (behind name es)) [
        | true ↦ λ p same. ap (rest_of (x ∷ es)) same ∙ ap (λ l. x ∷ l) (others x es (first _ _ s) ∙ sym (later_under order name es (under_less order nat_list_cmp_total name x.0 es (lesser _ p) (first _ _ s))))
        | false ↦ λ p same. passed x name es next (first _ _ s) same ∙ goes_on es name next (second _ _ s) same
      ] refl is

  pub steps : (es : List (List ℕ × V)) (from : Ahead) (e : List ℕ × V) → T (is_sorted order es) → Some e ≡ front (those_ahead from es) → those_ahead from es ≡ e ∷ behind e.0 es
  steps es ahead.All e s is = sym (begun es (Some e) s is)
  steps es (ahead.Behind name) e s is = sym (goes_on es name (Some e) s is)
