-- What a list of entries in order is as a map, and what is put in, taken out and found in both.
use Rattle.std.proofs.Common.{◌≡◌, ℕ, ◌+◌, ◌-◌, ◌<◌, Bool, true, false, cond, not, T, List, [], ◌∷◌, length, Option, Some, None, Ordering, Less, Equal, Greater, is_eq, refl, sym, subst, ap, ◌∙◌, arith}
use Rattle.std.specs.Prelude.{Result, Ok, Err, IfOk, IfSome, IfNone, OnErr, is_some}
use Rattle.std.specs.Ordering.{eq_by_cmp}
use Rattle.std.specs.Cmp.{alike_right, eq_by_cmp_equiv}
use Rattle.std.specs.Cmp.Lexicographic.{nat_list_cmp_total}
use Rattle.std.specs.FinMap as fin
use Rattle.std.specs.FinMap.Entries.{find, put, is_sorted, is_sorted-put, is_sorted-where_key, find-where_key, length-put, length_without}
use Rattle.tks_share.specs.Names.{order, without, IsChanged}
use Rattle.tks_share.specs.Maps.{Map, IsChangedIn}

turned : {A : Type 0} (b : Bool) (x y : A) → cond (not b) x y ≡ cond b y x
turned true x y = refl
turned false x y = refl

equal : (r : Ordering) → is_eq r ≡ true → r ≡ Equal
equal Less e = cc
equal Equal e = refl
equal Greater e = cc

nothing : {V : Type 0} (o : Option V) → is_some o ≡ false → o ≡ None
nothing None e = refl
nothing (Some v) e = cc

pub empty_is : {V : Type 0} (es : List (List ℕ × V)) → es ≡ [] → fin.from_sorted {R = order} es ≡ fin.empty
empty_is es e = fin.same_entries_map _ _ (ap (λ l. fin.entries (fin.from_sorted {R = order} l)) e ∙ fin.entries-from_sorted order [] tt ∙ sym (no_entries fin.empty (fin.len-empty order _))) where
  no_length : {A : Type 0} (l : List A) → length l ≡ 0 → l ≡ []
  no_length [] h = refl
  no_length (x ∷ l) h = absurd (omega (arith, h))

  no_entries : {V : Type 0} (m : Map V) → fin.len m ≡ 0 → fin.entries m ≡ []
  no_entries m h = no_length (fin.entries m) (sym (fin.len-entries m) ∙ h)

module _ {V : Type 0} (es : List (List ℕ × V)) (m : Map V) (seen : fin.from_sorted es ≡ m) (sorted : T (is_sorted order es)) where
  pub entries_are : fin.entries m ≡ es
  entries_are = ap (λ (n : Map V). fin.entries n) (sym seen) ∙ fin.entries-from_sorted order es sorted

  pub counted : fin.len m ≡ length es
  counted = fin.len-entries m ∙ ap length entries_are

  pub found : (name : List ℕ) → fin.get m name ≡ find order name es
  found name = ap (λ (n : Map V). fin.get n name) (sym seen) ∙ fin.get-from_sorted order es name sorted

  module _ (name : List ℕ) (now : List (List ℕ × V)) where
    pub sorted_put : (v : V) → now ≡ put order name v es → T (is_sorted order now)
    sorted_put v e = subst (λ l. T (is_sorted order l)) (sym e) (is_sorted-put order nat_list_cmp_total name v es sorted)

    put_entries : (v : V) → fin.entries (fin.insert m name v) ≡ put order name v es
    put_entries v = fin.entries-insert nat_list_cmp_total m name v ∙ ap (put order name v) entries_are

    pub inserted : (v : V) → now ≡ put order name v es → fin.from_sorted now ≡ fin.insert m name v
    inserted v e = fin.same_entries_map _ _ (fin.entries-from_sorted order now (sorted_put v e) ∙ e ∙ sym (put_entries v))

    pub counted_put : (v : V) → now ≡ put order name v es → fin.len (fin.insert m name v) ≡ length now
    counted_put v e = fin.len-entries (fin.insert m name v) ∙ ap length (put_entries v ∙ sym e)

    pub as_many : (v w : V) → find order name es ≡ Some v → now ≡ put order name w es → length es ≡ length now
    as_many v w at e = sym (ap length e ∙ length-put order nat_list_cmp_total name w es sorted ∙ ap (λ (o : Option V). cond (is_some o) (length es) (length es + 1)) at)

    pub sorted_out : now ≡ without name es → T (is_sorted order now)
    sorted_out e = subst (λ l. T (is_sorted order l)) (sym e) (is_sorted-where_key order (λ other. not (eq_by_cmp order name other)) es sorted)

    pub removed : now ≡ without name es → fin.from_sorted now ≡ fin.remove m name
    removed e =
        fin.same_map nat_list_cmp_total (fin.slice_cmp-IsAntisymmetric fin.nat_cmp-IsAntisymmetric) _ _ (λ q.
        fin.get-from_sorted order now q (sorted_out e) ∙ ap (find order q) e
        ∙ find-where_key order (λ other. not (eq_by_cmp order name other)) q (λ x t. ap (λ r. not (is_eq r)) (sym (alike_right nat_list_cmp_total q x name t))) es
        ∙ turned (eq_by_cmp order name q) (find order q es) None
        ∙ ap (λ b. cond b None (find order q es)) ((eq_by_cmp_equiv nat_list_cmp_total).symm name q)
        ∙ ap (cond (eq_by_cmp order q name) None) (sym (found q)) ∙ sym (fin.get-remove nat_list_cmp_total m name q))

    pub one_fewer : (n : ℕ) → n ≡ length es → fin.contains_key m name ≡ true → now ≡ without name es → (0 < n) × (n - 1 ≡ length now)
    one_fewer n count there e =
        let fewer = length_without order nat_list_cmp_total name es sorted in
        let some = ap is_some (sym (found name)) ∙ there in
        let same = ap length e in
        let all : 1 + length (without name es) ≡ length es = subst (λ b. cond b 1 0 + length (without name es) ≡ length es) some fewer in
        (omega (arith, count, all), omega (arith, count, all, same))

  -- a name that isn't there can be taken out
  pub nothing_out : (name : List ℕ) → fin.contains_key m name ≡ false → m ≡ fin.remove m name
  nothing_out name out =
      fin.same_map nat_list_cmp_total (fin.slice_cmp-IsAntisymmetric fin.nat_cmp-IsAntisymmetric) _ _ (λ q.
      elim (eq_by_cmp order q name) as (λ b. eq_by_cmp order q name ≡ b → fin.get m q ≡ cond b None (fin.get m q)) [
        | true ↦ λ t. sym (fin.get_tied nat_list_cmp_total m q name (equal _ t)) ∙ nothing _ out
        | false ↦ λ t. refl
      ] refl ∙ sym (fin.get-remove nat_list_cmp_total m name q))

  -- what a change leaves
  module _ {A : Type 0} (gives : V → V → A → Type 0) (name : List ℕ) (now : List (List ℕ × V)) where
    pub changed_in : (answer : A) → IsChanged gives name es now answer → IsChangedIn gives name m (fin.from_sorted now) answer
    changed_in answer c =
        record { before = c.before; after = c.after; found = found name ∙ c.found; given = c.given; now = inserted name now c.after c.now }

    pub sound : {E : Type 0} (r : Result (Option A) E) → IfOk r (λ o. IfSome o (λ answer. T (is_sorted order es) → IsChanged gives name es now answer))
        → IfOk r (λ o. IfNone o ((now ≡ es) × (T (is_sorted order es) → find order name es ≡ None))) → OnErr r (now ≡ es)
        → T (is_sorted order now) × (length es ≡ length now)
    sound (Ok (Some answer)) some none err = let c = some sorted in (sorted_put name now c.after c.now, as_many name now c.before c.after c.found c.now)
    sound (Ok None) some none err = (subst (λ l. T (is_sorted order l)) (sym none.0) sorted, ap length (sym none.0))
    sound (Err e) some none err = (subst (λ l. T (is_sorted order l)) (sym err) sorted, ap length (sym err))
