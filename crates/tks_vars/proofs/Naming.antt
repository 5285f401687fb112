-- Names in tables are texts: what puts them there, and the parts of a name.
use Rattle.std.proofs.Common.{◌≡◌, ℕ, Bool, true, false, ◌||◌, cond, List, [], ◌∷◌, Option, Some, None, Ordering, Less, Equal, Greater, is_eq, refl, sym, subst, ap, ◌∙◌}
use Rattle.std.specs.Prelude.{is_some, map, Result, Ok, Err, IfOk, IfSome, IfNone, OnOk, OnErr}
use Rattle.tks_share.specs.Maps.{IsChangedIn}
use Rattle.std.specs.List.{AllByRecursion, list_any}
use Rattle.std.specs.Ordering.{eq_by_cmp}
use Rattle.std.specs.Cmp.{eq_by_cmp_equiv}
use Rattle.std.specs.Cmp.Lexicographic.{nat_list_cmp_total}
use Rattle.std.specs.FinMap as fin
use Rattle.tks_vars.specs.Table.{Map, IsName, AreNames, HasName}
use Rattle.tks_vars.proofs.Entries.{order}

-- ---- tables

equal : (r : Ordering) → is_eq r ≡ true → r ≡ Equal
equal Less e = cc
equal Equal e = refl
equal Greater e = cc

same_name : (x y : List ℕ) → eq_by_cmp order x y ≡ true → x ≡ y
same_name x y e = fin.slice_cmp-IsAntisymmetric fin.nat_cmp-IsAntisymmetric x y (equal (order x y) e)

or_right : (a b : Bool) → b ≡ true → a || b ≡ true
or_right true b e = refl
or_right false b e = e

or_left : (a b : Bool) → a ≡ true → a || b ≡ true
or_left true b e = refl
or_left false b e = absurd cc

module _ {V : Type 0} where
  pub none_named : (m : Map V) → m ≡ fin.empty → AreNames m
  none_named m e = λ q t. absurd (out (fin.get m q) (ap (λ (n : Map V). fin.get n q) e ∙ fin.get-empty order q) t) where
    out : (o : Option V) → o ≡ None → is_some o ≡ true → ⊥
    out None e t = cc
    out (Some v) e t = cc

  pub insert_named : (m : Map V) (k : List ℕ) (v : V) → AreNames m → IsName k → AreNames (fin.insert m k v)
  insert_named m k v h name = λ q t. by q (eq_by_cmp order q k) refl (sym (ap is_some (fin.get-insert nat_list_cmp_total m k v q)) ∙ t)
    where
      by : (q : List ℕ) (b : Bool) → eq_by_cmp order q k ≡ b → is_some (cond b (Some v) (fin.get m q)) ≡ true → IsName q
      by q true e t = subst IsName (sym (same_name q k e)) name
      by q false e t = h q t

  pub remove_named : (m : Map V) (k : List ℕ) → AreNames m → AreNames (fin.remove m k)
  remove_named m k h = λ q t. by q (eq_by_cmp order q k) (sym (ap is_some (fin.get-remove nat_list_cmp_total m k q)) ∙ t)
    where
      by : (q : List ℕ) (b : Bool) → is_some (cond b None (fin.get m q)) ≡ true → IsName q
      by q true t = absurd cc
      by q false t = h q t

  -- a name that is there is one
  pub there_named : (m : Map V) (k : List ℕ) (v : V) → AreNames m → fin.get m k ≡ Some v → IsName k
  there_named m k v h e = h k (ap is_some e)

  each_named : (es : List (List ℕ × V)) → ((q : List ℕ) → list_any (eq_by_cmp order q) (map (λ e. e.0) es) ≡ true → IsName q) → AllByRecursion HasName es
  each_named [] h = tt
  each_named (e ∷ es) h =
      (h e.0 (or_left (eq_by_cmp order e.0 e.0) _ ((eq_by_cmp_equiv nat_list_cmp_total).refl e.0)), each_named es (λ q t. h q (or_right (eq_by_cmp order q e.0) _ t)))

  pub entries_named : (m : Map V) → AreNames m → AllByRecursion HasName (fin.entries m)
  entries_named m h = each_named (fin.entries m) (λ q t. h q (fin.contains_key-keys m q ∙ t))

-- ---- what a change leaves

module _ {V X E : Type 0} where
  pub either_named : (r : Result X E) (old after now : Map V) → OnOk r (now ≡ after) → OnErr r (now ≡ old) → AreNames old → AreNames after → AreNames now
  either_named (Ok x) old after now ok err h k = subst AreNames (sym ok) k
  either_named (Err e) old after now ok err h k = subst AreNames (sym err) h

  pub changed_named : (gives : V → V → X → Type 0) (name : List ℕ) (old now : Map V) (r : Result (Option X) E)
      → IfOk r (λ o. IfSome o (λ answer. IsChangedIn gives name old now answer)) → IfOk r (λ o. IfNone o ((now ≡ old) × (fin.get old name ≡ None)))
      → OnErr r (now ≡ old) → AreNames old → AreNames now
  changed_named gives name old now (Ok (Some answer)) some none err h =
      subst AreNames (sym some.now) (insert_named old name some.after h (there_named old name some.before h some.found))
  changed_named gives name old now (Ok None) some none err h = subst AreNames (sym none.0) h
  changed_named gives name old now (Err e) some none err h = subst AreNames (sym err) h
