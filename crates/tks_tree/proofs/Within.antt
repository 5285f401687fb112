-- The numbers of a window and of those that stand in it, as the index gives them.
use Rattle.std.specs.Prelude.{◌==◌}
use Rattle.std.specs.FinMap as fin
use Rattle.std.specs.FinMap.Entries.{is_sorted, is_sorted-where_key}
use Rattle.std.specs.List.{AllByRecursion}
use Rattle.std.specs.Option.{option_map}
use Rattle.std.specs.Ordering.{is_lt}
use Rattle.std.specs.Cmp.Lexicographic.{bytes_decides}
use Rattle.std.proofs.Common.{◌≡◌, ℕ, ◌+◌, ◌≤◌, T, Bool, true, false, cond, ◌||◌, List, [], ◌∷◌, Option, Some, None, Less, refl, sym, ap, subst, ◌∙◌, true≢false, arith, inl, inr, if◌then◌else◌}
use Rattle.std.proofs.lemmas.Bool.{eqb-true, eq-eqb, ne_eqb}
use Rattle.tks_share.specs.Names.{order, behind}
use Rattle.tks_share.specs.Maps.{Map}
use Rattle.tks_share.proofs.Members.{IsOneOf, found_entry, entry_found, below_entry, behind_entry, entry_behind}
use Rattle.tks_share.proofs.Sides.{first, second}
use Rattle.tks_text.specs.Text.{same_text}
use Rattle.tks_tree.specs.Path.{root_path, goes_on, is_within}
use Rattle.tks_tree.specs.Windows.{Window, Windows, on_window, of_path, of_number, number_at}
use Rattle.tks_tree.specs.View.{Indexes}
use Rattle.tks_tree.specs.WellFormed.{Rise, WellFormed}
use Rattle.tks_tree.specs.Within.{is_one_of, is_in, AreThoseIn, front_within}
use Rattle.tks_tree.proofs.Behind.{FromDot, path_bytes, goes_behind, root_first, between}
use Rattle.tks_tree.proofs.Indexed.{by_path}
use Rattle.tks_tree.proofs.Parents.{new_path, own_path}
use Rattle.tks_tree.proofs.Removals.{found_passes}
use Rattle.tks_tree.proofs.Trees.{some_is_none, from_some, true_or, or_true, either}

-- ---- the front

abbrev Entry : Type 0
Entry = List ℕ × ℕ

-- a number at the front is that of an entry whose path is within
record Fronts (p : List ℕ) (n : ℕ) (es : List Entry) : Type 0 where
  entry : Entry
  is_entry : IsOneOf entry es
  number : entry.1 ≡ n
  inside : is_within p entry.0 ≡ true

front_entry : (p : List ℕ) (n : ℕ) (es : List Entry) → is_one_of n (front_within p es) ≡ true → Fronts p n es
front_entry p n [] h = absurd (true≢false (sym h))
front_entry p n (e ∷ es) h = by (is_within p e.0) refl h (front_entry p n es)
  where
    by : (b : Bool) → is_within p e.0 ≡ b → is_one_of n (if b then e.1 ∷ front_within p es else []) ≡ true → (is_one_of n (front_within p es) ≡ true → Fronts p n es) → Fronts p n (e ∷ es)
    by true k h further = elim (either (e.1 == n) (is_one_of n (front_within p es)) h) [
      | inl same ↦ record { entry = e; is_entry = inl refl; number = eqb-true e.1 n same; inside = k }
      | inr j ↦ let rest = further j in record { entry = rest.entry; is_entry = inr rest.is_entry; number = rest.number; inside = rest.inside }
    ]
    by false k h further = absurd (true≢false (sym h))

module _ (p : List ℕ) where
  -- the first of those behind a path is within it where one further on is
  reaches : (e v : List ℕ) → FromDot e → order p e ≡ Less → order e v ≡ Less → is_within p v ≡ true → same_text p v ≡ false → is_within p e ≡ true
  reaches e v from above below h other = elim (either (same_text p root_path) (same_text p v || goes_on p v) h) [
    | inl root ↦ true_or (same_text p root_path) (same_text p e || goes_on p e) root
    | inr k ↦
        or_true (same_text p root_path) (same_text p e || goes_on p e) (or_true (same_text p e) (goes_on p e)
        (between p e v from above (inl below) (subst (λ b. (b || goes_on p v) ≡ true) other k)))
  ]

  -- an entry behind a path that is within it is at the front
  at_front : (es : List Entry) (v : Entry) → T (is_sorted order es) → ((e : Entry) → IsOneOf e es → FromDot e.0 × (order p e.0 ≡ Less)) → IsOneOf v es → is_within p v.0 ≡ true → same_text p v.0 ≡ false
      → is_one_of v.1 (front_within p es) ≡ true
  at_front [] v sorted each i h other = absurd i
  at_front (e ∷ es) v sorted each i h other = elim i [
    | inl same ↦
        let inside : is_within p e.0 ≡ true = subst (λ (g : Entry). is_within p g.0 ≡ true) same h in
        ap (λ (b : Bool). is_one_of v.1 (if b then e.1 ∷ front_within p es else [])) inside
        ∙ true_or (e.1 == v.1) (is_one_of v.1 (front_within p es)) (eq-eqb e.1 v.1 (ap (λ (g : Entry). g.1) (sym same)))
    | inr j ↦
        let one = each e (inl refl) in
        let inside = reaches e.0 v.0 one.0 one.1 (below_entry e.0 v es (first _ _ sorted) j) h other in
        ap (λ (b : Bool). is_one_of v.1 (if b then e.1 ∷ front_within p es else [])) inside
        ∙ or_true (e.1 == v.1) (is_one_of v.1 (front_within p es)) (at_front es v (second _ _ sorted) (λ f k. each f (inr k)) j h other)
  ]

-- ---- windows

-- a window is the one of its number
pub each_own : (low : ℕ) (ws : List Window) (high : ℕ) → Rise low ws high → AllByRecursion (λ v. (low ≤ v.number) × (of_number ws v.number ≡ Some v)) ws
each_own low [] high r = tt
each_own low (w ∷ ws) high r =
    ((r.0, ap (λ b. cond b (Some w) (of_number ws w.number)) (eq-eqb w.number w.number refl)), later ws (each_own (w.number + 1) ws high r.1))
  where
    later : (vs : List Window) → AllByRecursion (λ v. (w.number + 1 ≤ v.number) × (of_number ws v.number ≡ Some v)) vs → AllByRecursion (λ v. (low ≤ v.number) × (of_number (w ∷ ws) v.number ≡ Some v)) vs
    later [] all = tt
    later (v ∷ vs) all =
        let above = all.0.0 in
        let differ : (w.number == v.number) ≡ false = ne_eqb w.number v.number (λ e. omega (arith, above, e)) in
        ((omega (arith, above, r.0), ap (λ b. cond b (Some w) (of_number ws v.number)) differ ∙ all.0.1), later vs all.1)

pub all_so : {X : Type 0} (P Q : X → Type 0) (xs : List X) → ((x : X) → P x → Q x) → AllByRecursion P xs → AllByRecursion Q xs
all_so P Q [] f all = tt
all_so P Q (x ∷ xs) f all = (f x all.0, all_so P Q xs f all.1)

module _ (t : Windows) (index : Map ℕ) (f : WellFormed t) (indexed : Indexes index t.windows) where
  -- the window of an entry
  window_of : (e : Entry) → IsOneOf e (fin.entries index) → of_number t.windows e.1 ≡ of_path t.windows e.0
  window_of e i =
      by_path t.windows t.next e.1 e.0 f.numbered (sym (entry_found e (fin.entries index) (fin.entries_sorted index) i) ∙ sym (fin.get-entries index e.0) ∙ indexed e.0)

  path_found : (e : Entry) → IsOneOf e (fin.entries index) → FromDot e.0
  path_found e i = by (of_path t.windows e.0) refl
    where
      named : Some e.1 ≡ number_at t.windows (Some e.0)
      named = sym (entry_found e (fin.entries index) (fin.entries_sorted index) i) ∙ sym (fin.get-entries index e.0) ∙ indexed e.0

      by : (o : Option Window) → of_path t.windows e.0 ≡ o → FromDot e.0
      by None is = absurd (some_is_none (named ∙ ap (option_map (λ (u : Window). u.number)) is))
      by (Some u) is =
          let same : e.0 ≡ u.path = (bytes_decides e.0 u.path).0 (found_passes (λ w. same_text e.0 w.path) t.windows u is) in
          subst FromDot (sym same) (path_bytes u.path (new_path [] t.windows e.1 u f.founded (window_of e i ∙ is)).0)

  module _ (id : ℕ) (w : Window) (is : of_number t.windows id ≡ Some w) where
    -- its number, and those at the front behind its path
    abbrev pub ids : List ℕ
    ids = id ∷ front_within w.path (behind w.path (fin.entries index))

    own_number : w.number ≡ id
    own_number = eqb-true w.number id (found_passes (λ u. u.number == id) t.windows w is)

    one : (v : Window) → of_number t.windows v.number ≡ Some v → is_one_of v.number ids ≡ is_within w.path v.path
    one v own = by (is_one_of v.number ids) (is_within w.path v.path) refl refl
      where
        at_path : of_path t.windows v.path ≡ Some v
        at_path = own_path [] t.windows v.number v f.founded own

        itself : same_text w.path v.path ≡ true → v.number ≡ id
        itself e =
            let same : v ≡ w = ap (from_some v) (sym at_path ∙ ap (of_path t.windows) (sym ((bytes_decides w.path v.path).0 e)) ∙ own_path [] t.windows id w f.founded is) in
            ap (λ (u : Window). u.number) same ∙ own_number

        -- one within it is among them
        there : is_within w.path v.path ≡ true → is_one_of v.number ids ≡ true
        there h = at (same_text w.path v.path) refl
          where
            at : (b : Bool) → same_text w.path v.path ≡ b → is_one_of v.number ids ≡ true
            at true e = true_or (id == v.number) _ (eq-eqb id v.number (sym (itself e)))
            at false e =
                let entry = found_entry v.path v.number (fin.entries index) (sym (fin.get-entries index v.path) ∙ indexed v.path ∙ ap (option_map (λ (u : Window). u.number)) at_path) in
                let above = comes_behind e in
                or_true (id == v.number) _
                (at_front w.path (behind w.path (fin.entries index)) (v.path, v.number) (sorted_behind w.path (fin.entries index) (fin.entries_sorted index))
                (λ e i. let r = entry_behind w.path e (fin.entries index) i in (path_found e r.1, r.0)) (behind_entry w.path (v.path, v.number) (fin.entries index) above entry) h e)
              where
                turned : same_text root_path v.path ≡ false → same_text v.path root_path ≡ false
                turned h = on (same_text v.path root_path) refl
                  where
                    on : (b : Bool) → same_text v.path root_path ≡ b → b ≡ false
                    on false e = refl
                    on true e = absurd (true≢false (sym ((bytes_decides root_path v.path).1 (sym ((bytes_decides v.path root_path).0 e))) ∙ h))

                comes_behind : same_text w.path v.path ≡ false → order w.path v.path ≡ Less
                comes_behind other = elim (either (same_text w.path root_path) (same_text w.path v.path || goes_on w.path v.path) h) [
                  | inl root ↦
                      let at_root = (bytes_decides w.path root_path).0 root in
                      ap (λ q. order q v.path) at_root
                      ∙ root_first v.path (new_path [] t.windows v.number v f.founded own).0 (turned (subst (λ q. same_text q v.path ≡ false) at_root other))
                  | inr k ↦ goes_behind w.path v.path (subst (λ b. (b || goes_on w.path v.path) ≡ true) other k)
                ]

                sorted_behind : (p : List ℕ) (es : List Entry) → T (is_sorted order es) → T (is_sorted order (behind p es))
                sorted_behind p es h = is_sorted-where_key order (λ other. is_lt (order p other)) es h

        -- one that is among them is within it
        within : is_one_of v.number ids ≡ true → is_within w.path v.path ≡ true
        within h = elim (either (id == v.number) (is_one_of v.number (front_within w.path (behind w.path (fin.entries index)))) h) [
          | inl same ↦
              let both : w ≡ v = ap (from_some w) (sym is ∙ ap (of_number t.windows) (eqb-true id v.number same) ∙ own) in
              subst (λ (u : Window). is_within w.path u.path ≡ true) both
              (or_true (same_text w.path root_path) (same_text w.path w.path || goes_on w.path w.path) (true_or (same_text w.path w.path) (goes_on w.path w.path) ((bytes_decides w.path w.path).1 refl)))
          | inr j ↦
              let r = front_entry w.path v.number (behind w.path (fin.entries index)) j in
              let i = (entry_behind w.path r.entry (fin.entries index) r.is_entry).1 in
              let found : of_path t.windows r.entry.0 ≡ Some v = sym (window_of r.entry i) ∙ ap (of_number t.windows) r.number ∙ own in
              let same : r.entry.0 ≡ v.path = (bytes_decides r.entry.0 v.path).0 (found_passes (λ u. same_text r.entry.0 u.path) t.windows v found) in
              subst (λ q. is_within w.path q ≡ true) same r.inside
        ]

        by : (a b : Bool) → is_one_of v.number ids ≡ a → is_within w.path v.path ≡ b → a ≡ b
        by true true x y = refl
        by false false x y = refl
        by true false x y = absurd (true≢false (sym (within x) ∙ y))
        by false true x y = absurd (true≢false (sym (there y) ∙ x))

    pub those_in : AreThoseIn t id ids
    those_in =
        all_so _ _ t.windows (λ v h. one v h.1 ∙ sym (ap (λ o. on_window o false (λ u. is_within u.path v.path)) is)) (each_own 0 t.windows t.next f.numbered)

pub none_in : (t : Windows) (id : ℕ) → of_number t.windows id ≡ None → AreThoseIn t id []
none_in t id is = each t.windows
  where
    each : (vs : List Window) → AllByRecursion (λ v. is_one_of v.number [] ≡ is_in t id v) vs
    each [] = tt
    each (v ∷ vs) = (sym (ap (λ o. on_window o false (λ u. is_within u.path v.path)) is), each vs)
