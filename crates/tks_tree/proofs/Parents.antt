-- Which windows stand in which, as windows are made and destroyed.
use Rattle.std.proofs.Common.{◌≡◌, ℕ, ◌+◌, ◌≤◌, Bool, true, false, cond, ◌||◌, not, List, [], ◌∷◌, ◌++◌, Option, Some, None, is_some, refl, sym, ap, subst, ◌∙◌, true≢false, arith, if◌then◌else◌, inl, inr, Result, Ok, Err}
use Rattle.std.specs.Prelude.{◌⊎◌, ◌==◌, nat_lt}
use Rattle.std.specs.List.{find, filter}
use Rattle.std.specs.Option.{option_map}
use Rattle.std.specs.Cmp.Lexicographic.{bytes_decides}
use Rattle.std.proofs.lemmas.Bool.{eqb-true, eq-eqb, ltb-true}
use Rattle.tks_text.specs.Text.{same_text}
use Rattle.tks_tree.specs.Path.{root_path, before_dot, before_last_dot, or_root, parent_of, goes_on, is_within, is_path}
use Rattle.tks_text.specs.declared.class.Class.{Class}
use Rattle.tks_text.specs.declared.fault.ErrorNumber.TheVariants.{NotAllowedOnRoot}
use Rattle.tks_text.specs.declared.fault.ScriptFault.{ScriptFault}
use Rattle.tks_tree.specs.Windows.{Window, Windows, Refusal, OutOfNumbers, root, on_window, of_path, of_number, has_path, max_number, free_path, after, numbered, created, with_window, without, destroyed, number_at, parent}
use Rattle.tks_tree.specs.WellFormed.{Rise, AllFollow, is_widget_class, WellFormed}
use Rattle.tks_tree.proofs.Trees.{either, both, true_or, or_true, first_true, second_true, has_more, from_some, some_is_none, parent_cut, Free, free, well_with}
use Rattle.tks_tree.proofs.Removals.{stays, well_left, found_passes}

-- ---- paths

-- where a path goes on from another, a dot is in it
dotted : (q path : List ℕ) → goes_on q path ≡ true → before_last_dot path ≡ None → ⊥
dotted [] [] h n = true≢false (sym h)
dotted [] (c ∷ path) h n = by (before_last_dot path) n
  where
    by : (o : Option (List ℕ)) → before_dot c o ≡ None → ⊥
    by None n = some_is_none (sym (ap (λ (b : Bool). if b then Some [] else None) h) ∙ n)
    by (Some f) n = some_is_none n
dotted (b ∷ q) [] h n = true≢false (sym h)
dotted (b ∷ q) (c ∷ path) h n = by (before_last_dot path) n (dotted q path (second_true (c == b) _ h))
  where
    by : (o : Option (List ℕ)) → before_dot c o ≡ None → (o ≡ None → ⊥) → ⊥
    by None n rest = rest refl
    by (Some f) n rest = some_is_none n

-- what is before its last dot is the other, or goes on from it too
goes_before : (q path front : List ℕ) → goes_on q path ≡ true → before_last_dot path ≡ Some front → (q ≡ front) ⊎ (goes_on q front ≡ true)
goes_before q [] front h e = absurd (some_is_none (sym e))
goes_before [] (c ∷ path) front h e = by (before_last_dot path) e
  where
    by : (o : Option (List ℕ)) → before_dot c o ≡ Some front → ([] ≡ front) ⊎ (goes_on [] front ≡ true)
    by None e = inl (ap (from_some []) (sym (ap (λ (b : Bool). if b then Some [] else None) h) ∙ e))
    by (Some f) e = inr (subst (λ g. goes_on [] g ≡ true) (ap (from_some []) e) h)
goes_before (b ∷ q) (c ∷ path) front h e = by (before_last_dot path) refl e (λ f. goes_before q path f (second_true (c == b) _ h))
  where
    same : c ≡ b
    same = eqb-true c b (first_true (c == b) _ h)

    by : (o : Option (List ℕ)) → before_last_dot path ≡ o → before_dot c o ≡ Some front → ((f : List ℕ) → before_last_dot path ≡ Some f → (q ≡ f) ⊎ (goes_on q f ≡ true))
        → (b ∷ q ≡ front) ⊎ (goes_on (b ∷ q) front ≡ true)
    by None cut e rest = absurd (dotted q path (second_true (c == b) _ h) cut)
    by (Some f) cut e rest =
        subst (λ g. (b ∷ q ≡ g) ⊎ (goes_on (b ∷ q) g ≡ true)) (ap (from_some []) e)
        (elim (rest f cut) [
          | inl s ↦ inl (λ i. sym same i ∷ s i)
          | inr g ↦ inr (both (c == b) _ (eq-eqb c b same) g)
        ])

-- a window within another is that one, or the one that it stands in is within it
within_parent : (q path p : List ℕ) → is_path q ≡ true → parent_of path ≡ Some p → is_within q path ≡ true → (q ≡ path) ⊎ (is_within q p ≡ true)
within_parent q path p h e k =
    let cut = parent_cut path p e in
    elim (either (same_text q root_path) (same_text q path || goes_on q path) k) [
      | inl r ↦ inr (true_or (same_text q root_path) (same_text q p || goes_on q p) r)
      | inr r ↦ elim (either (same_text q path) (goes_on q path) r) [
        | inl s ↦ inl ((bytes_decides q path).0 s)
        | inr g ↦ inr (subst (λ p. is_within q p ≡ true) (sym cut.2) (up cut.0 (goes_before q path cut.0 g cut.1)))
      ]
    ]
  where
    nothing : (q : List ℕ) → is_path q ≡ true → q ≡ [] → ⊥
    nothing q h e = true≢false (sym (ap is_path (sym e) ∙ h))

    at_end : (q : List ℕ) → goes_on q [] ≡ true → ⊥
    at_end [] h = true≢false (sym h)
    at_end (b ∷ q) h = true≢false (sym h)

    up : (front : List ℕ) → (q ≡ front) ⊎ (goes_on q front ≡ true) → is_within q (or_root front) ≡ true
    up [] (inl e) = absurd (nothing q h e)
    up [] (inr g) = absurd (at_end q g)
    up (c ∷ front) (inl e) = or_true (same_text q root_path) (same_text q (c ∷ front) || goes_on q (c ∷ front)) (true_or (same_text q (c ∷ front)) (goes_on q (c ∷ front)) ((bytes_decides q (c ∷ front)).1 e))
    up (c ∷ front) (inr g) = or_true (same_text q root_path) (same_text q (c ∷ front) || goes_on q (c ∷ front)) (or_true (same_text q (c ∷ front)) (goes_on q (c ∷ front)) g)

-- ---- windows by numbers and by paths

-- numbers that differ do so either way round
pub turned : (m n : ℕ) → (m == n) ≡ false → (n == m) ≡ false
turned m n h = by (n == m) refl
  where
    by : (b : Bool) → (n == m) ≡ b → b ≡ false
    by false e = refl
    by true e = absurd (true≢false (sym (eq-eqb m n (sym (eqb-true n m e))) ∙ h))

-- no number of windows is below where they rise from
not_below : (low : ℕ) (ws : List Window) (high n : ℕ) (w : Window) → Rise low ws high → of_number ws n ≡ Some w → low ≤ n
not_below low [] high n w r e = absurd (some_is_none (sym e))
not_below low (v ∷ ws) high n w r e = by (v.number == n) refl e (not_below (v.number + 1) ws high n w r.1)
  where
    by : (b : Bool) → (v.number == n) ≡ b → cond b (Some v) (of_number ws n) ≡ Some w → (of_number ws n ≡ Some w → v.number + 1 ≤ n) → low ≤ n
    by true s e rest = omega (arith, r.0, eqb-true v.number n s)
    by false s e rest = omega (arith, r.0, rest e)

-- a window behind another has another number
differs : (v : Window) (ws : List Window) (high n : ℕ) (w : Window) → Rise (v.number + 1) ws high → of_number ws n ≡ Some w → (v.number == n) ≡ false
differs v ws high n w r e = by (v.number == n) refl
  where
    by : (b : Bool) → (v.number == n) ≡ b → b ≡ false
    by false s = refl
    by true s = absurd (omega (arith, eqb-true v.number n s, not_below (v.number + 1) ws high n w r e))

-- a window has its number alone
own_number : (test : Window → Bool) (low : ℕ) (ws : List Window) (high : ℕ) (w : Window) → Rise low ws high → find test ws ≡ Some w → of_number ws w.number ≡ Some w
own_number test low [] high w r e = absurd (some_is_none (sym e))
own_number test low (v ∷ ws) high w r e = by (test v) e (own_number test (v.number + 1) ws high w r.1)
  where
    by : (b : Bool) → cond b (Some v) (find test ws) ≡ Some w → (find test ws ≡ Some w → of_number ws w.number ≡ Some w) → of_number (v ∷ ws) w.number ≡ Some w
    by true e rest = subst (λ u. of_number (v ∷ ws) u.number ≡ Some u) (ap (from_some v) e) (ap (λ b. cond b (Some v) (of_number ws v.number)) (eq-eqb v.number v.number refl))
    by false e rest = ap (λ b. cond b (Some v) (of_number ws w.number)) (differs v ws high w.number w r.1 (rest e)) ∙ rest e

either_false : (a b : Bool) → (a || b) ≡ false → (a ≡ false) × (b ≡ false)
either_false false b h = (refl, h)
either_false true b h = absurd (true≢false h)

-- a window has a path, which none before it has
pub new_path : (before ws : List Window) (n : ℕ) (w : Window) → AllFollow before ws → of_number ws n ≡ Some w → (is_path w.path ≡ true) × (has_path before w.path ≡ false)
new_path before [] n w all e = absurd (some_is_none (sym e))
new_path before (v ∷ ws) n w all e = by (v.number == n) e (new_path (before ++ v ∷ []) ws n w all.1)
  where
    by : (b : Bool) → cond b (Some v) (of_number ws n) ≡ Some w → (of_number ws n ≡ Some w → (is_path w.path ≡ true) × (has_path (before ++ v ∷ []) w.path ≡ false))
        → (is_path w.path ≡ true) × (has_path before w.path ≡ false)
    by true e rest = subst (λ u. (is_path u.path ≡ true) × (has_path before u.path ≡ false)) (ap (from_some v) e) (all.0.path, all.0.new)
    by false e rest = ((rest e).0, (either_false (has_path before w.path) (has_path (v ∷ []) w.path) (sym (has_more before (v ∷ []) w.path) ∙ (rest e).1)).0)

unlike : (v : Window) (path : List ℕ) → has_path (v ∷ []) path ≡ false → same_text path v.path ≡ false
unlike v path h = by (same_text path v.path) h
  where
    by : (b : Bool) → is_some (cond b (Some v) None) ≡ false → b ≡ false
    by false h = refl
    by true h = absurd (true≢false h)

-- a window has its path alone
pub own_path : (before ws : List Window) (n : ℕ) (w : Window) → AllFollow before ws → of_number ws n ≡ Some w → of_path ws w.path ≡ Some w
own_path before [] n w all e = absurd (some_is_none (sym e))
own_path before (v ∷ ws) n w all e = by (v.number == n) e (own_path (before ++ v ∷ []) ws n w all.1)
  where
    by : (b : Bool) → cond b (Some v) (of_number ws n) ≡ Some w → (of_number ws n ≡ Some w → of_path ws w.path ≡ Some w) → of_path (v ∷ ws) w.path ≡ Some w
    by true e rest = subst (λ u. of_path (v ∷ ws) u.path ≡ Some u) (ap (from_some v) e) (ap (λ b. cond b (Some v) (of_path ws v.path)) ((bytes_decides v.path v.path).1 refl))
    by false e rest =
        let new = (new_path (before ++ v ∷ []) ws n w all.1 e).1 in
        let other = unlike v w.path (either_false (has_path before w.path) (has_path (v ∷ []) w.path) (sym (has_more before (v ∷ []) w.path) ∙ new)).1 in
        ap (λ b. cond b (Some v) (of_path ws w.path)) other ∙ rest e

-- ---- those that stay

-- what is found, and stays, is found among those that stay
found_left : (test keep : Window → Bool) (ws : List Window) (w : Window) → find test ws ≡ Some w → keep w ≡ true → find test (filter keep ws) ≡ Some w
found_left test keep [] w e k = e
found_left test keep (v ∷ ws) w e k = by (test v) refl e (found_left test keep ws w)
  where
    by : (b : Bool) → test v ≡ b → cond b (Some v) (find test ws) ≡ Some w → (find test ws ≡ Some w → keep w ≡ true → find test (filter keep ws) ≡ Some w)
        → find test (cond (keep v) (v ∷ filter keep ws) (filter keep ws)) ≡ Some w
    by true s e rest =
        ap (λ b. find test (cond b (v ∷ filter keep ws) (filter keep ws))) (ap keep (ap (from_some v) e) ∙ k)
        ∙ ap (λ b. cond b (Some v) (find test (filter keep ws))) s ∙ e
    by false s e rest = at (keep v)
      where
        at : (b : Bool) → find test (cond b (v ∷ filter keep ws) (filter keep ws)) ≡ Some w
        at true = ap (λ b. cond b (Some v) (find test (filter keep ws))) s ∙ rest e k
        at false = rest e k

-- what is found by its number among those that stay was there
left_there : (keep : Window → Bool) (low : ℕ) (ws : List Window) (high n : ℕ) (w : Window) → Rise low ws high → of_number (filter keep ws) n ≡ Some w
    → (of_number ws n ≡ Some w) × (keep w ≡ true)
left_there keep low [] high n w r e = absurd (some_is_none (sym e))
left_there keep low (v ∷ ws) high n w r e = by (keep v) refl e (left_there keep (v.number + 1) ws high n w r.1)
  where
    behind : (of_number ws n ≡ Some w) × (keep w ≡ true) → (of_number (v ∷ ws) n ≡ Some w) × (keep w ≡ true)
    behind rest = (ap (λ b. cond b (Some v) (of_number ws n)) (differs v ws high n w r.1 rest.0) ∙ rest.0, rest.1)

    by : (b : Bool) → keep v ≡ b → of_number (cond b (v ∷ filter keep ws) (filter keep ws)) n ≡ Some w
        → (of_number (filter keep ws) n ≡ Some w → (of_number ws n ≡ Some w) × (keep w ≡ true)) → (of_number (v ∷ ws) n ≡ Some w) × (keep w ≡ true)
    by false k e rest = behind (rest e)
    by true k e rest = at (v.number == n) refl e
      where
        at : (b : Bool) → (v.number == n) ≡ b → cond b (Some v) (of_number (filter keep ws) n) ≡ Some w → (of_number (v ∷ ws) n ≡ Some w) × (keep w ≡ true)
        at true s e = (ap (λ b. cond b (Some v) (of_number ws n)) s ∙ e, ap keep (sym (ap (from_some v) e)) ∙ k)
        at false s e = behind (rest e)

-- ---- a window that stands in another

record Child (ws : List Window) (number container : ℕ) : Type 0 where
  window : Window
  parent_path : List ℕ
  in_window : Window
  is_it : of_number ws number ≡ Some window
  path : parent_of window.path ≡ Some parent_path
  there : of_path ws parent_path ≡ Some in_window
  is_container : in_window.number ≡ container

child_at : (t : Windows) (number container : ℕ) → parent t number ≡ Some container → Child t.windows number container
child_at t number container e = by (of_number t.windows number) refl e
  where
    by : (o : Option Window) → of_number t.windows number ≡ o → on_window o None (λ w. number_at t.windows (parent_of w.path)) ≡ Some container → Child t.windows number container
    by None is e = absurd (some_is_none (sym e))
    by (Some w) is e = at (parent_of w.path) refl e
      where
        at : (o : Option (List ℕ)) → parent_of w.path ≡ o → number_at t.windows o ≡ Some container → Child t.windows number container
        at None path e = absurd (some_is_none (sym e))
        at (Some p) path e = last (of_path t.windows p) refl e
          where
            last : (o : Option Window) → of_path t.windows p ≡ o → option_map (λ v. v.number) o ≡ Some container → Child t.windows number container
            last None there e = absurd (some_is_none (sym e))
            last (Some v) there e = record { window = w; parent_path = p; in_window = v; is_it = is; path = path; there = there; is_container = ap (from_some 0) e }

has_parent : (t : Windows) (number container : ℕ) → Child t.windows number container → parent t number ≡ Some container
has_parent t number container c =
    ap (λ o. on_window o None (λ w. number_at t.windows (parent_of w.path))) c.is_it
    ∙ ap (number_at t.windows) c.path ∙ ap (option_map (λ v. v.number)) c.there ∙ ap Some c.is_container

-- ---- a window more

module _ (more : List Window) where
  still_found : (test : Window → Bool) (ws : List Window) (w : Window) → find test ws ≡ Some w → find test (ws ++ more) ≡ Some w
  still_found test [] w e = absurd (some_is_none (sym e))
  still_found test (v ∷ ws) w e = by (test v) e (still_found test ws w)
    where
      by : (b : Bool) → cond b (Some v) (find test ws) ≡ Some w → (find test ws ≡ Some w → find test (ws ++ more) ≡ Some w) → cond b (Some v) (find test (ws ++ more)) ≡ Some w
      by true e rest = e
      by false e rest = rest e

  child_still : (ws : List Window) (number container : ℕ) → Child ws number container → Child (ws ++ more) number container
  child_still ws number container c = record {
    window = c.window;
    parent_path = c.parent_path;
    in_window = c.in_window;
    is_it = still_found (λ w. w.number == number) ws c.window c.is_it;
    path = c.path;
    there = still_found (λ w. same_text c.parent_path w.path) ws c.in_window c.there;
    is_container = c.is_container;
  }

-- what holds of the windows behind one that was made
pub record Made (t u : Windows) : Type 0 where
  pub well : WellFormed u
  -- a window stands where it stood
  pub stands : (number container : ℕ) → parent t number ≡ Some container → parent u number ≡ Some container

abbrev WhenMade : Windows → Result (ℕ × Windows) Refusal → Type 0
WhenMade t (Ok x) = Made t x.1
WhenMade t (Err why) = Unit {0}

when_made : (t : Windows) (path : List ℕ) (class : Class) → WellFormed t → is_widget_class class ≡ true → WhenMade t (created t path class)
when_made t path class w widget = by (free_path t.windows path) refl
  where
    with_number : (b : Bool) → nat_lt t.next max_number ≡ b → Free t.windows path → WhenMade t (if b then Ok (t.next, with_window t path class) else Err OutOfNumbers)
    with_number true e f = record {
      well = well_with t path class w f.is_one f.new f.found (ltb-true _ _ e) widget;
      stands = λ number container h. has_parent (with_window t path class) number container (child_still _ t.windows number container (child_at t number container h));
    }
    with_number false e f = tt

    by : (r : Result (Unit {0}) Refusal) → free_path t.windows path ≡ r → WhenMade t (after r (λ _. numbered t path class))
    by (Ok x) e = with_number (nat_lt t.next max_number) refl (free t.windows path e)
    by (Err why) e = tt

pub made_so : (t u : Windows) (path : List ℕ) (number : ℕ) (class : Class) → WellFormed t → is_widget_class class ≡ true → created t path class ≡ Ok (number, u) → Made t u
made_so t u path number class w widget e = subst (WhenMade t) e (when_made t path class w widget)

-- ---- a window less

module _ (t : Windows) (w : WellFormed t) (d : Window) (gone : ℕ) (is : of_number t.windows gone ≡ Some d) where
  abbrev left : List Window
  left = filter (stays d.path) t.windows

  some_of : {X : Type 0} (o : Option X) → is_some o ≡ true → (x : X) × (o ≡ Some x)
  some_of None h = absurd (true≢false (sym h))
  some_of (Some x) h = (x, refl)

  -- a container that is left stays
  container_stays : (number container : ℕ) (c : Child t.windows number container) → is_some (of_number left container) ≡ true → stays d.path c.in_window ≡ true
  container_stays number container c h =
      let x = some_of (of_number left container) h in
      let there = left_there (stays d.path) 0 t.windows t.next container x.0 w.numbered x.1 in
      let own = own_number (λ v. same_text c.parent_path v.path) 0 t.windows t.next c.in_window w.numbered c.there in
      ap (stays d.path) (ap (from_some c.in_window) (sym own ∙ ap (of_number t.windows) c.is_container ∙ there.0)) ∙ there.1

  -- so does what stands in it, unless it was destroyed itself
  content_stays : (number container : ℕ) (c : Child t.windows number container) → stays d.path c.in_window ≡ true → (number == gone) ≡ false → stays d.path c.window ≡ true
  content_stays number container c h other = by (is_within d.path c.window.path) refl
    where
      passes : (test : Window → Bool) (v : Window) → find test t.windows ≡ Some v → test v ≡ true
      passes test v e = found_passes test t.windows v e

      same_parent : c.parent_path ≡ c.in_window.path
      same_parent = (bytes_decides c.parent_path c.in_window.path).0 (passes (λ v. same_text c.parent_path v.path) c.in_window c.there)

      itself : d.path ≡ c.window.path → ⊥
      itself e =
          let same : d ≡ c.window = ap (from_some d) (sym (own_path [] t.windows gone d w.founded is) ∙ ap (of_path t.windows) e ∙ own_path [] t.windows number c.window w.founded c.is_it) in
          let first = eqb-true _ _ (passes (λ v. v.number == number) c.window c.is_it) in
          let second = eqb-true _ _ (passes (λ v. v.number == gone) d is) in
          true≢false (sym (eq-eqb number gone (sym first ∙ ap (λ (v : Window). v.number) (sym same) ∙ second)) ∙ other)

      deeper : is_within d.path c.parent_path ≡ true → ⊥
      deeper k = true≢false (sym h ∙ ap not (ap (is_within d.path) (sym same_parent) ∙ k))

      by : (b : Bool) → is_within d.path c.window.path ≡ b → not b ≡ true
      by false e = refl
      by true e =
          elim (within_parent d.path c.window.path c.parent_path (new_path [] t.windows gone d w.founded is).0 c.path e) [
            | inl same ↦ absurd (itself same)
            | inr up ↦ absurd (deeper up)
          ]

  child_left : (number container : ℕ) → Child t.windows number container → is_some (of_number left container) ≡ true → (number == gone) ≡ false → Child left number container
  child_left number container c h other =
      let in_stays = container_stays number container c h in
      record {
        window = c.window;
        parent_path = c.parent_path;
        in_window = c.in_window;
        is_it = found_left (λ v. v.number == number) (stays d.path) t.windows c.window c.is_it (content_stays number container c in_stays other);
        path = c.path;
        there = found_left (λ v. same_text c.parent_path v.path) (stays d.path) t.windows c.in_window c.there in_stays;
        is_container = c.is_container;
      }

  -- the first window has another path
  not_root : (gone == 0) ≡ false → same_text d.path root_path ≡ false
  not_root other = behind (subst (λ ws. of_number ws gone ≡ Some d) w.first.1 is) (subst (AllFollow []) w.first.1 w.founded)
    where
      behind : of_number (root ∷ w.first.0) gone ≡ Some d → AllFollow [] (root ∷ w.first.0) → same_text d.path root_path ≡ false
      behind e all = unlike root d.path (new_path (root ∷ []) w.first.0 gone d all.1 (sym (ap (λ b. cond b (Some root) (of_number w.first.0 gone)) (turned gone 0 other)) ∙ e)).1

-- a window of another path than that of `.` has another number
pub not_first : (t : Windows) (path : List ℕ) (v : Window) → WellFormed t → of_path t.windows path ≡ Some v → same_text path root_path ≡ false → (v.number == 0) ≡ false
not_first t path v w e other =
    let rise = subst (λ ws. Rise 0 ws t.next) w.first.1 w.numbered in
    let later = sym (ap (λ b. cond b (Some root) (of_path w.first.0 path)) other) ∙ subst (λ ws. of_path ws path ≡ Some v) w.first.1 e in
    turned 0 v.number (differs root w.first.0 t.next v.number v rise.1 (own_number (λ u. same_text path u.path) 1 w.first.0 t.next v rise.1 later))

-- what holds of the windows behind one that was destroyed
pub record Destroyed (t u : Windows) (gone : ℕ) : Type 0 where
  pub well : WellFormed u
  -- what stands in a window that is left stands where it stood, unless it was destroyed itself
  pub stands : (number container : ℕ) → parent t number ≡ Some container → is_some (of_number u.windows container) ≡ true → (number == gone) ≡ false → parent u number ≡ Some container

abbrev WhenDestroyed : Windows → ℕ → Result Windows ScriptFault → Type 0
WhenDestroyed t gone (Ok u) = Destroyed t u gone
WhenDestroyed t gone (Err fault) = Unit {0}

when_destroyed : (t : Windows) (gone : ℕ) → WellFormed t → WhenDestroyed t gone (destroyed t gone)
when_destroyed t gone w = by (gone == 0) refl
  where
    at : (o : Option Window) → of_number t.windows gone ≡ o → (gone == 0) ≡ false
        → WhenDestroyed t gone (Ok (on_window o t (λ d. record t { windows = filter (λ v. not (is_within d.path v.path)) t.windows })))
    at None is other = record { well = w; stands = λ number container h there apart. h }
    at (Some d) is other = record {
      well = well_left d.path t w (new_path [] t.windows gone d w.founded is).0 (not_root t w d gone is other);
      stands = λ number container h there apart.
          has_parent (record t { windows = filter (stays d.path) t.windows }) number container (child_left t w d gone is number container (child_at t number container h) there apart);
    }

    by : (b : Bool) → (gone == 0) ≡ b → WhenDestroyed t gone (if b then Err (record { number = NotAllowedOnRoot; subject = None }) else Ok (without t gone))
    by true e = tt
    by false e = at (of_number t.windows gone) refl e

pub destroyed_so : (t u : Windows) (gone : ℕ) → WellFormed t → destroyed t gone ≡ Ok u → Destroyed t u gone
destroyed_so t u gone w e = subst (WhenDestroyed t gone) e (when_destroyed t gone w)
