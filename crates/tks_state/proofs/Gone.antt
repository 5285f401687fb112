-- The bindings that go with a window are those of the paths of the windows that go.
use Rattle.std.specs.Prelude.{◌==◌}
use Rattle.std.specs.List.{AllByRecursion, filter, find}
use Rattle.std.specs.Option.{option_map}
use Rattle.std.specs.Cmp.Lexicographic.{bytes_decides}
use Rattle.std.proofs.Common.{◌≡◌, ℕ, Bool, true, false, cond, not, ◌||◌, ◌&&◌, List, [], ◌∷◌, Option, Some, None, is_some, refl, sym, ap, subst, ◌∙◌, true≢false}
use Rattle.std.proofs.lemmas.Bool.{eqb-true, eq-eqb}
use Rattle.tks_text.specs.Text.{same_text}
use Rattle.tks_bind.specs.Binding.{Content, without_tag}
use Rattle.tks_tree.specs.Path.{is_within}
use Rattle.tks_tree.specs.Windows as tree
use Rattle.tks_tree.specs.Windows.{Window, Windows, on_window, of_path, of_number, has_path}
use Rattle.tks_tree.specs.WellFormed.{WellFormed}
use Rattle.tks_tree.specs.Within.{is_one_of, is_in, AreThoseIn}
use Rattle.tks_tree.proofs.Indexed.{by_path}
use Rattle.tks_tree.proofs.Leaving.{none_gone, twice}
use Rattle.tks_tree.proofs.Parents.{own_path}
use Rattle.tks_tree.proofs.Removals.{found_passes, has_left}
use Rattle.tks_tree.proofs.Trees.{from_some}
use Rattle.tks_state.specs.Events.{is_gone, held, without_those_of_all}

-- ---- the windows of some numbers

-- whether a tag is the path of a window of one of these numbers
abbrev goes : List Window → List ℕ → List ℕ → Bool
goes windows [] tag = false
goes windows (n ∷ ns) tag = on_window (of_number windows n) false (λ w. same_text tag w.path) || goes windows ns tag

all_go : (windows : List Window) (ns : List ℕ) (c : Content) → without_those_of_all windows ns c ≡ record c { bindings = filter (λ b. not (goes windows ns b.tag)) c.bindings }
all_go windows [] c = ap (λ bs. record c { bindings = bs }) (sym (none_gone c.bindings))
all_go windows (n ∷ ns) c = by (of_number windows n) (all_go windows ns)
  where
    by : (o : Option Window) → ((d : Content) → without_those_of_all windows ns d ≡ record d { bindings = filter (λ b. not (goes windows ns b.tag)) d.bindings })
        → without_those_of_all windows ns (on_window o c (λ w. without_tag w.path c)) ≡ record c { bindings = filter (λ b. not (on_window o false (λ w. same_text b.tag w.path) || goes windows ns b.tag)) c.bindings }
    by None rest = rest c
    by (Some w) rest = rest (without_tag w.path c) ∙ ap (λ bs. record c { bindings = bs }) (twice (λ b. goes windows ns b.tag) (λ b. same_text b.tag w.path) c.bindings)

both_ways : (a b : Bool) → (a ≡ true → b ≡ true) → (b ≡ true → a ≡ true) → a ≡ b
both_ways true b to from = sym (to refl)
both_ways false true to from = from refl
both_ways false false to from = refl

module _ (t : Windows) (f : WellFormed t) (tag : List ℕ) where
  -- a window of a number has this path where the window of this path has the number
  same_window : (n : ℕ) → on_window (of_number t.windows n) false (λ w. same_text tag w.path) ≡ on_window (of_path t.windows tag) false (λ v. n == v.number)
  same_window n = both_ways _ _ (to (of_number t.windows n) refl) (from (of_path t.windows tag) refl)
    where
      to : (o : Option Window) → of_number t.windows n ≡ o → on_window o false (λ w. same_text tag w.path) ≡ true → on_window (of_path t.windows tag) false (λ v. n == v.number) ≡ true
      to None e h = absurd (true≢false (sym h))
      to (Some w) e h =
          let named : tag ≡ w.path = (bytes_decides tag w.path).0 h in
          let number : w.number ≡ n = eqb-true w.number n (found_passes (λ u. u.number == n) t.windows w e) in
          ap (λ o. on_window o false (λ v. n == v.number)) (ap (of_path t.windows) named ∙ own_path [] t.windows n w f.founded e) ∙ eq-eqb n w.number (sym number)

      from : (o : Option Window) → of_path t.windows tag ≡ o → on_window o false (λ v. n == v.number) ≡ true → on_window (of_number t.windows n) false (λ w. same_text tag w.path) ≡ true
      from None e h = absurd (true≢false (sym h))
      from (Some v) e h =
          let number : n ≡ v.number = eqb-true n v.number h in
          let own = by_path t.windows t.next v.number tag f.numbered (sym (ap (option_map (λ (w : Window). w.number)) e)) in
          ap (λ o. on_window o false (λ w. same_text tag w.path)) (ap (of_number t.windows) number ∙ own ∙ e) ∙ found_passes (λ u. same_text tag u.path) t.windows v e

  -- a tag is the path of a window of one of some numbers where that of its window is one of them
  goes_there : (ns : List ℕ) → goes t.windows ns tag ≡ on_window (of_path t.windows tag) false (λ v. is_one_of v.number ns)
  goes_there [] = none (of_path t.windows tag)
    where
      none : (o : Option Window) → false ≡ on_window o false (λ v. false)
      none None = refl
      none (Some v) = refl
  goes_there (n ∷ ns) = (λ i. same_window n i || goes_there ns i) ∙ one (of_path t.windows tag)
    where
      one : (o : Option Window) → (on_window o false (λ v. n == v.number) || on_window o false (λ v. is_one_of v.number ns)) ≡ on_window o false (λ v. is_one_of v.number (n ∷ ns))
      one None = refl
      one (Some v) = refl

-- ---- those of a window that goes

-- the windows that are left where one goes
abbrev left : Windows → ℕ → List Window
left t number = (tree.without t number).windows

-- what holds of all holds of the one that is found
found_so : (P : Window → Type 0) (test : Window → Bool) (ws : List Window) (v : Window) → AllByRecursion P ws → find test ws ≡ Some v → P v
found_so P test [] v all e = absurd (true≢false (sym (ap is_some e)))
found_so P test (w ∷ ws) v all e = by (test w) e (found_so P test ws v all.1)
  where
    by : (b : Bool) → cond b (Some w) (find test ws) ≡ Some v → (find test ws ≡ Some v → P v) → P v
    by true e rest = subst P (ap (from_some w) e) all.0
    by false e rest = rest e

-- a window's path is left where it isn't in the one that goes
path_left : (t : Windows) (number : ℕ) (tag : List ℕ) (v : Window) → of_path t.windows tag ≡ Some v → has_path (left t number) tag ≡ not (is_in t number v)
path_left t number tag v e = by (of_number t.windows number)
  where
    named : tag ≡ v.path
    named = (bytes_decides tag v.path).0 (found_passes (λ u. same_text tag u.path) t.windows v e)

    by : (o : Option Window) → has_path (on_window o t (λ w. record t { windows = filter (λ u. not (is_within w.path u.path)) t.windows })).windows tag ≡ not (on_window o false (λ w. is_within w.path v.path))
    by None = ap is_some e
    by (Some w) = has_left w.path t.windows tag ∙ ap (λ o. is_some o && not (is_within w.path tag)) e ∙ ap (λ p. not (is_within w.path p)) named

module _ (t : Windows) (f : WellFormed t) (number : ℕ) (ns : List ℕ) (those : AreThoseIn t number ns) where
  goes_gone : (tag : List ℕ) → goes t.windows ns tag ≡ is_gone t.windows (left t number) tag
  goes_gone tag = goes_there t f tag ns ∙ by (of_path t.windows tag) refl
    where
      by : (o : Option Window) → of_path t.windows tag ≡ o → on_window o false (λ v. is_one_of v.number ns) ≡ (is_some o && not (has_path (left t number) tag))
      by None e = refl
      by (Some v) e =
          found_so (λ w. is_one_of w.number ns ≡ is_in t number w) (λ u. same_text tag u.path) t.windows v those e ∙ back (is_in t number v)
          ∙ ap not (sym (path_left t number tag v e))
        where
          back : (b : Bool) → b ≡ not (not b)
          back true = refl
          back false = refl

  -- the bindings of the windows that go are those of windows that are gone
  pub held_left : (c : Content) → without_those_of_all t.windows ns c ≡ held t.windows (left t number) c
  held_left c = all_go t.windows ns c ∙ (λ i. record c { bindings = filter (λ b. not (goes_gone b.tag i)) c.bindings })
