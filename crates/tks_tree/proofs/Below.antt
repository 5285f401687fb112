-- Numbers of windows that are there are below the next one.
use Rattle.std.proofs.Common.{◌≡◌, ℕ, ◌+◌, ◌<◌, ◌≤◌, Bool, true, false, cond, List, [], ◌∷◌, Option, Some, None, is_some, refl, ap, subst, true≢false, sym, arith}
use Rattle.std.specs.Prelude.{◌==◌}
use Rattle.std.specs.List.{find}
use Rattle.std.proofs.lemmas.Bool.{eqb-true}
use Rattle.tks_tree.specs.Windows.{Window, Windows, of_path, of_number, max_number}
use Rattle.tks_tree.specs.WellFormed.{Rise, WellFormed}
use Rattle.tks_tree.proofs.Trees.{from_some, some_is_none}
use Rattle.tks_tree.proofs.Removals.{found_passes}

rise_up : (low : ℕ) (ws : List Window) (high : ℕ) → Rise low ws high → low ≤ high
rise_up low [] high r = r
rise_up low (w ∷ ws) high r = omega (arith, r.0, rise_up (w.number + 1) ws high r.1)

found_below : (test : Window → Bool) (low : ℕ) (ws : List Window) (high : ℕ) (w : Window) → Rise low ws high → find test ws ≡ Some w → w.number < high
found_below test low [] high w r h = absurd (some_is_none (sym h))
found_below test low (v ∷ ws) high w r h = by (test v) h (found_below test (v.number + 1) ws high w r.1)
  where
    by : (b : Bool) → cond b (Some v) (find test ws) ≡ Some w → (find test ws ≡ Some w → w.number < high) → w.number < high
    by true h rest = subst (λ (u : Window). u.number < high) (ap (from_some v) h) (omega (arith, rise_up (v.number + 1) ws high r.1))
    by false h rest = rest h

-- that of the window of a path
pub path_below : (t : Windows) (path : List ℕ) (w : Window) → WellFormed t → of_path t.windows path ≡ Some w → w.number ≤ max_number
path_below t path w f h = omega (arith, f.bounded, found_below _ 0 t.windows t.next w f.numbered h)

-- one that a window has
pub there_below : (t : Windows) (number : ℕ) → WellFormed t → is_some (of_number t.windows number) ≡ true → number ≤ max_number
there_below t number f h = by (of_number t.windows number) refl h
  where
    by : (o : Option Window) → of_number t.windows number ≡ o → is_some o ≡ true → number ≤ max_number
    by None e h = absurd (true≢false (sym h))
    by (Some w) e h =
        omega (arith, f.bounded, found_below _ 0 t.windows t.next w f.numbered e, eqb-true w.number number (found_passes (λ u. u.number == number) t.windows w e))
