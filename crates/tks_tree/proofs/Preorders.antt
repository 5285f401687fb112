-- The preorder, taken a window at a time.
use Rattle.std.proofs.Common.{◌≡◌, ℕ, ◌+◌, ◌≤◌, Bool, true, false, cond, ◌||◌, List, [], ◌∷◌, ◌++◌, Option, Some, None, refl, sym, ap, subst, ◌∙◌, true≢false, append_assoc, arith, if◌then◌else◌}
use Rattle.std.specs.Prelude.{◌==◌}
use Rattle.std.specs.List.{filter, flat_map}
use Rattle.std.specs.Cmp.Lexicographic.{bytes_decides}
use Rattle.std.proofs.lemmas.List.{append-nil, map-append}
use Rattle.std.proofs.lemmas.Bool.{eqb-true, eq-eqb}
use Rattle.tks_text.specs.Text.{same_text}
use Rattle.tks_tree.specs.Path.{parent_of, is_text, is_child}
use Rattle.tks_tree.specs.Windows.{Window, Windows, on_window, of_number, has_path, numbers, children, inside, preorder}
use Rattle.tks_tree.specs.WellFormed.{Rise, StandsIn, Follows, AllFollow, WellFormed}
use Rattle.tks_tree.specs.Laws.{below, from_window, GoesDown}
use Rattle.tks_tree.proofs.Trees.{has_more}

-- no window stands in one whose path none before it has
not_child : (before : List Window) (u : Window) (path : List ℕ) → Follows before u → has_path before path ≡ false → is_child path u.path ≡ false
not_child before u path f new = by (parent_of u.path) f.parent
  where
    by : (o : Option (List ℕ)) → StandsIn o before → is_text path o ≡ false
    by None s = refl
    by (Some parent) s = at (same_text path parent) refl
      where
        at : (b : Bool) → same_text path parent ≡ b → b ≡ false
        at false e = refl
        at true e = absurd (true≢false (sym s ∙ sym (ap (has_path before) ((bytes_decides path parent).0 e)) ∙ new))

either_false : (a b : Bool) → (a || b) ≡ false → a ≡ false
either_false false b h = refl
either_false true b h = h

-- a window's path is new behind all that are before it
is_new : (before front : List Window) (v : Window) (later : List Window) → AllFollow before (front ++ v ∷ later) → has_path (before ++ front) v.path ≡ false
is_new before [] v later all = subst (λ b. has_path b v.path ≡ false) (sym (append-nil before)) all.0.new
is_new before (u ∷ front) v later all = subst (λ b. has_path b v.path ≡ false) (append_assoc before (u ∷ []) front) (is_new (before ++ u ∷ []) front v later all.1)

-- those in a window were made later
pub made_later : (before front : List Window) (v : Window) (later : List Window) → AllFollow before (front ++ v ∷ later) → inside v.path (front ++ v ∷ later) ≡ inside v.path later
made_later before [] v later all = ap (λ (b : Bool). if b then v ∷ (inside v.path later ++ inside v.path later) else inside v.path later) (not_child before v v.path all.0 all.0.new)
made_later before (u ∷ front) v later all =
    let new = either_false (has_path before v.path) (has_path (u ∷ front) v.path) (sym (has_more before (u ∷ front) v.path) ∙ is_new before (u ∷ front) v later all) in
    ap (λ (b : Bool). if b then u ∷ (inside u.path (front ++ v ∷ later) ++ inside v.path (front ++ v ∷ later)) else inside v.path (front ++ v ∷ later)) (not_child before u v.path all.0 new)
    ∙ made_later (before ++ u ∷ []) front v later all.1

-- numbers behind are not below
at_least : (low : ℕ) (front : List Window) (v : Window) (later : List Window) (high : ℕ) → Rise low (front ++ v ∷ later) high → low ≤ v.number
at_least low [] v later high r = r.0
at_least low (u ∷ front) v later high r = omega (arith, r.0, at_least (u.number + 1) front v later high r.1)

other_number : (m n : ℕ) → m + 1 ≤ n → (m == n) ≡ false
other_number m n h = by (m == n) refl
  where
    by : (b : Bool) → (m == n) ≡ b → b ≡ false
    by false e = refl
    by true e = absurd (omega (arith, h, eqb-true m n e))

-- a window is found by its number
pub its_own : (low : ℕ) (front : List Window) (v : Window) (later : List Window) (high : ℕ) → Rise low (front ++ v ∷ later) high → of_number (front ++ v ∷ later) v.number ≡ Some v
its_own low [] v later high r = ap (λ b. cond b (Some v) (of_number later v.number)) (eq-eqb v.number v.number refl)
its_own low (u ∷ front) v later high r =
    ap (λ b. cond b (Some u) (of_number (front ++ v ∷ later) v.number)) (other_number u.number v.number (at_least (u.number + 1) front v later high r.1))
    ∙ its_own (u.number + 1) front v later high r.1

module _ (t : Windows) (w : WellFormed t) where
  child_below : (front : List Window) (v : Window) (later : List Window) → t.windows ≡ front ++ v ∷ later → below t.windows v.number ≡ numbers (inside v.path later)
  child_below front v later is =
      subst (λ ws. below ws v.number ≡ numbers (inside v.path later)) (sym is)
      (ap (λ o. on_window o [] (λ u. numbers (inside u.path (front ++ v ∷ later)))) (its_own 0 front v later t.next (subst (λ ws. Rise 0 ws t.next) is w.numbered))
      ∙ ap numbers (made_later [] front v later (subst (AllFollow []) is w.founded)))

  children_below : (front ws : List Window) (path : List ℕ) → t.windows ≡ front ++ ws → numbers (inside path ws) ≡ flat_map (from_window t.windows) (numbers (filter (λ v. is_child path v.path) ws))
  children_below front [] path is = refl
  children_below front (v ∷ later) path is =
      by (is_child path v.path) (children_below (front ++ v ∷ []) later path (is ∙ sym (append_assoc front (v ∷ []) later)))
    where
      by : (b : Bool) → numbers (inside path later) ≡ flat_map (from_window t.windows) (numbers (filter (λ u. is_child path u.path) later))
          → numbers (if b then v ∷ (inside v.path later ++ inside path later) else inside path later)
          ≡ flat_map (from_window t.windows) (numbers (cond b (v ∷ filter (λ u. is_child path u.path) later) (filter (λ u. is_child path u.path) later)))
      by false ih = ih
      by true ih =
          ap (λ ns. v.number ∷ ns) (map-append (λ (u : Window). u.number) (inside v.path later) (inside path later)
          ∙ (λ i. (sym (child_below front v later is) i) ++ (ih i)))

  -- those in a window are its children, each with those in it
  pub below_children : (n : ℕ) → below t.windows n ≡ flat_map (from_window t.windows) (children t n)
  below_children n = by (of_number t.windows n)
    where
      by : (o : Option Window) → on_window o [] (λ u. numbers (inside u.path t.windows))
          ≡ flat_map (from_window t.windows) (on_window o [] (λ u. numbers (filter (λ v. is_child u.path v.path) t.windows)))
      by None = refl
      by (Some u) = children_below [] t.windows u.path refl

  -- all of them are `.` and those in it
  pub from_root : preorder t ≡ from_window t.windows 0
  from_root = subst (λ ws. preorder (record t { windows = ws }) ≡ from_window ws 0) (sym w.first.1) refl

pub goes_down : (t : Windows) → WellFormed t → GoesDown t
goes_down t w = record { from_root = from_root t w; by_children = below_children t w }
