-- A window was made before those that stand in it.
use Rattle.std.proofs.Common.{◌≡◌, ℕ, ◌+◌, ◌<◌, ◌≤◌, Bool, true, false, cond, List, [], ◌∷◌, ◌++◌, Option, Some, None, is_some, refl, sym, ap, subst, ◌∙◌, append_assoc, arith}
use Rattle.std.specs.Prelude.{◌==◌}
use Rattle.std.specs.Option.{option_map, option_or}
use Rattle.std.proofs.lemmas.List.Folds.{find-append}
use Rattle.std.proofs.lemmas.Bool.{eqb-true}
use Rattle.tks_text.specs.Text.{same_text}
use Rattle.tks_tree.specs.Path.{parent_of}
use Rattle.tks_tree.specs.Windows.{Window, Windows, on_window, of_path, of_number, number_at, parent}
use Rattle.tks_tree.specs.WellFormed.{Rise, StandsIn, Follows, AllFollow, WellFormed}
use Rattle.tks_tree.proofs.Trees.{some_is_none}

-- the numbers of those that are found by a path are below one
abbrev Below : ℕ → List Window → Type 0
Below low ws = (path : List ℕ) (v : Window) → of_path ws path ≡ Some v → v.number < low

some_same : {X : Type 0} {x y : X} → Some x ≡ Some y → x ≡ y
some_same {x = x} e = ap (λ o. elim o as (λ _. _) [ None ↦ x | Some z ↦ z ]) e

-- what is found in a first part, and else in a second one
found_first : (ws vs : List Window) (path : List ℕ) (v : Window) → of_path ws path ≡ Some v → of_path (ws ++ vs) path ≡ Some v
found_first ws vs path v e = find-append (λ w. same_text path w.path) ws vs ∙ ap (λ o. option_or o (of_path vs path)) e

one_more : (low : ℕ) (ws : List Window) (w : Window) → Below low ws → low ≤ w.number → Below (w.number + 1) (ws ++ w ∷ [])
one_more low ws w below le path v e = by (of_path ws path) refl
  where
    last : (b : Bool) → cond b (Some w) None ≡ Some v → v.number < w.number + 1
    last true h = subst (λ x. x.number < w.number + 1) (some_same h) (omega arith)
    last false h = absurd (some_is_none (sym h))

    by : (o : Option Window) → of_path ws path ≡ o → v.number < w.number + 1
    by (Some u) h = let same : u ≡ v = some_same (sym (found_first ws (w ∷ []) path u h) ∙ e) in omega (arith, le, below path v (h ∙ ap Some same))
    by None h = last (same_text path w.path) (sym (find-append (λ x. same_text path x.path) ws (w ∷ []) ∙ ap (λ o. option_or o (of_path (w ∷ []) path)) h) ∙ e)

-- the parent of a window that follows others is one of these
parent_below : (before later : List Window) (w : Window) (low m : ℕ) → Follows before w → Below low before → number_at (before ++ later) (parent_of w.path) ≡ Some m → m < low
parent_below before later w low m f below e = by (parent_of w.path) f.parent e
  where
    at : (path : List ℕ) (o : Option Window) → of_path before path ≡ o → is_some o ≡ true → option_map (λ v. v.number) (of_path (before ++ later) path) ≡ Some m → m < low
    at path None h s k = absurd cc
    at path (Some v) h s k =
        let found : option_map (λ x. x.number) (of_path (before ++ later) path) ≡ Some v.number = ap (option_map (λ x. x.number)) (found_first before later path v h) in
        subst (λ x. x < low) (some_same (sym found ∙ k)) (below path v h)

    by : (o : Option (List ℕ)) → StandsIn o before → number_at (before ++ later) o ≡ Some m → m < low
    by None s k = absurd (some_is_none (sym k))
    by (Some path) s k = at path (of_path before path) refl s k

earlier_at : (before ws : List Window) (low high n m : ℕ) (w : Window) → AllFollow before ws → Rise low ws high → Below low before → of_number ws n ≡ Some w
    → number_at (before ++ ws) (parent_of w.path) ≡ Some m → m < n
earlier_at before [] low high n m w all r below e k = absurd (some_is_none (sym e))
earlier_at before (x ∷ later) low high n m w all r below e k =
    by (x.number == n) refl e
    (λ s. earlier_at (before ++ x ∷ []) later (x.number + 1) high n m w all.1 r.1 (one_more low before x below r.0) s
    (subst (λ ws. number_at ws (parent_of w.path) ≡ Some m) (sym (append_assoc before (x ∷ []) later)) k))
  where
    by : (b : Bool) → (x.number == n) ≡ b → cond b (Some x) (of_number later n) ≡ Some w → (of_number later n ≡ Some w → m < n) → m < n
    by true h s rest =
        let same : x ≡ w = some_same s in
        let less = parent_below before (x ∷ later) x low m all.0 below (subst (λ v. number_at (before ++ x ∷ later) (parent_of v.path) ≡ Some m) (sym same) k) in
        omega (arith, less, r.0, eqb-true x.number n h)
    by false h s rest = rest s

pub made_earlier : (t : Windows) (n container : ℕ) → WellFormed t → parent t n ≡ Some container → container < n
made_earlier t n container w e = by (of_number t.windows n) refl e
  where
    by : (o : Option Window) → of_number t.windows n ≡ o → on_window o None (λ v. number_at t.windows (parent_of v.path)) ≡ Some container → container < n
    by None h k = absurd (some_is_none (sym k))
    by (Some v) h k = earlier_at [] t.windows 0 t.next n container v w.founded w.numbered (λ path u f. absurd (some_is_none (sym f))) h k
