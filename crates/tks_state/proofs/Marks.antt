-- What is kept of the windows stays in step with the tree.
use Rattle.std.proofs.Common.{◌≡◌, ℕ, zero, suc, ◌+◌, ◌<◌, ◌≤◌, ◌==◌, Bool, true, false, not, cond, if◌then◌else◌, List, [], ◌∷◌, ◌++◌, Some, None, is_some, Result, Ok, Err, set, get_or, refl, sym, ap, subst, ◌∙◌, true≢false, arith}
use Rattle.std.specs.Prelude.{map, nat_lt}
use Rattle.std.specs.List.{AllByRecursion, filter}
use Rattle.std.specs.Result.{IsOk, is_ok}
use Rattle.std.proofs.lemmas.Bool.{eqb-true, eq-eqb, ne_eqb}
use Rattle.tks_text.specs.declared.class.Class.{Class}
use Rattle.tks_text.specs.declared.fault.ScriptFault.{ScriptFault}
use Rattle.tks_tree.specs.Windows as tree
use Rattle.tks_tree.specs.Windows.{Window, Windows, Refusal, of_number, free_path, numbered, created, with_window, max_number, without, destroyed}
use Rattle.tks_tree.specs.WellFormed.{Rise}
use Rattle.tks_tree.specs.Within.{is_one_of, is_in, AreThoseIn}
use Rattle.tks_tree.proofs.Leaving.{same_left, without_in}
use Rattle.tks_tree.proofs.Within.{all_so}
use Rattle.tks_text.specs.declared.fault.ErrorNumber.TheVariants.{NotAllowedOnRoot}
use Rattle.tks_state.specs.declared.kept.Kept.{Kept}
use Rattle.tks_opt.specs.Options.{after}
use Rattle.tks_state.specs.Windows as state
use Rattle.tks_state.specs.Windows.{forgotten_at, still_there}
use Rattle.tks_state.specs.WellFormed.{mark_of, window_mark, InStep}

-- ---- changes in place

pub set_marks : (ks : List Kept) (i : ℕ) (k new : Kept) → k ≡ get_or ks i k → mark_of new ≡ mark_of k → map mark_of (set ks i new) ≡ map mark_of ks
set_marks [] i k new e m = refl
set_marks (first ∷ ks) zero k new e m = ap (λ n. n ∷ map mark_of ks) (m ∙ ap mark_of e)
set_marks (first ∷ ks) (suc i) k new e m = ap (λ ns. mark_of first ∷ ns) (set_marks ks i k new e m)

-- ---- a new window

map_both : {X Y : Type 0} (f : X → Y) (xs ys : List X) → map f (xs ++ ys) ≡ map f xs ++ map f ys
map_both f [] ys = refl
map_both f (x ∷ xs) ys = ap (λ zs. f x ∷ zs) (map_both f xs ys)

-- the window that was made
abbrev pub made : Result (ℕ × Windows) Refusal → Windows → List ℕ → Class → Type 0
made (Ok x) t path class = x.1.windows ≡ t.windows ++ record { number = x.0; path = path; class = class } ∷ []
made (Err why) t path class = Unit {0}

pub created_made : (t : Windows) (path : List ℕ) (class : Class) → made (created t path class) t path class
created_made t path class = by (free_path t.windows path)
  where
    then_numbered : (b : Bool) → made (if b then Ok (t.next, with_window t path class) else Err tree.OutOfNumbers) t path class
    then_numbered true = refl
    then_numbered false = tt

    by : (r : Result (Unit {0}) Refusal) → made (tree.after r (λ _. numbered t path class)) t path class
    by (Ok x) = then_numbered (nat_lt t.next max_number)
    by (Err why) = tt

pub added : (t u : Windows) (path : List ℕ) (number : ℕ) (ks : List Kept) (k : Kept) (class : Class) → created t path class ≡ Ok (number, u) → mark_of k ≡ (number, class)
    → InStep t.windows ks → InStep u.windows (ks ++ k ∷ [])
added t u path number ks k class h m s =
    let new : u.windows ≡ t.windows ++ record { number = number; path = path; class = class } ∷ [] = subst (λ r. made r t path class) h (created_made t path class) in
    map_both mark_of ks (k ∷ [])
    ∙ (λ i. s i ++ m i ∷ [])
    ∙ sym (map_both window_mark t.windows (record { number = number; path = path; class = class } ∷ []))
    ∙ ap (map window_mark) (sym new)

-- ---- windows taken out

filter_map : {X Y : Type 0} (f : X → Y) (p : Y → Bool) (xs : List X) → map f (filter (λ x. p (f x)) xs) ≡ filter p (map f xs)
filter_map f p [] = refl
filter_map f p (x ∷ xs) = by (p (f x)) (filter_map f p xs)
  where
    by : (b : Bool) → map f (filter (λ x. p (f x)) xs) ≡ filter p (map f xs) → map f (cond b (x ∷ filter (λ x. p (f x)) xs) (filter (λ x. p (f x)) xs)) ≡ cond b (f x ∷ filter p (map f xs)) (filter p (map f xs))
    by true h = ap (λ ys. f x ∷ ys) h
    by false h = h

abbrev has : List Window → ℕ → Bool
has ws n = is_some (of_number ws n)

-- a number below those of the windows is none of theirs
has_lower : (keep : Window → Bool) (low n high : ℕ) (ws : List Window) → n < low → Rise low ws high → has (filter keep ws) n ≡ false
has_lower keep low n high [] h r = refl
has_lower keep low n high (w ∷ ws) h r = by (keep w) (has_lower keep (w.number + 1) n high ws (omega (arith, h, r.0)) r.1)
  where
    differs : (w.number == n) ≡ false
    differs = other (w.number == n) refl
      where
        other : (b : Bool) → (w.number == n) ≡ b → b ≡ false
        other true e = absurd (omega (arith, h, r.0, eqb-true _ _ e))
        other false e = refl

    by : (b : Bool) → has (filter keep ws) n ≡ false → has (cond b (w ∷ filter keep ws) (filter keep ws)) n ≡ false
    by true rest = ap (λ b. is_some (cond b (Some w) (of_number (filter keep ws) n))) differs ∙ rest
    by false rest = rest

-- one that was made before others isn't one of them
behind_same : (w : Window) (left : List Window) (low high : ℕ) (ws : List Window) → w.number < low → Rise low ws high
    → filter (λ v. has (w ∷ left) v.number) ws ≡ filter (λ v. has left v.number) ws
behind_same w left low high [] h r = refl
behind_same w left low high (v ∷ ws) h r = by (w.number == v.number) refl (behind_same w left (v.number + 1) high ws (omega (arith, h, r.0)) r.1)
  where
    by : (b : Bool) → (w.number == v.number) ≡ b → filter (λ v. has (w ∷ left) v.number) ws ≡ filter (λ v. has left v.number) ws
        → cond (is_some (cond b (Some w) (of_number left v.number))) (v ∷ filter (λ v. has (w ∷ left) v.number) ws) (filter (λ v. has (w ∷ left) v.number) ws)
        ≡ cond (has left v.number) (v ∷ filter (λ v. has left v.number) ws) (filter (λ v. has left v.number) ws)
    by true e rest = absurd (omega (arith, h, r.0, eqb-true _ _ e))
    by false e rest = ap (λ vs. cond (has left v.number) (v ∷ vs) vs) rest

-- those whose numbers are left are those that are left
those_left : (keep : Window → Bool) (low high : ℕ) (ws : List Window) → Rise low ws high → filter (λ w. has (filter keep ws) w.number) ws ≡ filter keep ws
those_left keep low high [] r = refl
those_left keep low high (w ∷ ws) r = by (keep w) (behind_same w (filter keep ws) (w.number + 1) high ws (omega arith) r.1) (those_left keep (w.number + 1) high ws r.1)
  where
    left : List Window
    left = filter keep ws

    by : (b : Bool) → filter (λ v. has (w ∷ left) v.number) ws ≡ filter (λ v. has left v.number) ws → filter (λ v. has left v.number) ws ≡ left
        → cond (has (cond b (w ∷ left) left) w.number) (w ∷ filter (λ v. has (cond b (w ∷ left) left) v.number) ws) (filter (λ v. has (cond b (w ∷ left) left) v.number) ws) ≡ cond b (w ∷ left) left
    by true same rest =
        ap (λ b. cond (is_some (cond b (Some w) (of_number left w.number))) (w ∷ filter (λ v. has (w ∷ left) v.number) ws) (filter (λ v. has (w ∷ left) v.number) ws)) (eq-eqb w.number w.number refl)
        ∙ ap (λ vs. w ∷ vs) (same ∙ rest)
    by false same rest =
        ap (λ b. cond b (w ∷ filter (λ v. has left v.number) ws) (filter (λ v. has left v.number) ws)) (has_lower keep (w.number + 1) w.number high ws (omega arith) r.1) ∙ rest

-- what destroying a window leaves
pub left_is : (t u : Windows) (number : ℕ) → destroyed t number ≡ Ok u → u ≡ without t number
left_is t u number h = by (number == 0) h
  where
    same : (a b : Windows) → ◌≡◌ {A = Result Windows ScriptFault} (Ok a) (Ok b) → b ≡ a
    same a b e = cc

    by : (b : Bool) → ◌≡◌ {A = Result Windows ScriptFault} (if b then Err (record { number = NotAllowedOnRoot; subject = None }) else Ok (without t number)) (Ok u) → u ≡ without t number
    by true e = absurd (true≢false (sym (ap (is_ok {T = Windows} {E = ScriptFault}) e)))
    by false e = same (without t number) u e

windows_left : (t u : Windows) (number : ℕ) → destroyed t number ≡ Ok u → u.windows ≡ filter (λ v. not (is_in t number v)) t.windows
windows_left t u number h = ap (λ (v : Windows). v.windows) (left_is t u number h ∙ without_in t number)

-- the same of all that is kept
pub all_left : (x : state.Windows) (u : Windows) (number : ℕ) → destroyed x.tree number ≡ Ok u
    → state.destroyed x number ≡ Ok (record { tree = u; kept = still_there u.windows (forgotten_at x.kept (tree.parent x.tree number) number) })
all_left x u number h =
    ap (λ r. after r (λ (t : Windows). Ok (state.without x number))) h
    ∙ ap (λ (t : Windows). Ok (record { tree = t; kept = still_there t.windows (forgotten_at x.kept (tree.parent x.tree number) number) })) (sym (left_is x.tree u number h))

pub left_in_step : (t u : Windows) (number : ℕ) (ks : List Kept) → Rise 0 t.windows t.next → destroyed t number ≡ Ok u → InStep t.windows ks
    → InStep u.windows (still_there u.windows ks)
left_in_step t u number ks r h s =
    let left = windows_left t u number h in
    filter_map mark_of (λ m. has u.windows m.0) ks
    ∙ ap (filter (λ m. has u.windows m.0)) s
    ∙ sym (filter_map window_mark (λ m. has u.windows m.0) t.windows)
    ∙ ap (map window_mark) (ap (λ vs. filter (λ w. has vs w.number) t.windows) left ∙ those_left (λ v. not (is_in t number v)) 0 t.next t.windows r ∙ sym left)

-- ---- by the numbers of those that go

-- of windows by their numbers, those that a test keeps are left
has_kept : (keep : Window → Bool) (low high : ℕ) (ws : List Window) → Rise low ws high → AllByRecursion (λ w. (low ≤ w.number) × (has (filter keep ws) w.number ≡ keep w)) ws
has_kept keep low high [] r = tt
has_kept keep low high (w ∷ ws) r =
    let rest = has_kept keep (w.number + 1) high ws r.1 in
    ((r.0, first (keep w)), all_so _ _ ws (λ v h. (omega (arith, h.0, r.0), later v h.0 (keep w) ∙ h.1)) rest)
  where
    first : (b : Bool) → has (cond b (w ∷ filter keep ws) (filter keep ws)) w.number ≡ b
    first true = ap (λ b. is_some (cond b (Some w) (of_number (filter keep ws) w.number))) (eq-eqb w.number w.number refl)
    first false = has_lower keep (w.number + 1) w.number high ws (omega arith) r.1

    later : (v : Window) → w.number + 1 ≤ v.number → (b : Bool) → has (cond b (w ∷ filter keep ws) (filter keep ws)) v.number ≡ has (filter keep ws) v.number
    later v above true = ap (λ b. is_some (cond b (Some w) (of_number (filter keep ws) v.number))) (ne_eqb w.number v.number (λ e. omega (arith, above, e)))
    later v above false = refl

all_mapped : {X Y : Type 0} (f : X → Y) (P : Y → Type 0) (xs : List X) → AllByRecursion (λ x. P (f x)) xs → AllByRecursion P (map f xs)
all_mapped f P [] all = tt
all_mapped f P (x ∷ xs) all = (all.0, all_mapped f P xs all.1)

of_mapped : {X Y : Type 0} (f : X → Y) (P : Y → Type 0) (xs : List X) → AllByRecursion P (map f xs) → AllByRecursion (λ x. P (f x)) xs
of_mapped f P [] all = tt
of_mapped f P (x ∷ xs) all = (all.0, of_mapped f P xs all.1)

-- what holds of the windows' numbers holds of those of what is kept
of_kept : (P : ℕ → Type 0) (ws : List Window) (ks : List Kept) → InStep ws ks → AllByRecursion (λ w. P w.number) ws → AllByRecursion (λ k. P k.window) ks
of_kept P ws ks s all = of_mapped mark_of (λ m. P m.0) ks (subst (AllByRecursion (λ m. P m.0)) (sym s) (all_mapped window_mark (λ m. P m.0) ws all))

-- what is kept of windows is left where its number isn't one of theirs that go
pub left_by_numbers : (t u : Windows) (number : ℕ) (gone : List ℕ) (ks : List Kept) → Rise 0 t.windows t.next → destroyed t number ≡ Ok u → AreThoseIn t number gone → InStep t.windows ks
    → filter (λ k. not (is_one_of k.window gone)) ks ≡ still_there u.windows ks
left_by_numbers t u number gone ks r h those s =
    same_left (λ k. not (is_one_of k.window gone)) (λ k. has u.windows k.window) ks (of_kept (λ n. not (is_one_of n gone) ≡ has u.windows n) t.windows ks s (each t.windows those (has_kept (λ v. not (is_in t number v)) 0 t.next t.windows r)))
  where
    each : (ws : List Window) → AllByRecursion (λ v. is_one_of v.number gone ≡ is_in t number v) ws
        → AllByRecursion (λ w. (0 ≤ w.number) × (has (filter (λ v. not (is_in t number v)) t.windows) w.number ≡ not (is_in t number w))) ws
        → AllByRecursion (λ w. not (is_one_of w.number gone) ≡ has u.windows w.number) ws
    each [] those kept = tt
    each (w ∷ ws) those kept =
        (ap not those.0 ∙ sym kept.0.1 ∙ ap (λ vs. has vs w.number) (sym (windows_left t u number h)), each ws those.1 kept.1)

-- what a list is behind a push that had room
pub pushed : {X E A : Type 0} (r : Result X E) (grown same : A) → IsOk r → (if is_ok r then grown else same) ≡ grown
pushed (Ok x) grown same h = refl
pushed (Err e) grown same h = absurd (true≢false (sym h))
