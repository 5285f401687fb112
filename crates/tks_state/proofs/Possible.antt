-- Worlds that stand are possible ones.
use Rattle.std.proofs.Common.{◌≡◌, ℕ, true, false, map, List, [], ◌∷◌, length, Some, refl, ap}
use Rattle.std.specs.Prelude.{◌==◌, ◌^◌, nat_le, nat_lt}
use Rattle.std.specs.List.{AllByRecursion, IsDistinct, list_all}
use Rattle.std.proofs.lemmas.Bool.{and_from, eq-eqb, le-leb, lt-ltb}
use Rattle.tks_text.specs.declared.class.Class.{Class}
use Rattle.tks_bind.specs.History.{max_history}
use Rattle.tks_opt.specs.Numbers.{class_number}
use Rattle.tks_tree.specs.Windows as tree
use Rattle.tks_state.specs.Events.{max_faults}
use Rattle.tks_state.specs.Restoring.{is_kept_of, are_in_step, is_among, are_distinct, is_number, packs_children, are_windows, counts_fit, is_possible}
use Rattle.tks_state.specs.WellFormed.{WellFormed, AllPackChildren, InStep, packed_windows, mark_of, window_mark}
use Rattle.tks_state.specs.Widget.{class_of}
use Rattle.tks_state.specs.EventLoop.{all_in}
use Rattle.tks_state.specs.World.{World, windows_of, loop_of}
use Rattle.tks_state.specs.declared.kept.Kept.{Kept}

first_or : {X : Type 0} → X → List X → X
first_or d [] = d
first_or d (x ∷ xs) = x

behind : {X : Type 0} → List X → List X
behind [] = []
behind (x ∷ xs) = xs

same_first : {X : Type 0} (x y : X) (xs ys : List X) → x ∷ xs ≡ y ∷ ys → x ≡ y
unfolding first_or
same_first x y xs ys e = ap (first_or x) e

same_behind : {X : Type 0} (x y : X) (xs ys : List X) → x ∷ xs ≡ y ∷ ys → xs ≡ ys
unfolding behind
same_behind x y xs ys e = ap behind e

kept_of_its_window : (w : tree.Window) (k : Kept) → mark_of k ≡ window_mark w → is_kept_of w k ≡ true
kept_of_its_window w k e =
    let number : k.window ≡ w.number = ap (λ (m : ℕ × Class). m.0) e in
    let class : class_of k.widget ≡ w.class = ap (λ (m : ℕ × Class). m.1) e in
    rw (number, class, eq-eqb w.number w.number refl, eq-eqb (class_number w.class) (class_number w.class) refl) refl

in_step : (ws : List tree.Window) (ks : List Kept) → InStep ws ks → are_in_step ws ks ≡ true
in_step [] [] h = refl
in_step [] (k ∷ ks) h = absurd cc
in_step (w ∷ ws) [] h = absurd cc
in_step (w ∷ ws) (k ∷ ks) h =
    let marks = map mark_of ks in
    let others = map window_mark ws in
    rw (kept_of_its_window w k (same_first (mark_of k) (window_mark w) marks others h), in_step ws ks (same_behind (mark_of k) (window_mark w) marks others h)) refl

not_among : (n : ℕ) (ms : List ℕ) → AllByRecursion (λ m. (n == m) ≡ false) ms → is_among n ms ≡ false
not_among n [] h = refl
not_among n (m ∷ ms) h = rw (h.0, not_among n ms h.1) refl

distinct : (ns : List ℕ) → IsDistinct ◌==◌ ns → are_distinct ns ≡ true
unfolding IsDistinct
distinct [] h = refl
distinct (n ∷ ns) h = rw (not_among n ns h.0, distinct ns h.1) refl

children : (t : tree.Windows) (n : ℕ) (ms : List ℕ) → AllByRecursion (λ m. tree.parent t m ≡ Some n) ms → list_all (λ m. is_number n (tree.parent t m)) ms ≡ true
children t n [] h = refl
children t n (m ∷ ms) h = rw (h.0, eq-eqb n n refl, children t n ms h.1) refl

packs : (t : tree.Windows) (ks : List Kept) → AllPackChildren t ks → list_all (packs_children t) ks ≡ true
packs t [] h = refl
packs t (k ∷ ks) h = rw (distinct (packed_windows k) h.0.distinct, children t k.window (packed_windows k) h.0.children, packs t ks h.1) refl

pub possible : (w : World) → WellFormed w → is_possible w ≡ true
unfolding is_possible
possible w h =
    let counted : nat_le w.accepted (2 ^ 62) ≡ true = le-leb w.accepted (2 ^ 62) h.counted in
    let clock : nat_lt w.clock (2 ^ 62) ≡ true = lt-ltb w.clock (2 ^ 62) h.event_loop.clock in
    let step = in_step w.tree.windows w.kept h.windows.in_step in
    let each = packs w.tree w.kept h.windows.packs in
    let remembered : nat_le (length w.history) max_history ≡ true = le-leb (length w.history) max_history h.events.history in
    let faults : nat_le (length w.faults) max_faults ≡ true = le-leb (length w.faults) max_faults h.events.faults in
    let rests : (length w.variables.locals == 0) ≡ true = eq-eqb (length w.variables.locals) 0 (ap length h.rests) in
    and_from (counts_fit w.accepted w.clock) _ (and_from (nat_le w.accepted (2 ^ 62)) (nat_lt w.clock (2 ^ 62)) counted clock)
    (and_from (length w.variables.locals == 0) _ rests
    (and_from (are_windows (windows_of w)) _ (and_from (are_in_step w.tree.windows w.kept) (list_all (packs_children w.tree) w.kept) step each)
    (and_from (nat_le (length w.history) max_history) _ remembered (and_from (nat_le (length w.faults) max_faults) (all_in w.tree.windows (loop_of w)) faults h.there))))
