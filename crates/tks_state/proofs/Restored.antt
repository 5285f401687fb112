-- Two lists that are walked by one index.
use Rattle.std.proofs.Common.{◌≡◌, ℕ, zero, suc, ◌+◌, Bool, true, false, ◌&&◌, ◌||◌, not, true≢false, map, List, [], ◌∷◌, length, ◌<◌, Option, Some, None, refl, sym, ap, ◌∙◌, drop, arith}
use Rattle.std.specs.Prelude.{slice_get, ◌≢◌, ◌==◌, ◌≤◌, nat_le, if◌then◌else◌}
use Rattle.std.specs.List.{AllByRecursion, IsDistinct, list_all}
use Rattle.std.proofs.lemmas.Bool.{and_from, eqb-true, eq-eqb, le-leb}
use Rattle.tks_text.specs.declared.class.Class.{Class}
use Rattle.tks_text.specs.declared.class.Class.TheVariants as class
use Rattle.tks_opt.specs.Numbers.{class_number, class_numbered}
use Rattle.tks_tree.proofs.Trees.{first_true, second_true, some_is_none}
use Rattle.tks_bind.specs.History.{max_history}
use Rattle.tks_state.specs.Events.{Events, max_faults}
use Rattle.tks_state.specs.EventLoop.{EventLoop, all_in}
use Rattle.tks_state.specs.World.{World, windows_of, events_of, loop_of}
use Rattle.tks_state.specs.declared.restoring.WorldParts.{WorldParts}
use Rattle.tks_tree.specs.WellFormed as trees
use Rattle.tks_tree.specs.Windows as tree
use Rattle.tks_state.specs.Restoring.{kept_with, kept_of_parts, is_kept_of, are_in_step, is_among, are_distinct, is_number, packs_children, are_windows, counts_fit, is_possible, world_of, restored}
use Rattle.tks_state.specs.WellFormed.{WellFormedWindows, PacksChildren, AllPackChildren, InStep, packed_windows, mark_of, window_mark}
use Rattle.tks_state.specs.Widget.{class_of}
use Rattle.tks_state.specs.Windows.{Windows}
use Rattle.tks_state.specs.declared.kept.Kept.{Kept}
use Rattle.tks_state.specs.declared.restoring.WindowParts.{WindowParts}

or_this : {X : Type 0} → X → Option X → X
or_this d None = d
or_this d (Some x) = x

some_same : {X : Type 0} (x y : X) → Some x ≡ Some y → x ≡ y
unfolding or_this
some_same x y e = ap (or_this x) e

-- what is behind the index of both
pub in_step_at : (ws : List tree.Window) (ks : List Kept) (i : ℕ) (w : tree.Window) (k : Kept) → slice_get ws i ≡ Some w → slice_get ks i ≡ Some k
    → are_in_step (drop i ws) (drop i ks) ≡ (is_kept_of w k && are_in_step (drop (i + 1) ws) (drop (i + 1) ks))
in_step_at [] ks i w k e h = absurd cc
in_step_at (v ∷ ws) [] i w k e h = absurd cc
in_step_at (v ∷ ws) (l ∷ ks) zero w k e h = rw (some_same v w e, some_same l k h) refl
in_step_at (v ∷ ws) (l ∷ ks) (suc i) w k e h =
    let same : suc (i + 1) ≡ suc i + 1 = omega arith in
    in_step_at ws ks i w k e h ∙ ap (λ n. is_kept_of w k && are_in_step (drop n (v ∷ ws)) (drop n (l ∷ ks))) same

-- of other lengths they are not in step
pub not_in_step : (ws : List tree.Window) (ks : List Kept) → length ws ≢ length ks → are_in_step ws ks ≡ false
not_in_step [] [] n = absurd (n refl)
not_in_step [] (k ∷ ks) n = refl
not_in_step (w ∷ ws) [] n = refl
not_in_step (w ∷ ws) (k ∷ ks) n = by (is_kept_of w k) (not_in_step ws ks (λ e. n (ap (λ n. suc n) e)))
  where
    by : (b : Bool) → are_in_step ws ks ≡ false → (b && are_in_step ws ks) ≡ false
    by true e = e
    by false e = refl

-- one more window with its parts
pub kept_at : (ws : List tree.Window) (i : ℕ) (w : tree.Window) (p : WindowParts) (ps : List WindowParts) → slice_get ws i ≡ Some w
    → kept_of_parts (drop i ws) (p ∷ ps) ≡ kept_with w p ∷ kept_of_parts (drop (i + 1) ws) ps
kept_at [] i w p ps e = absurd cc
kept_at (v ∷ ws) zero w p ps e = rw (some_same v w e) refl
kept_at (v ∷ ws) (suc i) w p ps e =
    let same : suc (i + 1) ≡ suc i + 1 = omega arith in
    kept_at ws i w p ps e ∙ ap (λ n. kept_with w p ∷ kept_of_parts (drop n (v ∷ ws)) ps) same

-- no parts are left
pub none_kept : (ws : List tree.Window) → kept_of_parts ws [] ≡ []
none_kept [] = refl
none_kept (w ∷ ws) = refl

-- ---- windows that passed the tests

either_false : (a b : Bool) → (a || b) ≡ false → (a ≡ false) × (b ≡ false)
either_false true b h = absurd (true≢false h)
either_false false b h = (refl, h)

not_true : (b : Bool) → not b ≡ true → b ≡ false
not_true true h = absurd (true≢false (sym h))
not_true false h = refl

among_told : (n : ℕ) (ms : List ℕ) → is_among n ms ≡ false → AllByRecursion (λ m. (n == m) ≡ false) ms
among_told n [] h = tt
among_told n (m ∷ ms) h =
    let e = either_false (n == m) (is_among n ms) h in
    (e.0, among_told n ms e.1)

distinct_told : (ns : List ℕ) → are_distinct ns ≡ true → IsDistinct ◌==◌ ns
unfolding IsDistinct
distinct_told [] h = tt
distinct_told (n ∷ ns) h =
    (among_told n ns (not_true (is_among n ns) (first_true (not (is_among n ns)) (are_distinct ns) h)), distinct_told ns (second_true (not (is_among n ns)) (are_distinct ns) h))

number_told : (n : ℕ) (o : Option ℕ) → is_number n o ≡ true → o ≡ Some n
number_told n None h = absurd (true≢false (sym h))
number_told n (Some m) h = ap (λ k. Some k) (eqb-true m n h)

children_told : (t : tree.Windows) (n : ℕ) (ms : List ℕ) → list_all (λ m. is_number n (tree.parent t m)) ms ≡ true → AllByRecursion (λ m. tree.parent t m ≡ Some n) ms
children_told t n [] h = tt
children_told t n (m ∷ ms) h =
    let here = is_number n (tree.parent t m) in
    let others = list_all (λ m. is_number n (tree.parent t m)) ms in
    (number_told n (tree.parent t m) (first_true here others h), children_told t n ms (second_true here others h))

packs_told : (t : tree.Windows) (k : Kept) → packs_children t k ≡ true → PacksChildren t k
packs_told t k h =
    let differ = are_distinct (packed_windows k) in
    let children = list_all (λ m. is_number k.window (tree.parent t m)) (packed_windows k) in
    record {
      distinct = distinct_told (packed_windows k) (first_true differ children h);
      children = children_told t k.window (packed_windows k) (second_true differ children h);
    }

all_pack_told : (t : tree.Windows) (ks : List Kept) → list_all (packs_children t) ks ≡ true → AllPackChildren t ks
all_pack_told t [] h = tt
all_pack_told t (k ∷ ks) h =
    (packs_told t k (first_true (packs_children t k) (list_all (packs_children t) ks) h), all_pack_told t ks (second_true (packs_children t k) (list_all (packs_children t) ks) h))

-- what a number names
or_root : Option Class → Class
or_root None = class.Root
or_root (Some c) = c

class_again : (c : Class) → or_root (class_numbered (class_number c)) ≡ c
unfolding or_root
class_again class.Root = refl
class_again class.Frame = refl
class_again class.Label = refl
class_again class.Button = refl
class_again class.Checkbutton = refl
class_again class.Entry = refl
class_again class.Listbox = refl
class_again class.Text = refl

class_told : (a b : Class) → class_number a ≡ class_number b → a ≡ b
class_told a b e = sym (class_again a) ∙ ap (λ n. or_root (class_numbered n)) e ∙ class_again b

mark_told : (w : tree.Window) (k : Kept) → is_kept_of w k ≡ true → mark_of k ≡ window_mark w
mark_told w k h =
    let a = k.window == w.number in
    let b = class_number (class_of k.widget) == class_number w.class in
    ap (λ n. (n, class_of k.widget)) (eqb-true k.window w.number (first_true a b h))
    ∙ ap (λ c. (w.number, c)) (class_told (class_of k.widget) w.class (eqb-true (class_number (class_of k.widget)) (class_number w.class) (second_true a b h)))

in_step_told : (ws : List tree.Window) (ks : List Kept) → are_in_step ws ks ≡ true → InStep ws ks
in_step_told [] [] h = refl
in_step_told [] (k ∷ ks) h = absurd (true≢false (sym h))
in_step_told (w ∷ ws) [] h = absurd (true≢false (sym h))
in_step_told (w ∷ ws) (k ∷ ks) h =
    ap (λ m. m ∷ map mark_of ks) (mark_told w k (first_true (is_kept_of w k) (are_in_step ws ks) h))
    ∙ ap (λ ms. window_mark w ∷ ms) (in_step_told ws ks (second_true (is_kept_of w k) (are_in_step ws ks) h))

pub well_formed : (x : Windows) → trees.WellFormed x.tree → are_in_step x.tree.windows x.kept ≡ true → list_all (packs_children x.tree) x.kept ≡ true → WellFormedWindows x
well_formed x w step packs = record { windows = w; in_step = in_step_told x.tree.windows x.kept step; packs = all_pack_told x.tree x.kept packs }

-- ---- the world

told : {Y : Type 0} (b : Bool) (y x : Y) → (if b then Some y else None) ≡ Some x → (b ≡ true) × (y ≡ x)
told true y x h = (refl, some_same y x h)
told false y x h = absurd (some_is_none (sym h))

-- the world that is made of parts, with these windows and events
abbrev made : WorldParts → Windows → Events → World
made p x e = record (world_of p) { tree = x.tree; kept = x.kept; bindings = e.bindings; virtuals = e.virtuals; history = e.history; faults = e.faults }

pub possible : (p : WorldParts) (x : Windows) (e : Events) → counts_fit p.accepted p.clock ≡ true → length p.variables.locals ≡ 0 → all_in p.tree.windows (loop_of (world_of p)) ≡ true → length p.history ≤ max_history
    → (if are_windows (windows_of (world_of p)) then Some (windows_of (world_of p)) else None) ≡ Some x
    → (if nat_le (length p.faults) max_faults then Some (events_of (world_of p)) else None) ≡ Some e
    → Some (made p x e) ≡ restored p
unfolding is_possible
possible p x e counts none there short windows events =
    let w = world_of p in
    let a = told (are_windows (windows_of w)) (windows_of w) x windows in
    let b = told (nat_le (length p.faults) max_faults) (events_of w) e events in
    let remembered : nat_le (length w.history) max_history ≡ true = le-leb (length w.history) max_history short in
    let rests : (length w.variables.locals == 0) ≡ true = eq-eqb (length w.variables.locals) 0 none in
    let all : is_possible w ≡ true =
    and_from (counts_fit w.accepted w.clock) _ counts
    (and_from (length w.variables.locals == 0) _ rests
    (and_from (are_windows (windows_of w)) _ a.0 (and_from (nat_le (length w.history) max_history) _ remembered (and_from (nat_le (length w.faults) max_faults) _ b.0 there)))) in
    ap (λ (v : Windows). Some (made p v e)) (sym a.1) ∙ ap (λ (v : Events). Some (made p (windows_of w) v)) (sym b.1) ∙ ap (λ (t : Bool). if t then Some w else None) (sym all)

-- what is of windows that are there is of those that are made again
pub there_again : (p : WorldParts) (x : Windows) (loop : EventLoop) → all_in p.tree.windows loop ≡ true
    → (if are_windows (windows_of (world_of p)) then Some (windows_of (world_of p)) else None) ≡ Some x → all_in x.tree.windows loop ≡ true
there_again p x loop there windows =
    let a = told (are_windows (windows_of (world_of p))) (windows_of (world_of p)) x windows in
    ap (λ (v : Windows). all_in v.tree.windows loop) (sym a.1) ∙ there

-- ---- parts that no world has

no_first : (a b : Bool) → a ≡ false → (a && b) ≡ false
no_first true b h = absurd (true≢false h)
no_first false b h = refl

no_second : (a b : Bool) → b ≡ false → (a && b) ≡ false
no_second true b h = h
no_second false b h = refl

untold : {X : Type 0} (b : Bool) (x : X) → (if b then Some x else None) ≡ None → b ≡ false
untold true x h = absurd (some_is_none h)
untold false x h = refl

lost : (w : World) → is_possible w ≡ false → None ≡ (if is_possible w then Some w else None)
lost w h = rw h refl

-- what is asked for behind the count, and behind the frames
rest_of : World → Bool
rest_of w = are_windows (windows_of w) && (nat_le (length w.history) max_history && (nat_le (length w.faults) max_faults && all_in w.tree.windows (loop_of w)))

pub too_many : (p : WorldParts) → counts_fit p.accepted p.clock ≡ false → None ≡ restored p
unfolding is_possible rest_of
too_many p many =
    let w = world_of p in
    lost w (no_first (counts_fit w.accepted w.clock) ((length w.variables.locals == 0) && rest_of w) many)

-- where no frame may stand, but one does
pub frames_stand : (p : WorldParts) → 0 < length p.variables.locals → None ≡ restored p
unfolding is_possible rest_of
frames_stand p some =
    let w = world_of p in
    let none = length w.variables.locals == 0 in
    lost w (no_second (counts_fit w.accepted w.clock) (none && rest_of w) (no_first none (rest_of w) (other (length w.variables.locals) some)))
  where
    other : (n : ℕ) → 0 < n → (n == 0) ≡ false
    other n l = by (n == 0) refl
      where
        by : (b : Bool) → (n == 0) ≡ b → b ≡ false
        by true e = absurd (omega (arith, l, eqb-true n 0 e))
        by false e = refl

lost_behind : (w : World) → rest_of w ≡ false → is_possible w ≡ false
unfolding is_possible rest_of
lost_behind w h =
    let none = length w.variables.locals == 0 in
    no_second (counts_fit w.accepted w.clock) (none && rest_of w) (no_second none (rest_of w) h)

-- where the windows fit but what stands behind them doesn't
no_others : (w : World) → (nat_le (length w.history) max_history && (nat_le (length w.faults) max_faults && all_in w.tree.windows (loop_of w))) ≡ false → is_possible w ≡ false
unfolding rest_of
no_others w h =
    let others = nat_le (length w.history) max_history && (nat_le (length w.faults) max_faults && all_in w.tree.windows (loop_of w)) in
    lost_behind w (no_second (are_windows (windows_of w)) others h)

pub not_there : (p : WorldParts) → all_in p.tree.windows (loop_of (world_of p)) ≡ false → None ≡ restored p
not_there p h =
    let w = world_of p in
    let faults = nat_le (length w.faults) max_faults in
    let there = all_in w.tree.windows (loop_of w) in
    lost w (no_others w (no_second (nat_le (length w.history) max_history) (faults && there) (no_second faults there h)))

pub no_windows : (p : WorldParts) → (if are_windows (windows_of (world_of p)) then Some (windows_of (world_of p)) else None) ≡ None → None ≡ restored p
unfolding rest_of
no_windows p h =
    let w = world_of p in
    let windows = are_windows (windows_of w) in
    let others = nat_le (length w.history) max_history && (nat_le (length w.faults) max_faults && all_in w.tree.windows (loop_of w)) in
    lost w (lost_behind w (no_first windows others (untold windows (windows_of w) h)))

pub no_events : (p : WorldParts) → (if nat_le (length p.faults) max_faults then Some (events_of (world_of p)) else None) ≡ None → None ≡ restored p
no_events p h =
    let w = world_of p in
    let faults = nat_le (length w.faults) max_faults in
    let there = all_in w.tree.windows (loop_of w) in
    lost w (no_others w (no_second (nat_le (length w.history) max_history) (faults && there) (no_first faults there (untold faults (events_of w) h))))
