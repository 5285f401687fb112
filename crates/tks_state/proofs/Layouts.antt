-- Sizes and places, found one after the other.
use Rattle.std.proofs.Common.{◌≡◌, is_some, ℕ, zero, suc, ◌+◌, ◌<◌, ◌≤◌, ◌^◌, length, get_or, drop, drop-cons, add-one, subst, sym, append_assoc, Bool, true, false, cond, if◌then◌else◌, List, [], ◌∷◌, ◌++◌, Option, Some, None, refl, ap, ◌∙◌, arith}
use Rattle.std.specs.List.{AllByRecursion}
use Rattle.std.specs.Ordering.{nat_cmp, eq_by_cmp}
use Rattle.std.specs.Cmp.{nat_cmp_total}
use Rattle.std.specs.FinMap as map
use Rattle.std.specs.Prelude.{◌==◌, IfSome, slice_get, take}
use Rattle.std.proofs.lemmas.Bool.{eq-eqb}
use Rattle.tks_text.specs.Size as grid
use Rattle.tks_pack.specs.Laws.{LiesInside}
use Rattle.tks_pack.specs.Packing.{places}
use Rattle.tks_pack.proofs.Order.{places_inside}
use Rattle.tks_pack.specs.declared.area.Area.{Area}
use Rattle.tks_pack.specs.declared.area.Extent.{Extent}
use Rattle.tks_pack.specs.declared.packing.Content.{Content}
use Rattle.tks_tree.specs.WellFormed.{WellFormed}
use Rattle.tks_tree.specs.Windows.{Windows, max_number, of_number, preorder, times}
use Rattle.tks_tree.proofs.Below.{there_below}
use Rattle.tks_tree.proofs.Once.{each_once}
use Rattle.tks_state.specs.declared.layout.Placed.{Placed}
use Rattle.tks_state.specs.declared.kept.Kept.{Kept}
use Rattle.tks_vars.specs.Variables.{Variables}
use Rattle.tks_state.specs.ByWindow.{ByWindow}
use Rattle.tks_state.specs.Layout.{size_in, with_size, sizes_before, placed_after, on_grid, extent_of, grid_area, with_content, with_contents, with_contents_of, with_area, shown_of, LiesOn, IsShownOn, AllInside, AllShownOn, covers, or_this, last_over}

abbrev kept_or : Kept → Option Kept → Kept
kept_or d None = d
kept_or d (Some k) = k

-- of windows up to one, it goes first
pub sizes_up_to : (variables : Variables) (kept : List Kept) (n : ℕ) (k : Kept) (known : ByWindow Extent) → slice_get kept n ≡ Some k
    → sizes_before variables (take n kept) (with_size variables k known) ≡ sizes_before variables (take (suc n) kept) known
sizes_up_to variables [] n k known h = absurd cc
sizes_up_to variables (l ∷ kept) zero k known h = ap (λ o. with_size variables (kept_or k o) known) (sym h)
sizes_up_to variables (l ∷ kept) (suc n) k known h = ap (with_size variables l) (sizes_up_to variables kept n k known h)

-- ---- all cells lie on the grid

module _ (g : grid.Extent) where
  abbrev Lies : Option Area → Type 0
  Lies o = IfSome o (LiesOn g)

  none_lie : AllInside g map.empty
  none_lie window = subst Lies (sym (map.get-empty nat_cmp window)) tt

  one_more_lies : (placed : ByWindow Area) (window : ℕ) (a : Area) → AllInside g placed → LiesOn g a → AllInside g (map.insert placed window a)
  one_more_lies placed window a h lies other = subst Lies (sym (map.get-insert nat_cmp_total placed window a other)) (by (eq_by_cmp nat_cmp other window))
    where
      by : (b : Bool) → Lies (cond b (Some a) (map.get placed other))
      by true = lies
      by false = h other

  pub grid_area_lies : (placed : ByWindow Area) → placed ≡ map.insert map.empty 0 (grid_area g) → AllInside g placed
  grid_area_lies placed e = subst (AllInside g) (sym e) (one_more_lies map.empty 0 (grid_area g) none_lie (omega arith, omega arith))

  content_lies : (container : Area) (c : Content) (place : Option Area) (placed : ByWindow Area) → LiesOn g container → LiesInside (extent_of container) place → AllInside g placed
      → AllInside g (with_content container c place placed)
  content_lies container c None placed h k all = all
  content_lies container c (Some a) placed h k all = one_more_lies placed c.window (on_grid container a) all (omega (arith, h.0, k), omega (arith, h.1, k))

  contents_lie : (container : Area) (cs : List Content) (places : List (Option Area)) (placed : ByWindow Area) → LiesOn g container
      → AllByRecursion (LiesInside (extent_of container)) places → AllInside g placed → AllInside g (with_contents container cs places placed)
  contents_lie container [] places placed h k all = all
  contents_lie container (c ∷ cs) [] placed h k all = all
  contents_lie container (c ∷ cs) (a ∷ places) placed h k all = contents_lie container cs places (with_content container c a placed) h k.1 (content_lies container c a placed h k.0 all)

  contents_of_lie : (known : ByWindow Extent) (k : Kept) (area : Option Area) (placed : ByWindow Area) → Lies area → AllInside g placed → AllInside g (with_contents_of known k area placed)
  contents_of_lie known k None placed h all = all
  contents_of_lie known k (Some a) placed h all =
      contents_lie a k.packing.contents (places (size_in known) (extent_of a) k.packing.contents) placed h (places_inside (size_in known) (extent_of a) k.packing.contents) all

  pub more_lie : (known : ByWindow Extent) (old new : ByWindow Area) (k : Kept) (area : Option Area) → AllInside g old → area ≡ map.get old k.window
      → new ≡ with_contents_of known k area old → AllInside g new
  more_lie known old new k area all a n = subst (AllInside g) (sym n) (contents_of_lie known k area old (subst Lies (sym a) (all k.window)) all)

pub area_fits : (g : grid.Extent) (o : Option Area) → g.width < 2 ^ 16 → g.height < 2 ^ 16 → IfSome o (LiesOn g) → IfSome o (λ a. (a.x + a.width < 2 ^ 32) × (a.y + a.height < 2 ^ 32))
area_fits g None w h lies = tt
area_fits g (Some a) w h lies = (omega (arith, w, lies.0), omega (arith, h, lies.1))

-- ---- one after the other

pub next_one : {X : Type 0} (xs : List X) (i : ℕ) (x : X) → i < length xs → x ≡ get_or xs i x → drop i xs ≡ x ∷ drop (i + 1) xs
next_one xs i x h e = rw (add-one) (drop-cons xs i x h ∙ ap (λ y. y ∷ drop (suc i) xs) (sym e))

pub placed_more : (known : ByWindow Extent) (old new : ByWindow Area) (all rest : List Kept) (k : Kept) (area : Option Area) → all ≡ k ∷ rest
    → area ≡ map.get old k.window → new ≡ with_contents_of known k area old → placed_after known new rest ≡ placed_after known old all
placed_more known old new all rest k area e a n =
    ap (λ ps. placed_after known ps rest) (n ∙ ap (λ o. with_contents_of known k o old) a)
    ∙ sym (ap (placed_after known old) e)

with_rest : (number : ℕ) (area : Option Area) (rest : List Placed) → with_area number area [] ++ rest ≡ with_area number area rest
with_rest number None rest = refl
with_rest number (Some a) rest = refl

pub shown_more : (placed : ByWindow Area) (old new : List Placed) (numbers : List ℕ) (i number : ℕ) (area : Option Area) → i < length numbers → number ≡ get_or numbers i number
    → area ≡ map.get placed number → new ≡ old ++ with_area number area [] → new ++ shown_of placed (drop (i + 1) numbers) ≡ old ++ shown_of placed (drop i numbers)
shown_more placed old new numbers i number area h e a n =
    let rest : List Placed = shown_of placed (drop (i + 1) numbers) in
    ap (λ ps. ps ++ rest) n ∙ append_assoc old (with_area number area []) rest
    ∙ ap (λ ps. old ++ ps) (with_rest number area rest ∙ ap (λ o. with_area number o rest) a)
    ∙ sym (ap (λ ns. old ++ shown_of placed ns) (next_one numbers i number h e))

all_both : (g : grid.Extent) (number : ℕ) (o : Option Area) (ps : List Placed) → number ≤ max_number → IfSome o (LiesOn g) → AllShownOn g ps → AllShownOn g (with_area number o ps)
all_both g number None ps low h all = all
all_both g number (Some a) ps low h all = ((low, h), all)

-- so do those that are shown, of windows that there are
pub shown_lie : (g : grid.Extent) (placed : ByWindow Area) (numbers : List ℕ) → AllByRecursion (λ n. n ≤ max_number) numbers → AllInside g placed → AllShownOn g (shown_of placed numbers)
shown_lie g placed [] low all = tt
shown_lie g placed (n ∷ numbers) low all = all_both g n (map.get placed n) (shown_of placed numbers) low.0 (all n) (shown_lie g placed numbers low.1 all)

-- ---- the windows of a tree have numbers that there are

counted_here : (n : ℕ) (ns : List ℕ) → 0 < times n (n ∷ ns)
counted_here n ns = rw (eq-eqb n n refl) (omega arith)

counted_behind : (m n : ℕ) (ns : List ℕ) → 0 < times m ns → 0 < times m (n ∷ ns)
counted_behind m n ns h = by (n == m)
  where
    by : (b : Bool) → 0 < (if b then suc (times m ns) else times m ns)
    by true = omega arith
    by false = h

all_counted : (P : ℕ → Type 0) (ns : List ℕ) → ((n : ℕ) → 0 < times n ns → P n) → AllByRecursion P ns
all_counted P [] h = tt
all_counted P (n ∷ ns) h = (h n (counted_here n ns), all_counted P ns (λ m k. h m (counted_behind m n ns k)))

pub preorder_low : (t : Windows) → WellFormed t → AllByRecursion (λ n. n ≤ max_number) (preorder t)
preorder_low t f = all_counted (λ n. n ≤ max_number) (preorder t) (λ n h. by n (is_some (of_number t.windows n)) refl (each_once t n f) h)
  where
    by : (n : ℕ) (b : Bool) → is_some (of_number t.windows n) ≡ b → times n (preorder t) ≡ (if is_some (of_number t.windows n) then 1 else 0) → 0 < times n (preorder t) → n ≤ max_number
    by n true e once h = there_below t n f e
    by n false e once h = absurd (let none : times n (preorder t) ≡ 0 = rw e at once in omega (arith, none, h))

-- ---- the last one

pub last_of : (before : List Placed) (p : Placed) (x y : ℕ) → last_over (before ++ p ∷ []) x y ≡ (if covers p.area x y then Some p else last_over before x y)
last_of [] p x y = refl
last_of (q ∷ before) p x y = ap (or_this (covers q.area x y) q) (last_of before p x y) ∙ by (covers p.area x y)
  where
    by : (b : Bool) → or_this (covers q.area x y) q (if b then Some p else last_over before x y) ≡ (if b then Some p else or_this (covers q.area x y) q (last_over before x y))
    by true = refl
    by false = refl

-- it lies where all of them lie
pub last_inside : (g : grid.Extent) (ps : List Placed) (x y : ℕ) → AllShownOn g ps → IfSome (last_over ps x y) (IsShownOn g)
last_inside g [] x y all = tt
last_inside g (p ∷ ps) x y all = by (last_over ps x y) (last_inside g ps x y all.1)
  where
    alone : (b : Bool) → IfSome (if b then Some p else None) (IsShownOn g)
    alone true = all.0
    alone false = tt

    by : (o : Option Placed) → IfSome o (IsShownOn g) → IfSome (or_this (covers p.area x y) p o) (IsShownOn g)
    by None later = alone (covers p.area x y)
    by (Some q) later = later
