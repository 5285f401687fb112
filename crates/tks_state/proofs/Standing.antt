-- The layout gives each window the cells that it stands at.
use Rattle.std.proofs.Common.{◌≡◌, ℕ, ◌+◌, ◌≤◌, Bool, true, false, cond, List, [], ◌∷◌, map, Option, Some, None, refl, sym, ap, subst, ◌∙◌, arith}
use Rattle.std.specs.Prelude.{◌==◌}
use Rattle.std.specs.List.{AllByRecursion, IsDistinct}
use Rattle.std.specs.Cmp.{nat_cmp_total, unsigned_tied}
use Rattle.std.specs.Ordering.{nat_cmp}
use Rattle.std.specs.FinMap as fin
use Rattle.std.proofs.lemmas.Bool.{eqb-true, eq-eqb}
use Rattle.tks_pack.specs.Laws.{LiesInside}
use Rattle.tks_pack.specs.Packing.{places}
use Rattle.tks_pack.specs.declared.area.Area.{Area}
use Rattle.tks_pack.specs.declared.area.Extent.{Extent}
use Rattle.tks_pack.specs.declared.packing.Content.{Content}
use Rattle.tks_pack.proofs.Order.{places_inside}
use Rattle.tks_tree.specs.Windows as tree
use Rattle.tks_tree.specs.WellFormed.{Rises}
use Rattle.tks_tree.specs.WellFormed as trees
use Rattle.tks_tree.proofs.Earlier.{made_earlier}
use Rattle.tks_state.specs.ByWindow.{ByWindow}
use Rattle.tks_state.specs.Layout.{size_in, sizes, on_grid, extent_of, grid_area, with_content, with_contents, with_contents_of, placed_after, placed}
use Rattle.tks_state.specs.Standing.{IsAmong, HasPlace, GivesPlace, StandsAt, LaysOut, StaysWithin}
use Rattle.tks_state.specs.WellFormed.{PacksChildren, AllPackChildren, WellFormed}
use Rattle.tks_state.specs.World.{World}
use Rattle.tks_state.specs.declared.kept.Kept.{Kept}
use Rattle.tks_state.proofs.Children.{kept_rises}

some_same : {X : Type 0} {x y : X} → Some x ≡ Some y → x ≡ y
some_same {x = x} e = ap (λ o. elim o as (λ _. _) [ None ↦ x | Some z ↦ z ]) e

-- what is found behind one more
got : (placed : ByWindow Area) (n : ℕ) (a : Area) (m : ℕ) → fin.get (fin.insert placed n a) m ≡ cond (m == n) (Some a) (fin.get placed m)
got placed n a m = fin.get-insert nat_cmp_total placed n a m ∙ ap (λ b. cond b (Some a) (fin.get placed m)) (unsigned_tied m n)

-- ---- windows that are none of some contents

abbrev windows_of : List Content → List ℕ
windows_of contents = map (λ c. c.window) contents

abbrev Misses : ℕ → List Content → Type 0
Misses n contents = AllByRecursion (λ m. (n == m) ≡ false) (windows_of contents)

abbrev AllMiss : ℕ → List Kept → Type 0
AllMiss n kept = AllByRecursion (λ k. Misses n k.packing.contents) kept

content_stays : (container : Area) (c : Content) (place : Option Area) (placed : ByWindow Area) (n : ℕ) → (n == c.window) ≡ false → fin.get (with_content container c place placed) n ≡ fin.get placed n
content_stays container c None placed n h = refl
content_stays container c (Some a) placed n h = got placed c.window (on_grid container a) n ∙ ap (λ b. cond b (Some (on_grid container a)) (fin.get placed n)) h

contents_stay : (container : Area) (cs : List Content) (ps : List (Option Area)) (placed : ByWindow Area) (n : ℕ) → Misses n cs → fin.get (with_contents container cs ps placed) n ≡ fin.get placed n
contents_stay container [] ps placed n h = refl
contents_stay container (c ∷ cs) [] placed n h = refl
contents_stay container (c ∷ cs) (p ∷ ps) placed n h = contents_stay container cs ps (with_content container c p placed) n h.1 ∙ content_stays container c p placed n h.0

module _ (known : ByWindow Extent) where
  abbrev step : Kept → ByWindow Area → ByWindow Area
  step k before = with_contents_of known k (fin.get before k.window) before

  step_stays_at : (k : Kept) (o : Option Area) (before : ByWindow Area) (n : ℕ) → Misses n k.packing.contents → fin.get (with_contents_of known k o before) n ≡ fin.get before n
  step_stays_at k None before n h = refl
  step_stays_at k (Some a) before n h = contents_stay a k.packing.contents (places (size_in known) (extent_of a) k.packing.contents) before n h

  all_stay : (kept : List Kept) (before : ByWindow Area) (n : ℕ) → AllMiss n kept → fin.get (placed_after known before kept) n ≡ fin.get before n
  all_stay [] before n h = refl
  all_stay (k ∷ kept) before n h = all_stay kept (step k before) n h.1 ∙ step_stays_at k (fin.get before k.window) before n h.0

-- ---- a content's own place

put_there : (container : Area) (c : Content) (a : Area) (cs : List Content) (ps : List (Option Area)) (placed : ByWindow Area) → HasPlace c a cs ps → IsDistinct ◌==◌ (windows_of cs)
    → fin.get (with_contents container cs ps placed) c.window ≡ Some (on_grid container a)
unfolding IsDistinct
put_there container c a _ _ placed (HasPlace.here cs ps) d =
    contents_stay container cs ps (fin.insert placed c.window (on_grid container a)) c.window d.0
    ∙ got placed c.window (on_grid container a) c.window
    ∙ ap (λ b. cond b (Some (on_grid container a)) (fin.get placed c.window)) (eq-eqb c.window c.window refl)
put_there container c a _ _ placed (HasPlace.further e p cs ps h) d = put_there container c a cs ps (with_content container e p placed) h d.1

holds_of : (P : ℕ → Type 0) (c : Content) (a : Area) (cs : List Content) (ps : List (Option Area)) → AllByRecursion P (windows_of cs) → HasPlace c a cs ps → P c.window
holds_of P c a _ _ all (HasPlace.here cs ps) = all.0
holds_of P c a _ _ all (HasPlace.further e p cs ps h) = holds_of P c a cs ps all.1 h

-- ---- what is kept stands in order

-- no later window has this one, or one of its contents, among its own
pub record Leads (k : Kept) (later : List Kept) : Type 0 where
  pub own : AllMiss k.window (k ∷ later)
  pub contents : AllByRecursion (λ n. AllMiss n later) (windows_of k.packing.contents)
  pub distinct : IsDistinct ◌==◌ (windows_of k.packing.contents)

abbrev Ordered : List Kept → Type 0
Ordered [] = Unit {0}
Ordered (k ∷ later) = Leads k later × Ordered later

differs : (m n : ℕ) → (m ≡ n → ⊥) → (m == n) ≡ false
differs m n h = by (m == n) refl
  where
    by : (b : Bool) → (m == n) ≡ b → b ≡ false
    by false e = refl
    by true e = absurd (h (eqb-true m n e))

all_of : (P Q : ℕ → Type 0) (ns : List ℕ) → ((n : ℕ) → P n → Q n) → AllByRecursion P ns → AllByRecursion Q ns
all_of P Q [] h all = tt
all_of P Q (n ∷ ns) h all = (h n all.0, all_of P Q ns h all.1)

module _ (t : tree.Windows) (w : trees.WellFormed t) where
  -- a number that is no child of a window isn't one of its contents
  misses : (n : ℕ) (k : Kept) → PacksChildren t k → (tree.parent t n ≡ Some k.window → ⊥) → Misses n k.packing.contents
  misses n k p h = all_of _ _ (windows_of k.packing.contents) (λ m e. differs n m (λ same. h (ap (tree.parent t) same ∙ e))) p.children

  all_miss : (low n : ℕ) (kept : List Kept) → Rises (λ k. k.window) low kept → AllPackChildren t kept → ((m : ℕ) → low ≤ m → tree.parent t n ≡ Some m → ⊥) → AllMiss n kept
  all_miss low n [] r all h = tt
  all_miss low n (k ∷ kept) r all h = (misses n k all.0 (h k.window r.0), all_miss (k.window + 1) n kept r.1 all.1 (λ m le. h m (omega (arith, le, r.0))))

  no_parent_from : (n m : ℕ) → n ≤ m → tree.parent t n ≡ Some m → ⊥
  no_parent_from n m le e = let less = made_earlier t n m w e in omega (arith, le, less)

  one_parent : (n k m : ℕ) → tree.parent t n ≡ Some k → k + 1 ≤ m → tree.parent t n ≡ Some m → ⊥
  one_parent n k m e le h = let same : k ≡ m = some_same (sym e ∙ h) in omega (arith, le, same)

  ordered : (low : ℕ) (kept : List Kept) → Rises (λ k. k.window) low kept → AllPackChildren t kept → Ordered kept
  ordered low [] r all = tt
  ordered low (k ∷ kept) r all = (
    record {
      own = all_miss k.window k.window (k ∷ kept) (omega arith, r.1) all (no_parent_from k.window);
      contents = all_of _ _ (windows_of k.packing.contents) (λ n e. all_miss (k.window + 1) n kept r.1 all.1 (λ m le. one_parent n k.window m e le)) all.0.children;
      distinct = all.0.distinct;
    },
    ordered (k.window + 1) kept r.1 all.1,
  )

  root_missed : (kept : List Kept) → Rises (λ k. k.window) 0 kept → AllPackChildren t kept → AllMiss 0 kept
  root_missed kept r all = all_miss 0 0 kept r all (λ m le e. no_parent_from 0 m le e)

-- ---- where a window stands is what is found

found_at : (known : ByWindow Extent) (k : Kept) (container : Area) (c : Content) (a : Area) (kept : List Kept) (before : ByWindow Area) → IsAmong k kept → Ordered kept
    → fin.get (placed_after known before kept) k.window ≡ Some container → HasPlace c a k.packing.contents (places (size_in known) (extent_of container) k.packing.contents)
    → fin.get (placed_after known before kept) c.window ≡ Some (on_grid container a)
found_at known k container c a _ before (IsAmong.here later) o e h =
    let ps = places (size_in known) (extent_of container) k.packing.contents in
    let was : fin.get before k.window ≡ Some container = sym (all_stay known (k ∷ later) before k.window o.0.own) ∙ e in
    all_stay known later (step known k before) c.window (holds_of (λ n. AllMiss n later) c a k.packing.contents ps o.0.contents h)
    ∙ ap (λ x. fin.get (with_contents_of known k x before) c.window) was
    ∙ put_there container c a k.packing.contents ps before h o.0.distinct
found_at known k container c a _ before (IsAmong.further l later among) o e h = found_at known k container c a later (step known l before) among o.1 e h

module _ (w : World) (f : WellFormed w) where
  abbrev known : ByWindow Extent
  known = sizes w.variables w.kept

  abbrev start : ByWindow Area
  start = fin.insert fin.empty 0 (grid_area w.grid)

  rise : Rises (λ k. k.window) 0 w.kept
  rise = kept_rises w.tree w.kept f.windows

  found : (n : ℕ) (a : Area) → StandsAt w n a → fin.get (placed w) n ≡ Some a
  found _ _ StandsAt.root = all_stay known w.kept start 0 (root_missed w.tree f.windows.windows w.kept rise f.windows.packs) ∙ got fin.empty 0 (grid_area w.grid) 0
  found _ _ (StandsAt.content k container c a among stands h) =
      found_at known k container c a w.kept start among (ordered w.tree f.windows.windows 0 w.kept rise f.windows.packs) (found k.window container stands) h

-- ---- what is found stands there

module _ (w : World) where
  abbrev sized : ByWindow Extent
  sized = sizes w.variables w.kept

  abbrev AllStand : ByWindow Area → Type 0
  AllStand placed = (n : ℕ) (a : Area) → fin.get placed n ≡ Some a → StandsAt w n a

  one_more_stands : (placed : ByWindow Area) (n : ℕ) (a : Area) → AllStand placed → StandsAt w n a → AllStand (fin.insert placed n a)
  one_more_stands placed n a all stands m b e = by (m == n) refl (sym (got placed n a m) ∙ e)
    where
      by : (x : Bool) → (m == n) ≡ x → cond x (Some a) (fin.get placed m) ≡ Some b → StandsAt w m b
      by true is h = subst (λ (p : ℕ × Area). StandsAt w p.0 p.1) (let first : n ≡ m = sym (eqb-true m n is) in let second : a ≡ b = some_same h in cc) stands
      by false is h = all m b h

  contents_stand : (k : Kept) (container : Area) → IsAmong k w.kept → StandsAt w k.window container → (cs : List Content) (ps : List (Option Area)) (placed : ByWindow Area)
      → ((c : Content) (a : Area) → HasPlace c a cs ps → GivesPlace w k container c a) → AllStand placed → AllStand (with_contents container cs ps placed)
  contents_stand k container among stands [] ps placed given all = all
  contents_stand k container among stands (c ∷ cs) [] placed given all = all
  contents_stand k container among stands (c ∷ cs) (None ∷ ps) placed given all =
      contents_stand k container among stands cs ps placed (λ d b h. given d b (HasPlace.further c None cs ps h)) all
  contents_stand k container among stands (c ∷ cs) (Some a ∷ ps) placed given all =
      contents_stand k container among stands cs ps (with_content container c (Some a) placed) (λ d b h. given d b (HasPlace.further c (Some a) cs ps h))
      (one_more_stands placed c.window (on_grid container a) all (StandsAt.content k container c a among stands (given c a (HasPlace.here cs ps))))

  step_stands : (k : Kept) → IsAmong k w.kept → (o : Option Area) (before : ByWindow Area) → fin.get before k.window ≡ o → AllStand before → AllStand (with_contents_of sized k o before)
  step_stands k among None before e all = all
  step_stands k among (Some a) before e all =
      contents_stand k a among (all k.window a e) k.packing.contents (places (size_in sized) (extent_of a) k.packing.contents) before (λ c b h. h) all

  all_stand : (kept : List Kept) (before : ByWindow Area) → ((k : Kept) → IsAmong k kept → IsAmong k w.kept) → AllStand before → AllStand (placed_after sized before kept)
  all_stand [] before among all = all
  all_stand (k ∷ kept) before among all =
      all_stand kept (with_contents_of sized k (fin.get before k.window) before) (λ l h. among l (IsAmong.further k kept h))
      (step_stands k (among k (IsAmong.here kept)) (fin.get before k.window) before refl all)

  none_stands : AllStand fin.empty
  none_stands n a e = let h : ◌≡◌ {A = Option Area} None (Some a) = sym (fin.get-empty nat_cmp n) ∙ e in absurd cc

  stands : AllStand (placed w)
  stands = all_stand w.kept (fin.insert fin.empty 0 (grid_area w.grid)) (λ k h. h) (one_more_stands fin.empty 0 (grid_area w.grid) none_stands StandsAt.root)

pub lays_out : (w : World) → WellFormed w → LaysOut w
lays_out w f n a = (stands w n a, found w f n a)

-- ---- within the container

inside_at : (c : Content) (a : Area) (extent : Extent) (cs : List Content) (ps : List (Option Area)) → HasPlace c a cs ps → AllByRecursion (LiesInside extent) ps → LiesInside extent (Some a)
inside_at c a extent _ _ (HasPlace.here cs ps) all = all.0
inside_at c a extent _ _ (HasPlace.further d p cs ps h) all = inside_at c a extent cs ps h all.1

pub stays_within : (w : World) → StaysWithin w
stays_within w k container c a h =
    let known = sizes w.variables w.kept in
    let inside = inside_at c a (extent_of container) k.packing.contents (places (size_in known) (extent_of container) k.packing.contents) h (places_inside (size_in known) (extent_of container) k.packing.contents) in
    (omega arith, omega (arith, inside.1), omega arith, omega (arith, inside.3))
