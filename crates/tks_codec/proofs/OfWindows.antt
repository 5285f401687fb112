-- Windows and lines undo each other, and what holds of the spelling of windows.
use Rattle.std.proofs.Common.{◌≡◌, ℕ, suc, ◌+◌, ◌≤◌, Bool, true, false, true≢false, List, [], ◌∷◌, length, Option, Some, None, zero, ◌<◌, slice_index_or, refl, sym, ap, ◌∙◌, arith}
use Rattle.std.specs.Prelude.{map, is_some, slice_get, ◌==◌, ◌≢◌, if◌then◌else◌}
use Rattle.std.specs.List.{AllByRecursion, IsDistinct}
use Rattle.std.proofs.lemmas.Bool.{eqb-true, eq-eqb}
use Rattle.tks_tree.specs.Path.{parent_of}
use Rattle.tks_tree.specs.Windows as tree
use Rattle.tks_tree.specs.WellFormed.{Rises}
use Rattle.tks_pack.specs.Packing.{Packed}
use Rattle.tks_pack.specs.declared.packing.Content.{Content}
use Rattle.tks_pack.specs.declared.settings.Settings.{Settings}
use Rattle.tks_spelling.specs.Spelling.{Lawful, list}
use Rattle.tks_spelling.proofs.EachKind.{test_lawful, through_lawful, list_lawful}
use Rattle.tks_codec_windows.specs.Places.{place_of, places_from, placed, packed_as, settings_in, or_else, on_tree, tree_of, agreeing, are_packed, packings_in, IsFound, AreFound}
use Rattle.tks_codec_windows.specs.declared.place.Place.{Place}
use Rattle.tks_codec_windows.proofs.OfPlaces.{placed_again, placed_from}
use Rattle.tks_state.specs.Widget.{class_of}
use Rattle.tks_state.specs.Windows.{Windows}
use Rattle.tks_state.specs.WellFormed.{WellFormedWindows, PacksChildren, AllPackChildren, InStep, mark_of, window_mark}
use Rattle.tks_state.specs.Restoring.{kept_of_parts}
use Rattle.tks_state.specs.declared.kept.Kept.{Kept}
use Rattle.tks_state.specs.declared.restoring.WindowParts.{WindowParts}
use Rattle.tks_state.proofs.Children.{kept_rises}
use Rattle.tks_text.specs.declared.class.Class.{Class}
use Rattle.tks_codec.specs.Line.{line}
use Rattle.tks_codec.specs.Windows.{packings_of, line_of, lines_from, lines_of, kept_of, kept_from, with_kept, windows_made, are_windows, or_first, windows, held_of, parts_from}
use Rattle.tks_codec.specs.declared.line.Line.{Line}
use Rattle.tks_codec.proofs.OfLines.{line_lawful}

or_this : {X : Type 0} → X → Option X → X
or_this d None = d
or_this d (Some x) = x

pub some_same : {X : Type 0} (x y : X) → Some x ≡ Some y → x ≡ y
unfolding or_this
some_same x y e = ap (or_this x) e

first_or : {X : Type 0} → X → List X → X
first_or d [] = d
first_or d (x ∷ xs) = x

behind : {X : Type 0} → List X → List X
behind [] = []
behind (x ∷ xs) = xs

same_first : {X : Type 0} (x y : X) (xs ys : List X) → x ∷ xs ≡ y ∷ ys → x ≡ y
unfolding first_or
same_first x y xs ys e = ap (first_or x) e

same_behind : {X : Type 0} (x y : X) (xs ys : List X) → x ∷ xs ≡ y ∷ ys → xs ≡ ys
unfolding behind
same_behind x y xs ys e = ap behind e

-- ---- lines of windows that were made of lines

-- what is packed, where windows were made of these places
packings_told : (next : ℕ) (places : List Place) (t : tree.Windows) (ps : List Packed) → placed next places ≡ Some (t, ps) → packings_in places ≡ ps
packings_told next places t ps e = by_tree (tree_of next places) e
  where
    qs : List Packed
    qs = packings_in places

    found : tree.Windows → Bool → Option (tree.Windows × List Packed)
    found u b = if b then Some (u, qs) else None

    by : (u : tree.Windows) (b : Bool) → found u b ≡ Some (t, ps) → qs ≡ ps
    by u true h = ap (λ (x : tree.Windows × List Packed). x.1) (some_same (u, qs) (t, ps) h)
    by u false h = absurd cc

    by_tree : (o : Option tree.Windows) → on_tree o (agreeing places qs) ≡ Some (t, ps) → qs ≡ ps
    by_tree None h = absurd cc
    by_tree (Some u) h = by u (are_packed qs places) h

mapped_length : {X Y : Type 0} (f : X → Y) (xs : List X) → length (map f xs) ≡ length xs
mapped_length f [] = refl
mapped_length f (x ∷ xs) = ap (λ n. suc n) (mapped_length f xs)

packings_kept : (lines : List Line) (ps : List Packed) → length lines ≡ length ps → packings_of (kept_from lines ps) ≡ ps
packings_kept [] [] h = refl
packings_kept [] (p ∷ ps) h = absurd cc
packings_kept (l ∷ lines) [] h = absurd cc
packings_kept (l ∷ lines) (p ∷ ps) h = ap (λ (qs : List Packed). p ∷ qs) (packings_kept lines ps (omega (arith, h)))

relined : (all : List Packed) (ws : List tree.Window) (lines : List Line) (ps : List Packed) → places_from all ws ps ≡ map (λ l. l.place) lines → length lines ≡ length ps
    → lines_from all ws (kept_from lines ps) ≡ lines
relined all [] [] ps e h = refl
relined all [] (l ∷ lines) ps e h = absurd cc
relined all (w ∷ ws) [] ps e h = refl
relined all (w ∷ ws) (l ∷ lines) [] e h = absurd cc
relined all (w ∷ ws) (l ∷ lines) (p ∷ ps) e h =
    let places = places_from all ws ps in
    let others = map (λ (l : Line). l.place) lines in
    ap (λ (x : Place). record { place = x; tags = l.tags; widget = l.widget } ∷ lines_from all ws (kept_from lines ps)) (same_first (place_of all w p) l.place places others e)
    ∙ ap (λ (ls : List Line). l ∷ ls) (relined all ws lines ps (same_behind (place_of all w p) l.place places others e) (omega (arith, h)))

lines_told : (next : ℕ) (lines : List Line) (x : Windows) → windows_made next lines ≡ Some x → (lines_of x ≡ lines) × (x.tree.next ≡ next)
lines_told next lines x h = by (placed next places) refl h
  where
    places : List Place
    places = map (λ l. l.place) lines

    by : (o : Option (tree.Windows × List Packed)) → placed next places ≡ o → with_kept lines o ≡ Some x → (lines_of x ≡ lines) × (x.tree.next ≡ next)
    by None e h = absurd cc
    by (Some (t, ps)) e h =
        let found = placed_from next places t ps e in
        let count : length lines ≡ length ps =
        sym (mapped_length (λ (l : Line). l.place) lines) ∙ sym (mapped_length _ places) ∙ ap (λ (qs : List Packed). length qs) (packings_told next places t ps e) in
        let made : Windows = record { tree = t; kept = kept_from lines ps } in
        let same = some_same made x h in (
          ap (λ (y : Windows). lines_of y) (sym same)
              ∙ ap (λ (qs : List Packed). lines_from qs t.windows (kept_from lines ps)) (packings_kept lines ps count)
              ∙ relined ps t.windows lines ps found.0 count,
          ap (λ (y : Windows). y.tree.next) (sym same) ∙ found.1,
        )

-- ---- windows made again of their lines

places_again : (all : List Packed) (ws : List tree.Window) (ks : List Kept) → map (λ l. l.place) (lines_from all ws ks) ≡ places_from all ws (packings_of ks)
places_again all [] ks = refl
places_again all (w ∷ ws) [] = refl
places_again all (w ∷ ws) (k ∷ ks) = ap (λ (places : List Place). place_of all w k.packing ∷ places) (places_again all ws ks)

kept_again : (all : List Packed) (ws : List tree.Window) (ks : List Kept) → InStep ws ks → kept_from (lines_from all ws ks) (packings_of ks) ≡ ks
kept_again all [] [] h = refl
kept_again all [] (k ∷ ks) h = absurd cc
kept_again all (w ∷ ws) [] h = refl
kept_again all (w ∷ ws) (k ∷ ks) h =
    let marks = map mark_of ks in
    let others = map window_mark ws in
    let number : w.number ≡ k.window = sym (ap (λ (m : ℕ × Class). m.0) (same_first (mark_of k) (window_mark w) marks others h)) in
    ap (λ n. record k { window = n } ∷ kept_from (lines_from all ws ks) (packings_of ks)) number
    ∙ ap (λ (ls : List Kept). k ∷ ls) (kept_again all ws ks (same_behind (mark_of k) (window_mark w) marks others h))

-- ---- what is packed in a window is found there

-- a window that isn't among contents isn't packed among them
elsewhere : (cs : List Content) (n : ℕ) → AllByRecursion (λ c. (c.window == n) ≡ false) cs → settings_in cs n ≡ None
elsewhere [] n h = refl
elsewhere (c ∷ cs) n h = ap (λ (b : Bool). if b then Some c.settings else settings_in cs n) h.0 ∙ elsewhere cs n h.1

pub ne : (n m : ℕ) → (n == m) ≡ false → (m == n) ≡ false
ne n m h = by (m == n) refl
  where
    by : (b : Bool) → (m == n) ≡ b → b ≡ false
    by true e = absurd (true≢false (sym (eq-eqb n m (sym (eqb-true m n e))) ∙ h))
    by false e = refl

-- contents behind one that differs are found as without it
found_behind : (c : Content) (cs ds : List Content) → AllByRecursion (λ m. (c.window == m) ≡ false) (map (λ d. d.window) ds) → AllByRecursion (λ d. settings_in cs d.window ≡ Some d.settings) ds
    → AllByRecursion (λ d. settings_in (c ∷ cs) d.window ≡ Some d.settings) ds
found_behind c cs [] h f = tt
found_behind c cs (d ∷ ds) h f = (ap (λ (b : Bool). if b then Some c.settings else settings_in cs d.window) h.0 ∙ f.0, found_behind c cs ds h.1 f.1)

found_here : (cs : List Content) → IsDistinct ◌==◌ (map (λ c. c.window) cs) → AllByRecursion (λ c. settings_in cs c.window ≡ Some c.settings) cs
unfolding IsDistinct
found_here [] h = tt
found_here (c ∷ cs) h = (ap (λ (b : Bool). if b then Some c.settings else settings_in cs c.window) (eq-eqb c.window c.window refl), found_behind c cs cs h.0 (found_here cs h.1))

module _ (t : tree.Windows) where
  -- a window that stands in another isn't packed here
  not_here : (number : ℕ) (cs : List Content) (n m : ℕ) → AllByRecursion (λ n. tree.parent t n ≡ Some number) (map (λ c. c.window) cs) → tree.parent t n ≡ Some m → number ≢ m
      → settings_in cs n ≡ None
  not_here number [] n m h p differs = refl
  not_here number (c ∷ cs) n m h p differs = by (c.window == n) refl (not_here number cs n m h.1 p differs)
    where
      by : (b : Bool) → (c.window == n) ≡ b → settings_in cs n ≡ None → (if b then Some c.settings else settings_in cs n) ≡ None
      by true e others = absurd (differs (some_same number m (sym h.0 ∙ ap (tree.parent t) (eqb-true c.window n e) ∙ p)))
      by false e others = others

  IsPackedSo : List Packed → Content → Type 0
  IsPackedSo ps c = packed_as ps c.window ≡ Some c.settings

  EachPackedSo : List Packed → List Kept → Type 0
  EachPackedSo ps ks = AllByRecursion (λ k. AllByRecursion (IsPackedSo ps) k.packing.contents) ks

  -- what is packed in one of these windows
  here : (ps : List Packed) (p : Packed) (cs : List Content) → AllByRecursion (λ c. settings_in p.contents c.window ≡ Some c.settings) cs → AllByRecursion (IsPackedSo (p ∷ ps)) cs
  unfolding IsPackedSo
  here ps p [] h = tt
  here ps p (c ∷ cs) h = (ap (λ (o : Option Settings). or_else o (packed_as ps c.window)) h.0, here ps p cs h.1)

  -- what is packed in one behind the first
  later : (k l : Kept) (ps : List Packed) (cs : List Content) → k.window ≢ l.window → PacksChildren t k → AllByRecursion (λ n. tree.parent t n ≡ Some l.window) (map (λ c. c.window) cs)
      → AllByRecursion (IsPackedSo ps) cs → AllByRecursion (IsPackedSo (k.packing ∷ ps)) cs
  unfolding IsPackedSo
  later k l ps [] differs packs h f = tt
  later k l ps (c ∷ cs) differs packs h f = (
    ap (λ (o : Option Settings). or_else o (packed_as ps c.window)) (not_here k.window k.packing.contents c.window l.window packs.children h.0 differs) ∙ f.0,
    later k l ps cs differs packs h.1 f.1,
  )

  all_later : (k : Kept) (ps : List Packed) (low : ℕ) (ls : List Kept) → k.window + 1 ≤ low → Rises (λ l. l.window) low ls → PacksChildren t k → AllPackChildren t ls → EachPackedSo ps ls → EachPackedSo (k.packing ∷ ps) ls
  unfolding EachPackedSo
  all_later k ps low [] h rises packs each f = tt
  all_later k ps low (l ∷ ls) h rises packs each f = (
    later k l ps l.packing.contents (λ e. omega (arith, h, rises.0, e)) packs each.0.children f.0,
    all_later k ps (l.window + 1) ls (omega (arith, h, rises.0)) rises.1 packs each.1 f.1,
  )

  each_packed : (low : ℕ) (ks : List Kept) → Rises (λ k. k.window) low ks → AllPackChildren t ks → EachPackedSo (packings_of ks) ks
  unfolding EachPackedSo
  each_packed low [] rises each = tt
  each_packed low (k ∷ ks) rises each = (
    here (packings_of ks) k.packing k.packing.contents (found_here k.packing.contents each.0.distinct),
    all_later k (packings_of ks) (k.window + 1) ks (omega arith) rises.1 each.0 each.1 (each_packed (k.window + 1) ks rises.1 each.1),
  )

  -- a window that has a parent is there
  pub there : (n m : ℕ) → tree.parent t n ≡ Some m → is_some (tree.of_number t.windows n) ≡ true
  there n m h = by (tree.of_number t.windows n) h
    where
      by : (o : Option tree.Window) → tree.on_window o None (λ w. tree.number_at t.windows (parent_of w.path)) ≡ Some m → is_some o ≡ true
      by None h = absurd cc
      by (Some w) h = refl

  found_in : (ps : List Packed) (m : ℕ) (cs : List Content) → AllByRecursion (λ n. tree.parent t n ≡ Some m) (map (λ c. c.window) cs) → AllByRecursion (IsPackedSo ps) cs → AllByRecursion (IsFound t ps) cs
  unfolding IsPackedSo
  found_in ps m [] h f = tt
  found_in ps m (c ∷ cs) h f = (record { there = there c.window m h.0; found = f.0 }, found_in ps m cs h.1 f.1)

  all_found : (ps : List Packed) (ks : List Kept) → AllPackChildren t ks → EachPackedSo ps ks → AllByRecursion (AreFound t ps) (packings_of ks)
  unfolding EachPackedSo
  all_found ps [] h f = tt
  all_found ps (k ∷ ks) h f = (found_in ps k.window k.packing.contents h.0.children f.0, all_found ps ks h.1 f.1)

made_again : (x : Windows) → WellFormedWindows x → windows_made x.tree.next (lines_of x) ≡ Some x
made_again x w =
    let ps = packings_of x.kept in
    let count : length ps ≡ length x.tree.windows =
    mapped_length (λ (k : Kept). k.packing) x.kept ∙ sym (mapped_length mark_of x.kept) ∙ ap (λ (ms : List (ℕ × Class)). length ms) w.in_step ∙ mapped_length window_mark x.tree.windows in
    let packed : EachPackedSo x.tree ps x.kept = each_packed x.tree 0 x.kept (kept_rises x.tree x.kept w) w.packs in
    let again = placed_again x.tree ps w.windows (record { count = count; found = all_found x.tree ps x.kept w.packs packed }) in
    ap (λ (places : List Place). with_kept (lines_of x) (placed x.tree.next places)) (places_again ps x.tree.windows x.kept)
    ∙ ap (with_kept (lines_of x)) again
    ∙ ap (λ (ks : List Kept). Some (record { tree = x.tree; kept = ks })) (kept_again ps x.tree.windows x.kept w.in_step)

-- ---- the spelling

-- those that lines are have these lines
lines_kept : (next : ℕ) (lines : List Line) → are_windows next lines ≡ true → lines_of (or_first (windows_made next lines)) ≡ lines
lines_kept next lines h = by (windows_made next lines) refl h
  where
    by : (o : Option Windows) → windows_made next lines ≡ o → is_some o ≡ true → lines_of (or_first o) ≡ lines
    by None e h = absurd (true≢false (sym h))
    by (Some x) e h = (lines_told next lines x e).0

next_kept : (next : ℕ) (lines : List Line) → are_windows next lines ≡ true → (or_first (windows_made next lines)).tree.next ≡ next
next_kept next lines h = by (windows_made next lines) refl h
  where
    by : (o : Option Windows) → windows_made next lines ≡ o → is_some o ≡ true → (or_first o).tree.next ≡ next
    by None e h = absurd (true≢false (sym h))
    by (Some x) e h = (lines_told next lines x e).1

pub windows_lawful : (next : ℕ) → Lawful (windows next)
windows_lawful next =
    through_lawful lines_of (λ lines. or_first (windows_made next lines)) _ (λ lines k. lines_kept next lines k.1)
    (test_lawful (are_windows next) (list line) (λ v h. omega arith) (list_lawful (λ before. line) (λ before. line_lawful)))

pub windows_next : (next : ℕ) (x : Windows) → (windows next).Legal x → x.tree.next ≡ next
windows_next next x h = ap (λ (y : Windows). y.tree.next) h.1 ∙ next_kept next (lines_of x) h.0.1

-- windows that stand have a spelling where each of their lines has one
pub windows_legal : (x : Windows) → WellFormedWindows x → (list line).Legal (lines_of x) → (windows x.tree.next).Legal x
windows_legal x w h =
    let again = made_again x w in (
      (h, ap (λ (o : Option Windows). is_some o) again),
      sym (ap or_first again),
    )

-- ---- line by line

pub lines_count : (all : List Packed) (ws : List tree.Window) (ks : List Kept) → InStep ws ks → length (lines_from all ws ks) ≡ length ks
lines_count all [] [] h = refl
lines_count all [] (k ∷ ks) h = absurd cc
lines_count all (w ∷ ws) [] h = refl
lines_count all (w ∷ ws) (k ∷ ks) h = ap (λ n. suc n) (lines_count all ws ks (same_behind (mark_of k) (window_mark w) (map mark_of ks) (map window_mark ws) h))

-- the line in a place
pub line_at_place : (all : List Packed) (ws : List tree.Window) (ks : List Kept) (i : ℕ) (w : tree.Window) (k : Kept) → slice_get ws i ≡ Some w → k ≡ slice_index_or ks i k → i < length ks
    → line_of all w k ≡ slice_index_or (lines_from all ws ks) i (line_of all w k)
line_at_place all [] ks i w k e h lt = absurd cc
line_at_place all (v ∷ ws) [] i w k e h lt = absurd (omega (arith, lt))
line_at_place all (v ∷ ws) (l ∷ ks) zero w k e h lt = rw (some_same v w e, sym h) refl
line_at_place all (v ∷ ws) (l ∷ ks) (suc i) w k e h lt = line_at_place all ws ks i w k e h (omega (arith, lt))

-- the window in a place has the class of what is kept there
pub class_in_step : (ws : List tree.Window) (ks : List Kept) (i : ℕ) (w : tree.Window) (k : Kept) → InStep ws ks → slice_get ws i ≡ Some w → k ≡ slice_index_or ks i k → i < length ks
    → class_of k.widget ≡ w.class
class_in_step [] ks i w k s e h lt = absurd cc
class_in_step (v ∷ ws) [] i w k s e h lt = absurd (omega (arith, lt))
class_in_step (v ∷ ws) (l ∷ ks) zero w k s e h lt =
    let first = ap (λ (m : ℕ × Class). m.1) (same_first (mark_of l) (window_mark v) (map mark_of ks) (map window_mark ws) s) in
    ap (λ (k : Kept). class_of k.widget) h ∙ first ∙ ap (λ (v : tree.Window). v.class) (some_same v w e)
class_in_step (v ∷ ws) (l ∷ ks) (suc i) w k s e h lt =
    class_in_step ws ks i w k (same_behind (mark_of l) (window_mark v) (map mark_of ks) (map window_mark ws) s) e h (omega (arith, lt))

-- ---- what was read

parts_kept : (all : List Packed) (ws : List tree.Window) (lines : List Line) (ps : List Packed) → places_from all ws ps ≡ map (λ l. l.place) lines → length lines ≡ length ps
    → kept_of_parts ws (parts_from (map held_of lines) ps) ≡ kept_from lines ps
parts_kept all [] [] ps e h = refl
parts_kept all [] (l ∷ lines) ps e h = absurd cc
parts_kept all (w ∷ ws) [] ps e h = refl
parts_kept all (w ∷ ws) (l ∷ lines) [] e h = absurd cc
parts_kept all (w ∷ ws) (l ∷ lines) (p ∷ ps) e h =
    let places = places_from all ws ps in
    let others = map (λ (l : Line). l.place) lines in
    let number : w.number ≡ l.place.window = ap (λ (x : Place). x.window) (same_first (place_of all w p) l.place places others e) in
    ap (λ n. record (kept_of l p) { window = n } ∷ kept_of_parts ws (parts_from (map held_of lines) ps)) number
    ∙ ap (λ (ks : List Kept). kept_of l p ∷ ks) (parts_kept all ws lines ps (same_behind (place_of all w p) l.place places others e) (omega (arith, h)))

pub made_seen : (next : ℕ) (lines : List Line) (t : tree.Windows) (ps : List Packed) (parts : List WindowParts) → placed next (map (λ l. l.place) lines) ≡ Some (t, ps)
    → parts ≡ parts_from (map held_of lines) ps → Some (record { tree = t; kept = kept_of_parts t.windows parts }) ≡ windows_made next lines
made_seen next lines t ps parts found is =
    let places = map (λ (l : Line). l.place) lines in
    let told = placed_from next places t ps found in
    let count : length lines ≡ length ps =
    sym (mapped_length (λ (l : Line). l.place) lines) ∙ sym (mapped_length _ places) ∙ ap (λ (qs : List Packed). length qs) (packings_told next places t ps found) in
    ap (λ (x : List WindowParts). Some (record { tree = t; kept = kept_of_parts t.windows x })) is
    ∙ ap (λ (ks : List Kept). Some (record { tree = t; kept = ks })) (parts_kept ps t.windows lines ps told.0 count)
    ∙ sym (ap (with_kept lines) found)
