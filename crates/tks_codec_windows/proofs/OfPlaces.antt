-- The tree and what is packed in its windows are made again of their places, and of nothing else.
use Rattle.std.proofs.Common.{◌≡◌, ℕ, ◌+◌, ◌<◌, ◌≤◌, Bool, true, false, ◌&&◌, ◌||◌, not, nat_le, nat_lt, List, [], ◌∷◌, ◌++◌, length, map, Option, Some, None, is_some, refl, sym, ap, subst, ◌∙◌, true≢false, append_assoc, arith, if◌then◌else◌, Ok, Err, Result}
use Rattle.std.specs.Prelude.{◌==◌}
use Rattle.std.specs.List.{AllByRecursion}
use Rattle.std.specs.Cmp.Lexicographic.{bytes_decides}
use Rattle.std.proofs.lemmas.List.{append-nil}
use Rattle.std.proofs.lemmas.Bool.{eqb-true, eq-eqb, le-leb}
use Rattle.tks_text.specs.Text.{same_text}
use Rattle.tks_text.specs.declared.class.Class.{Class}
use Rattle.tks_text.specs.declared.class.Class.TheVariants as class
use Rattle.tks_opt.specs.Numbers.{anchor_number, anchor_numbered}
use Rattle.tks_opt.specs.declared.anchor.Anchor.{Anchor}
use Rattle.tks_opt.specs.declared.anchor.Anchor.TheVariants as anchors
use Rattle.tks_tree.specs.Path.{root_path, parent_of}
use Rattle.tks_tree.specs.Windows.{Window, Windows, Refusal, root, first_windows, max_number, of_number, has_path, parent_found, free_path, refused, numbered, created, with_window, may_skip, skipped}
use Rattle.tks_tree.specs.Windows as tree
use Rattle.tks_tree.specs.WellFormed.{Rise, StandsIn, Follows, AllFollow, is_widget_class, HaveOwnClasses, WellFormed}
use Rattle.tks_tree.proofs.Trees.{both, first_true, second_true, from_some, some_is_none, made}
use Rattle.tks_text.specs.declared.fault.ErrorNumber.TheVariants.{BadPath, WindowExists, NoSuchWindow}
use Rattle.tks_pack.specs.Numbers.{side_number, side_numbered, fill_number, fill_numbered}
use Rattle.tks_pack.specs.Packing.{Packed}
use Rattle.tks_pack.specs.declared.packing.Content.{Content}
use Rattle.tks_pack.specs.declared.settings.Settings.{Settings}
use Rattle.tks_pack.specs.declared.settings.Side.{Side}
use Rattle.tks_pack.specs.declared.settings.Side.TheVariants.{Top, Bottom, Left, Right}
use Rattle.tks_pack.specs.declared.settings.Fill.{Fill}
use Rattle.tks_pack.specs.declared.settings.Fill.TheVariants.{Neither, X, Y, Both}
use Rattle.tks_codec_windows.specs.Packing as kinds
use Rattle.tks_codec_windows.specs.Places.{packed_as, place_of, places_from, places_of, on_tree, tree_made, with_number, with_place, with_places, is_first, ended, tree_of, or_default, settings_of, content_of, packed_in, packings_in, same_flag, same_settings, same_packing, are_packed, agreeing, placed, IsFound, AreFound, PacksEach}
use Rattle.tks_codec_windows.specs.declared.place.Place.{Place}

-- ---- settings that are the same

-- what a number names
side_again : (s : Side) → kinds.or_first Top (side_numbered (side_number s)) ≡ s
side_again Top = refl
side_again Bottom = refl
side_again Left = refl
side_again Right = refl

fill_again : (f : Fill) → kinds.or_first Neither (fill_numbered (fill_number f)) ≡ f
fill_again Neither = refl
fill_again X = refl
fill_again Y = refl
fill_again Both = refl

anchor_again : (a : Anchor) → kinds.or_first anchors.Center (anchor_numbered (anchor_number a)) ≡ a
anchor_again anchors.Center = refl
anchor_again anchors.North = refl
anchor_again anchors.NorthEast = refl
anchor_again anchors.East = refl
anchor_again anchors.SouthEast = refl
anchor_again anchors.South = refl
anchor_again anchors.SouthWest = refl
anchor_again anchors.West = refl
anchor_again anchors.NorthWest = refl

-- what have the same number are the same
side_told : (a b : Side) → side_number a ≡ side_number b → a ≡ b
side_told a b e = sym (side_again a) ∙ ap (λ n. kinds.or_first Top (side_numbered n)) e ∙ side_again b

fill_told : (a b : Fill) → fill_number a ≡ fill_number b → a ≡ b
fill_told a b e = sym (fill_again a) ∙ ap (λ n. kinds.or_first Neither (fill_numbered n)) e ∙ fill_again b

anchor_told : (a b : Anchor) → anchor_number a ≡ anchor_number b → a ≡ b
anchor_told a b e = sym (anchor_again a) ∙ ap (λ n. kinds.or_first anchors.Center (anchor_numbered n)) e ∙ anchor_again b

flag_told : (a b : Bool) → same_flag a b ≡ true → a ≡ b
flag_told true true h = refl
flag_told true false h = absurd (true≢false (sym h))
flag_told false true h = absurd (true≢false (sym h))
flag_told false false h = refl

flag_again : (b : Bool) → same_flag b b ≡ true
flag_again true = refl
flag_again false = refl

same_fields : (a b : Settings) → a.side ≡ b.side → a.fill ≡ b.fill → a.expand ≡ b.expand → a.anchor ≡ b.anchor → a.padx ≡ b.padx → a.pady ≡ b.pady → a.ipadx ≡ b.ipadx → a.ipady ≡ b.ipady → a ≡ b
same_fields a b s f e n px py ipx ipy = rw (s, f, e, n, px, py, ipx, ipy) refl

settings_told : (a b : Settings) → same_settings a b ≡ true → a ≡ b
settings_told a b h =
    let h1 = second_true _ _ h in
    let h2 = second_true _ _ h1 in
    let h3 = second_true _ _ h2 in
    let h4 = second_true _ _ h3 in
    let h5 = second_true _ _ h4 in
    let h6 = second_true _ _ h5 in
    same_fields a b (side_told a.side b.side (eqb-true _ _ (first_true _ _ h))) (fill_told a.fill b.fill (eqb-true _ _ (first_true _ _ h1)))
    (flag_told a.expand b.expand (first_true _ _ h2)) (anchor_told a.anchor b.anchor (eqb-true _ _ (first_true _ _ h3)))
    (eqb-true _ _ (first_true _ _ h4)) (eqb-true _ _ (first_true _ _ h5)) (eqb-true _ _ (first_true _ _ h6)) (eqb-true _ _ (second_true _ _ h6))

settings_again : (s : Settings) → same_settings s s ≡ true
settings_again s =
    both (side_number s.side == side_number s.side) _ (eq-eqb (side_number s.side) (side_number s.side) refl)
    (both (fill_number s.fill == fill_number s.fill) _ (eq-eqb (fill_number s.fill) (fill_number s.fill) refl)
    (both (same_flag s.expand s.expand) _ (flag_again s.expand)
    (both (anchor_number s.anchor == anchor_number s.anchor) _ (eq-eqb (anchor_number s.anchor) (anchor_number s.anchor) refl)
    (both (s.padx == s.padx) _ (eq-eqb s.padx s.padx refl)
    (both (s.pady == s.pady) _ (eq-eqb s.pady s.pady refl)
    (both (s.ipadx == s.ipadx) (s.ipady == s.ipady) (eq-eqb s.ipadx s.ipadx refl) (eq-eqb s.ipady s.ipady refl)))))))

packing_told : (a b : Option Settings) → same_packing a b ≡ true → a ≡ b
packing_told None None h = refl
packing_told None (Some b) h = absurd (true≢false (sym h))
packing_told (Some a) None h = absurd (true≢false (sym h))
packing_told (Some a) (Some b) h = ap (λ s. Some s) (settings_told a b h)

packing_again : (a : Option Settings) → same_packing a a ≡ true
packing_again None = refl
packing_again (Some s) = settings_again s

-- ---- places that were read

-- `.` alone has no widget's class
class_told : (c : Class) → not (is_widget_class c) ≡ true → c ≡ class.Root
class_told class.Root h = refl
class_told class.Frame h = absurd (true≢false (sym h))
class_told class.Label h = absurd (true≢false (sym h))
class_told class.Button h = absurd (true≢false (sym h))
class_told class.Checkbutton h = absurd (true≢false (sym h))
class_told class.Entry h = absurd (true≢false (sym h))
class_told class.Listbox h = absurd (true≢false (sym h))
class_told class.Text h = absurd (true≢false (sym h))

abbrev window_of : Place → Window
window_of p = record { number = p.window; path = p.path; class = p.class }

-- a window that was made
created_told : (t u : Windows) (path : List ℕ) (class : Class) → tree_made (created t path class) ≡ Some u → u ≡ with_window t path class
created_told t u path class h = by (free_path t.windows path) h
  where
    by_number : (b : Bool) → tree_made (if b then Ok (t.next, with_window t path class) else Err tree.OutOfNumbers) ≡ Some u → u ≡ with_window t path class
    by_number true h = sym (ap (from_some u) h)
    by_number false h = absurd (some_is_none (sym h))

    by : (r : Result (Unit {0}) Refusal) → tree_made (tree.after r (λ _. numbered t path class)) ≡ Some u → u ≡ with_window t path class
    by (Ok _) h = by_number (nat_lt t.next max_number) h
    by (Err why) h = absurd (some_is_none (sym h))

place_told : (t u : Windows) (p : Place) → with_place t p ≡ Some u → u.windows ≡ t.windows ++ window_of p ∷ []
place_told t u p h = by_class (is_widget_class p.class) h
  where
    by : (b : Bool) → (if b then tree_made (created (if b then record t { next = p.window } else t) p.path p.class) else None) ≡ Some u → u.windows ≡ t.windows ++ window_of p ∷ []
    by true h = ap (λ (x : Windows). x.windows) (created_told (record t { next = p.window }) u p.path p.class h)
    by false h = absurd (some_is_none (sym h))

    by_class : (b : Bool) → (if b then with_number t p else None) ≡ Some u → u.windows ≡ t.windows ++ window_of p ∷ []
    by_class true h = by (may_skip t p.window) h
    by_class false h = absurd (some_is_none (sym h))

places_told : (t u : Windows) (places : List Place) → with_places t places ≡ Some u → u.windows ≡ t.windows ++ map window_of places
places_told t u [] h = ap (λ (o : Option Windows). (from_some t o).windows) (sym h) ∙ sym (append-nil t.windows)
places_told t u (p ∷ places) h = by (with_place t p) refl h (λ v. places_told v u places)
  where
    by : (o : Option Windows) → with_place t p ≡ o → on_tree o (λ v. with_places v places) ≡ Some u
        → ((v : Windows) → with_places v places ≡ Some u → u.windows ≡ v.windows ++ map window_of places) → u.windows ≡ t.windows ++ window_of p ∷ map window_of places
    by None e h others = absurd (some_is_none (sym h))
    by (Some v) e h others =
        others v h ∙ ap (λ ws. ws ++ map window_of places) (place_told t v p e) ∙ append_assoc t.windows (window_of p ∷ []) (map window_of places)

contents_told : (places : List Place) (ns : List ℕ) → map (λ c. c.window) (map (content_of places) ns) ≡ ns
contents_told places [] = refl
contents_told places (n ∷ ns) = ap (λ (xs : List ℕ). n ∷ xs) (contents_told places ns)

place_again : (all : List Place) (qs : List Packed) (p : Place) → packed_as qs p.window ≡ p.packing → place_of qs (window_of p) (packed_in all p) ≡ p
place_again all qs p e = rw (contents_told all p.contents, e) refl

all_again : (all : List Place) (qs : List Packed) (places : List Place) → are_packed qs places ≡ true → places_from qs (map window_of places) (map (packed_in all) places) ≡ places
all_again all qs [] h = refl
all_again all qs (p ∷ places) h =
    ap (λ (q : Place). q ∷ places_from qs (map window_of places) (map (packed_in all) places)) (place_again all qs p (packing_told _ _ (first_true _ _ h)))
    ∙ ap (λ (qs : List Place). p ∷ qs) (all_again all qs places (second_true _ _ h))

-- the place of `.` is that of the first window
same_window : (v w : Window) → v.number ≡ w.number → v.path ≡ w.path → v.class ≡ w.class → v ≡ w
same_window v w n p c = rw (n, p, c) refl

first_told : (p : Place) → is_first p ≡ true → window_of p ≡ root
first_told p h =
    let named = second_true (p.window == 0) (same_text p.path root_path && not (is_widget_class p.class)) h in
    same_window (window_of p) root (eqb-true p.window 0 (first_true (p.window == 0) (same_text p.path root_path && not (is_widget_class p.class)) h))
    ((bytes_decides p.path root_path).0 (first_true (same_text p.path root_path) (not (is_widget_class p.class)) named))
    (class_told p.class (second_true (same_text p.path root_path) (not (is_widget_class p.class)) named))

tree_told : (next : ℕ) (places : List Place) (t : Windows) → tree_of next places ≡ Some t → (t.windows ≡ map window_of places) × (t.next ≡ next)
tree_told next [] t h = absurd (some_is_none (sym h))
tree_told next (p ∷ places) t h = by_first (is_first p) refl h
  where
    by_next : (u : Windows) (b : Bool) → (if b then Some (if b then record u { next = next } else u) else None) ≡ Some t → (t.windows ≡ u.windows) × (t.next ≡ next)
    by_next u true h = let e = sym (ap (from_some t) h) in (ap (λ (x : Windows). x.windows) e, ap (λ (x : Windows). x.next) e)
    by_next u false h = absurd (some_is_none (sym h))

    by_places : (o : Option Windows) → with_places first_windows places ≡ o → on_tree o (ended next) ≡ Some t → (t.windows ≡ root ∷ map window_of places) × (t.next ≡ next)
    by_places None e h = absurd (some_is_none (sym h))
    by_places (Some u) e h =
        let n = by_next u (may_skip u next) h in
        (n.0 ∙ places_told first_windows u places e, n.1)

    by_first : (b : Bool) → is_first p ≡ b → (if b then on_tree (with_places first_windows places) (ended next) else None) ≡ Some t → (t.windows ≡ window_of p ∷ map window_of places) × (t.next ≡ next)
    by_first true e h =
        let r = by_places (with_places first_windows places) refl h in
        (r.0 ∙ ap (λ w. w ∷ map window_of places) (sym (first_told p e)), r.1)
    by_first false e h = absurd (some_is_none (sym h))

abbrev pair_of : {A B : Type 0} → (A × B) → Option (A × B) → A × B
pair_of d None = d
pair_of d (Some x) = x

-- where windows were made of places, these are their places
pub placed_from : (next : ℕ) (places : List Place) (t : Windows) (ps : List Packed) → placed next places ≡ Some (t, ps) → (places_of t ps ≡ places) × (t.next ≡ next)
placed_from next places t ps h = by_tree (tree_of next places) refl h
  where
    qs : List Packed
    qs = packings_in places

    found : Windows → Bool → Option (Windows × List Packed)
    found u b = if b then Some (u, qs) else None

    by : (u : Windows) (b : Bool) → are_packed qs places ≡ b → tree_of next places ≡ Some u → found u b ≡ Some (t, ps) → (places_of t ps ≡ places) × (t.next ≡ next)
    by u true agrees e h =
        let same = sym (ap (pair_of (t, ps)) h) in
        let told = tree_told next places u e in (
          ap (λ (x : Windows × List Packed). places_of x.0 x.1) same ∙ ap (λ ws. places_from qs ws qs) told.0 ∙ all_again places qs places agrees,
          ap (λ (x : Windows × List Packed). x.0.next) same ∙ told.1,
        )
    by u false agrees e h = absurd (some_is_none (sym h))

    by_tree : (o : Option Windows) → tree_of next places ≡ o → on_tree o (agreeing places qs) ≡ Some (t, ps) → (places_of t ps ≡ places) × (t.next ≡ next)
    by_tree None e h = absurd (some_is_none (sym h))
    by_tree (Some u) e h = by u (are_packed qs places) refl e h

-- ---- windows that have places

free_again : (before : List Window) (w : Window) → Follows before w → free_path before w.path ≡ Ok (tt {0})
free_again before w f =
    ap (λ (b : Bool). if not b then refused BadPath w.path else (if has_path before w.path then refused WindowExists w.path else parent_found before (parent_of w.path))) f.path
    ∙ ap (λ (b : Bool). if b then refused WindowExists w.path else parent_found before (parent_of w.path)) f.new
    ∙ by (parent_of w.path) f.parent
  where
    by : (o : Option (List ℕ)) → StandsIn o before → parent_found before o ≡ Ok (tt {0})
    by None s = refl
    by (Some parent) s = ap (λ (b : Bool). if b then Ok (tt {0}) else refused NoSuchWindow parent) s

may_again : (t : Windows) (n : ℕ) → t.next ≤ n → n ≤ max_number → may_skip t n ≡ true
may_again t n low high = both (nat_le t.next n) (nat_le n max_number) (le-leb t.next n low) (le-leb n max_number high)

-- a window is made again behind those before it
window_again : (t : Windows) (w : Window) (qs : List Packed) (p : Packed) → t.next ≤ w.number → w.number < max_number → is_widget_class w.class ≡ true → Follows t.windows w
    → with_place t (place_of qs w p) ≡ Some (record { windows = t.windows ++ w ∷ []; next = w.number + 1 })
window_again t w qs p low high own f =
    let may = may_again t w.number low (omega (arith, high)) in
    ap (λ (b : Bool). if b then with_number t (place_of qs w p) else None) own
    ∙ ap (λ (b : Bool). if b then tree_made (created (if b then record t { next = w.number } else t) w.path w.class) else None) may
    ∙ ap tree_made (made (record t { next = w.number }) w.path w.class (free_again t.windows w f) high)

-- the next number behind some windows
abbrev next_behind : ℕ → List Window → ℕ
next_behind n [] = n
next_behind n (w ∷ ws) = next_behind (w.number + 1) ws

behind_below : (low : ℕ) (ws : List Window) (high : ℕ) → Rise low ws high → next_behind low ws ≤ high
behind_below low [] high r = r
behind_below low (w ∷ ws) high r = behind_below (w.number + 1) ws high r.1

below_next : (low : ℕ) (w : Window) (ws : List Window) (high : ℕ) → Rise low (w ∷ ws) high → w.number < high
below_next low w [] high r = omega (arith, r.1)
below_next low w (v ∷ ws) high r = omega (arith, r.1.0, below_next (w.number + 1) v ws high r.1)

windows_again : (t : Windows) (later : List Window) (qs ps : List Packed) (high : ℕ) → length ps ≡ length later → Rise t.next later high → high ≤ max_number
    → AllByRecursion (λ w. is_widget_class w.class ≡ true) later → AllFollow t.windows later
    → with_places t (places_from qs later ps) ≡ Some (record { windows = t.windows ++ later; next = next_behind t.next later })
windows_again t [] qs ps high count r bound own f = ap (λ ws. Some (record { windows = ws; next = t.next })) (sym (append-nil t.windows))
windows_again t (w ∷ later) qs [] high count r bound own f = absurd cc
windows_again t (w ∷ later) qs (p ∷ ps) high count r bound own f =
    let u : Windows = record { windows = t.windows ++ w ∷ []; next = w.number + 1 } in
    ap (λ o. on_tree o (λ v. with_places v (places_from qs later ps))) (window_again t w qs p r.0 (omega (arith, bound, below_next t.next w later high r)) own.0 f.0)
    ∙ windows_again u later qs ps high (omega (arith, count)) r.1 bound own.1 f.1
    ∙ ap (λ ws. Some (record { windows = ws; next = next_behind (w.number + 1) later })) (append_assoc t.windows (w ∷ []) later)

-- windows behind `.` are of classes of widgets
widget_classes : (low : ℕ) (later : List Window) (high : ℕ) → 0 < low → Rise low later high → HaveOwnClasses later → AllByRecursion (λ w. is_widget_class w.class ≡ true) later
widget_classes low [] high some r own = tt
widget_classes low (w ∷ later) high some r own = (by (w.number == 0) refl own.0, widget_classes (w.number + 1) later high (omega arith) r.1 own.1)
  where
    by : (b : Bool) → (w.number == 0) ≡ b → (b || is_widget_class w.class) ≡ true → is_widget_class w.class ≡ true
    by true e h = absurd (omega (arith, some, r.0, eqb-true w.number 0 e))
    by false e h = h

tree_again : (later : List Window) (next : ℕ) (qs ps : List Packed) → length ps ≡ length (root ∷ later) → WellFormed (record { windows = root ∷ later; next = next })
    → tree_of next (places_from qs (root ∷ later) ps) ≡ Some (record { windows = root ∷ later; next = next })
tree_again later next qs [] count w = absurd cc
tree_again later next qs (p ∷ ps) count w =
    let u : Windows = record { windows = root ∷ later; next = next_behind 1 later } in
    let below = behind_below 1 later next w.numbered.1 in
    ap (λ o. on_tree o (ended next)) (windows_again first_windows later qs ps next (omega (arith, count)) w.numbered.1 w.bounded (widget_classes 1 later next (omega arith) w.numbered.1 w.classes.1) w.founded.1)
    ∙ ap (λ (b : Bool). if b then Some (if b then record u { next = next } else u) else None) (may_again u next below w.bounded)

settings_at : (qs : List Packed) (ws : List Window) (ps : List Packed) (n : ℕ) → length ps ≡ length ws → is_some (of_number ws n) ≡ true → settings_of (places_from qs ws ps) n ≡ or_default (packed_as qs n)
settings_at qs [] ps n count h = absurd (true≢false (sym h))
settings_at qs (w ∷ ws) [] n count h = absurd cc
settings_at qs (w ∷ ws) (p ∷ ps) n count h = by (w.number == n) refl h (settings_at qs ws ps n (omega (arith, count)))
  where
    by : (b : Bool) → (w.number == n) ≡ b → is_some (if b then Some w else of_number ws n) ≡ true
        → (is_some (of_number ws n) ≡ true → settings_of (places_from qs ws ps) n ≡ or_default (packed_as qs n))
        → (if b then or_default (packed_as qs w.number) else settings_of (places_from qs ws ps) n) ≡ or_default (packed_as qs n)
    by true e h others = ap (λ n. or_default (packed_as qs n)) (eqb-true w.number n e)
    by false e h others = others h

module _ (t : Windows) (qs : List Packed) (count : length qs ≡ length t.windows) where
  abbrev all : List Place
  all = places_of t qs

  content_again : (c : Content) → IsFound t qs c → content_of all c.window ≡ c
  content_again c f = rw (settings_at qs t.windows qs c.window count f.there ∙ ap or_default f.found) refl

  contents_again : (cs : List Content) → AllByRecursion (IsFound t qs) cs → map (content_of all) (map (λ c. c.window) cs) ≡ cs
  contents_again [] f = refl
  contents_again (c ∷ cs) f =
      ap (λ (d : Content). d ∷ map (content_of all) (map (λ c. c.window) cs)) (content_again c f.0) ∙ ap (λ (ds : List Content). c ∷ ds) (contents_again cs f.1)

  packed_again : (w : Window) (p : Packed) → AreFound t qs p → packed_in all (place_of qs w p) ≡ p
  packed_again w p f = rw (contents_again p.contents f) refl

  packings_again : (ws : List Window) (ps : List Packed) → length ps ≡ length ws → AllByRecursion (AreFound t qs) ps → map (packed_in all) (places_from qs ws ps) ≡ ps
  packings_again [] [] k f = refl
  packings_again [] (p ∷ ps) k f = absurd cc
  packings_again (w ∷ ws) [] k f = absurd cc
  packings_again (w ∷ ws) (p ∷ ps) k f =
      ap (λ (q : Packed). q ∷ map (packed_in all) (places_from qs ws ps)) (packed_again w p f.0) ∙ ap (λ (qs : List Packed). p ∷ qs) (packings_again ws ps (omega (arith, k)) f.1)

agrees_again : (qs : List Packed) (ws : List Window) (ps : List Packed) → are_packed qs (places_from qs ws ps) ≡ true
agrees_again qs [] ps = refl
agrees_again qs (w ∷ ws) [] = refl
agrees_again qs (w ∷ ws) (p ∷ ps) = both _ _ (packing_again (packed_as qs w.number)) (agrees_again qs ws ps)

-- windows are made again of their places
pub placed_again : (t : Windows) (ps : List Packed) → WellFormed t → PacksEach t ps → placed t.next (places_of t ps) ≡ Some (t, ps)
placed_again t ps w f =
    let later = w.first.0 in
    let same : t ≡ record { windows = root ∷ later; next = t.next } = ap (λ ws. record t { windows = ws }) w.first.1 in
    let tree : tree_of t.next (places_of t ps) ≡ Some t =
    ap (λ (x : Windows). tree_of x.next (places_of x ps)) same ∙ tree_again later t.next ps ps (f.count ∙ ap (λ (x : Windows). length x.windows) same) (subst WellFormed same w) ∙ ap (λ x. Some x) (sym same) in
    let packings : packings_in (places_of t ps) ≡ ps = packings_again t ps f.count t.windows ps f.count f.found in
    ap (λ o. on_tree o (agreeing (places_of t ps) (packings_in (places_of t ps)))) tree
    ∙ ap (λ qs. agreeing (places_of t ps) qs t) packings
    ∙ ap (λ (b : Bool). if b then Some (t, ps) else None) (agrees_again ps t.windows ps)
