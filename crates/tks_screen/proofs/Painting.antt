-- Panes painted on the grid in drawing order.
use Rattle.std.proofs.Common.{◌≡◌, ℕ, ◌+◌, ◌<◌, ◌≤◌, ◌&&◌, nat_le, nat_lt, Bool, true, false, if◌then◌else◌, List, [], ◌∷◌, length, get_or, take, ◌++◌, Option, Some, None, min, refl, sym, ap, ◌∙◌, arith}
use Rattle.std.proofs.lemmas.Bool.Decides.{nat_tests}
use Rattle.std.proofs.lemmas.List.{ext_get_or, take_more}
use Rattle.std.proofs.lemmas.List.FromFn.{length-map-range_with_len, get_or-map-range_with_len}
use Rattle.tks_opt.specs.Cells.{space, row, rows}
use Rattle.tks_pack.specs.declared.area.Area.{Area}
use Rattle.tks_vars.specs.Variables.{Variables}
use Rattle.tks_state.specs.Layout.{covers, last_over}
use Rattle.tks_state.specs.declared.kept.Kept.{Kept}
use Rattle.tks_state.specs.declared.layout.Placed.{Placed}
use Rattle.tks_state.proofs.Layouts.{last_of}
use Rattle.tks_screen.specs.Screen.{seen}
use Rattle.tks_screen.specs.Panes.{pane_of, over, over_row, over_rows, character_of}
use Rattle.tks_screen.specs.declared.pane.Pane.{Pane}
use Rattle.tks_screen.proofs.Changing.{changed_to, all_changed}

-- which cells are not a pane's
outside_columns : (a : Area) (x y to long : ℕ) → x < long → min (a.x + a.width) long ≤ to → (nat_le a.x x && nat_lt x to) ≡ false → covers a x y ≡ false
outside_columns a x y to long within behind other = grind (arith, nat_tests)

outside_lines : (a : Area) (x y to long : ℕ) → y < long → min (a.y + a.height) long ≤ to → (nat_le a.y y && nat_lt y to) ≡ false → covers a x y ≡ false
outside_lines a x y to long within behind other = grind (arith, nat_tests)

-- a line whose cells in a pane's columns are painted
pub line_painted : (p : Pane) (y to : ℕ) (old now : List ℕ) → length now ≡ length old
    → ((x : ℕ) → get_or now x space ≡ changed_to (λ x c. over p c x y) space p.area.x to old x)
    → min (p.area.x + p.area.width) (length old) ≤ to → now ≡ over_row p y old
line_painted p y to old now long painted behind = all_changed (λ x c. over p c x y) space p.area.x to old now long painted stays
  where
    stays : (x : ℕ) → x < length old → (nat_le p.area.x x && nat_lt x to) ≡ false → over p (get_or old x space) x y ≡ get_or old x space
    stays x within other = rw (outside_columns p.area x y to (length old) within behind other) refl

-- a line that a pane doesn't have stays
line_stays : (p : Pane) (y : ℕ) (cells : List ℕ) → ((x : ℕ) → covers p.area x y ≡ false) → over_row p y cells ≡ cells
line_stays p y cells outside =
    ext_get_or space (over_row p y cells) cells over_long
    (λ x within. get_or-map-range_with_len each 0 (length cells) x x space (omega (arith, over_long)) (omega arith) ∙ same x)
  where
    each : ℕ → ℕ
    each x = over p (get_or cells x space) x y

    over_long : length (over_row p y cells) ≡ length cells
    over_long = length-map-range_with_len each 0 (length cells)

    same : (x : ℕ) → each x ≡ get_or cells x space
    same x = rw (outside x) refl

-- a grid on which a pane's lines are painted
pub lines_painted : (p : Pane) (to : ℕ) (old now : List (List ℕ)) → length now ≡ length old
    → ((y : ℕ) → get_or now y [] ≡ changed_to (over_row p) [] p.area.y to old y)
    → min (p.area.y + p.area.height) (length old) ≤ to → now ≡ over_rows p old
lines_painted p to old now long painted behind = all_changed (over_row p) [] p.area.y to old now long painted stays
  where
    stays : (y : ℕ) → y < length old → (nat_le p.area.y y && nat_lt y to) ≡ false → over_row p y (get_or old y []) ≡ get_or old y []
    stays y within other = line_stays p y (get_or old y []) (λ x. outside_lines p.area x y to (length old) within behind other)

-- cells that a function gives, with a pane over them
over_cells : (p : Pane) (y : ℕ) (cell : ℕ → ℕ) (width : ℕ) → over_row p y (row cell width) ≡ row (λ x. over p (cell x) x y) width
over_cells p y cell width =
    ext_get_or space (over_row p y cells) (row painted width) (over_long ∙ sym (length-map-range_with_len painted 0 width))
    (λ x within. at x (omega (arith, over_long)))
  where
    cells : List ℕ
    cells = row cell width

    painted : ℕ → ℕ
    painted x = over p (cell x) x y

    cells_long : length cells ≡ width
    cells_long = length-map-range_with_len cell 0 width

    over_long : length (over_row p y cells) ≡ width
    over_long = length-map-range_with_len (λ x. over p (get_or cells x space) x y) 0 (length cells) ∙ cells_long

    at : (x : ℕ) → x < width → get_or (over_row p y cells) x space ≡ get_or (row painted width) x space
    at x within =
        get_or-map-range_with_len (λ k. over p (get_or cells k space) k y) 0 (length cells) x x space (omega (arith, cells_long)) (omega arith)
        ∙ ap (λ c. over p c x y) (get_or-map-range_with_len cell 0 width x x space within (omega arith))
        ∙ sym (get_or-map-range_with_len painted 0 width x x space within (omega arith))

over_all_cells : (p : Pane) (cell : ℕ → ℕ → ℕ) (width height : ℕ) → over_rows p (rows cell width height) ≡ rows (λ x y. over p (cell x y) x y) width height
over_all_cells p cell width height =
    ext_get_or [] (over_rows p cells) (rows (λ x y. over p (cell x y) x y) width height) (over_long ∙ sym (length-map-range_with_len painted 0 height))
    (λ y within. at y (omega (arith, over_long)))
  where
    cells : List (List ℕ)
    cells = rows cell width height

    painted : ℕ → List ℕ
    painted y = row (λ x. over p (cell x y) x y) width

    cells_long : length cells ≡ height
    cells_long = length-map-range_with_len (λ y. row (λ x. cell x y) width) 0 height

    over_long : length (over_rows p cells) ≡ height
    over_long = length-map-range_with_len (λ y. over_row p y (get_or cells y [])) 0 (length cells) ∙ cells_long

    at : (y : ℕ) → y < height → get_or (over_rows p cells) y [] ≡ get_or (rows (λ x y. over p (cell x y) x y) width height) y []
    at y within =
        get_or-map-range_with_len (λ k. over_row p k (get_or cells k [])) 0 (length cells) y y [] (omega (arith, cells_long)) (omega arith)
        ∙ ap (over_row p y) (get_or-map-range_with_len (λ k. row (λ x. cell x k) width) 0 height y y [] within (omega arith))
        ∙ over_cells p y (λ x. cell x y) width
        ∙ sym (get_or-map-range_with_len painted 0 height y y [] within (omega arith))

-- with one more window in front of all
painted_last : (variables : Variables) (kept : List Kept) (before : List Placed) (p : Placed) (x y : ℕ)
    → over (pane_of variables kept p) (character_of variables kept before x y) x y ≡ character_of variables kept (before ++ p ∷ []) x y
painted_last variables kept before p x y = rw (last_of before p x y) (by (covers p.area x y))
  where
    by : (b : Bool) → (if b then seen variables kept (Some p) x y else character_of variables kept before x y) ≡ seen variables kept (if b then Some p else last_over before x y) x y
    by true = refl
    by false = refl

-- the windows so far and the next one, in drawing order
pub one_more_window : (variables : Variables) (kept : List Kept) (shown : List Placed) (i : ℕ) (p : Placed) (width height : ℕ) (old new : List (List ℕ)) → i < length shown → p ≡ get_or shown i p
    → old ≡ rows (character_of variables kept (take i shown)) width height → new ≡ over_rows (pane_of variables kept p) old
    → new ≡ rows (character_of variables kept (take (i + 1) shown)) width height
one_more_window variables kept shown i p width height old new within item so_far made =
    made ∙ ap (over_rows (pane_of variables kept p)) so_far ∙ over_all_cells (pane_of variables kept p) (character_of variables kept (take i shown)) width height
    ∙ (λ j. rows (λ x y. painted_last variables kept (take i shown) p x y j) width height)
    ∙ ap (λ ps. rows (character_of variables kept ps) width height) (sym (take_more shown i p within ∙ ap (λ q. take i shown ++ q ∷ []) (sym item)))
