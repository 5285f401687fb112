-- The cursor is shown.
use Rattle.std.proofs.Common.{◌≡◌, ℕ, zero, suc, ◌+◌, ◌-◌, ◌<◌, ◌≤◌, nat_lt, false, if◌then◌else◌, List, [], ◌∷◌, length, drop, Option, Some, None, refl, ap, ◌∙◌, arith}
use Rattle.std.specs.Prelude.{map, option_and_then, slice_get}
use Rattle.std.specs.List.{range_with_len}
use Rattle.std.proofs.lemmas.Bool.Decides.{nat_tests}
use Rattle.std.proofs.lemmas.Option.{slice_get-get_or}
use Rattle.std.proofs.lemmas.List.FromFn.{length-map-range_with_len, get_or-map-range_with_len}
use Rattle.tks_opt.specs.Cells.{space, character, row, rows}
use Rattle.tks_opt.specs.Options.{value_in}
use Rattle.tks_opt.specs.Table.{max_size}
use Rattle.tks_opt.specs.Values.{number_within}
use Rattle.tks_opt.specs.declared.name.OptionName.TheVariants as name
use Rattle.tks_entry.specs.Entry.{Entry, cursor_place}
use Rattle.tks_entry.specs.Shown.{or_length, requested_width, masked, first_seen, seen, line_in_first}
use Rattle.tks_entry.specs.Laws.{cursor_column, ShowsCursor}

-- what stands behind others
got_behind : {X : Type 0} (n : ℕ) (xs : List X) (i : ℕ) → slice_get (drop n xs) i ≡ slice_get xs (n + i)
got_behind zero xs i = ap (slice_get xs) (omega arith)
got_behind (suc n) [] i = refl
got_behind (suc n) (x ∷ xs) i =
    let next : suc (n + i) ≡ suc n + i = omega arith in
    got_behind n xs i ∙ ap (slice_get (x ∷ xs)) next

-- what a function gives at a place
got_of : {X : Type 0} (f : ℕ → X) (n i : ℕ) → i < n → slice_get (map f (range_with_len 0 n)) i ≡ Some (f i)
got_of f n i within =
    slice_get-get_or (map f (range_with_len 0 n)) i (f i) (omega (arith, length-map-range_with_len f 0 n))
    ∙ ap Some (get_or-map-range_with_len f 0 n i i (f i) within (omega arith))

wide : (width : Option ℕ) (len : ℕ) → 1 ≤ or_length width len
wide None len = omega arith
wide (Some n) len = grind (arith, nat_tests)

pub column_inside : (e : Entry) → cursor_column e < requested_width e
column_inside e =
    let some = wide (option_and_then (number_within 0 max_size) (value_in e.options.values name.Width)) (length e.text) in
    omega arith

-- a cell of the first row
cell_of_first : (line : List ℕ) (width height x : ℕ) → x < width → 1 ≤ height
    → option_and_then (λ l. slice_get l x) (slice_get (rows (line_in_first line) width height) 0) ≡ Some (line_in_first line x 0)
cell_of_first line width height x across down =
    ap (option_and_then (λ l. slice_get l x)) (got_of (λ y. row (λ k. line_in_first line k y) width) height 0 down)
    ∙ got_of (λ k. line_in_first line k 0) width x across

first_line : (line : List ℕ) (x : ℕ) → line_in_first line x 0 ≡ character (slice_get line x)
first_line line x =
    let no_gap : nat_lt x 0 ≡ false = grind (arith, nat_tests) in
    let same : x - 0 ≡ x = omega arith in
    ap (λ b. if b then space else character (slice_get line (x - 0))) no_gap ∙ ap (λ k. character (slice_get line k)) same

pub cursor_in_cells : (e : Entry) (width height : ℕ) → requested_width e ≤ width → 1 ≤ height → ShowsCursor e width height
cursor_in_cells e width height wide_enough high_enough =
    let inside = column_inside e in
    let together : first_seen e + cursor_column e ≡ cursor_place e = omega arith in
    cell_of_first (seen e) width height (cursor_column e) (omega arith) high_enough
    ∙ ap Some (first_line (seen e) (cursor_column e) ∙ ap character (got_behind (first_seen e) (masked e) (cursor_column e) ∙ ap (slice_get (masked e)) together))
