-- A block in an area as large as it is.
use Rattle.std.proofs.Common.{◌≡◌, ℕ, zero, suc, ◌<◌, ◌≤◌, ◌-◌, ◌+◌, Bool, true, false, nat_lt, max, if◌then◌else◌, List, [], ◌∷◌, ◌++◌, length, refl, sym, ap, ◌∙◌, rules, arith}
use Rattle.std.specs.Prelude.{map, replicate, get_or, slice_get}
use Rattle.std.proofs.lemmas.List.{length-append, length-map, length-replicate, get_or-replicate, get_or-map}
use Rattle.std.proofs.lemmas.List.FromFn.{fill_by_all}
use Rattle.tks_opt.specs.Alignment.{gap, horizontal, vertical}
use Rattle.tks_opt.specs.Cells.{space, shown_byte, character, line_cell, row, rows}
use Rattle.tks_opt.specs.Options.{Options}
use Rattle.tks_opt.specs.declared.alignment.Alignment.{Alignment}
use Rattle.tks_opt.specs.declared.alignment.Alignment.TheVariants as at
use Rattle.tks_opt.specs.declared.anchor.Anchor.{Anchor}
use Rattle.tks_opt.specs.declared.name.OptionName.TheVariants as name
use Rattle.tks_button.specs.Block.{lines, longest, left_of, top_of, line_in_row, block_cell}
use Rattle.tks_button.specs.Checkbutton.{indent, marked, requested_width, requested_height, shown}
use Rattle.tks_button.specs.Label.{or_longest}
use Rattle.tks_button.specs.Laws.{whole_row}
use Rattle.tks_button.specs.Sizes.{or_else, size_of, text_of, anchor_of}
use Rattle.tks_button.proofs.Marks.{some_line}

-- ---- the width of a block

longest_indented : (a : ℕ) (ls : List (List ℕ)) → max (4 + a) (longest (map (λ l. indent ++ l) ls)) ≡ 4 + max a (longest ls)
longest_indented a [] = omega arith
longest_indented a (l ∷ ls) = omega (arith, longest_indented (length l) ls)

longest_marked : (on : Bool) (ls : List (List ℕ)) → 0 < length ls → longest (marked on ls) ≡ 4 + longest ls
longest_marked on [] some = absurd (omega arith)
longest_marked true (l ∷ ls) some = omega (arith, longest_indented (length l) ls)
longest_marked false (l ∷ ls) some = omega (arith, longest_indented (length l) ls)

length_marked : (on : Bool) (ls : List (List ℕ)) → length (marked on ls) ≡ length ls
length_marked on [] = refl
length_marked on (l ∷ ls) = ap suc (length-map ls (λ m. indent ++ m))

within_longest : (ls : List (List ℕ)) (k : ℕ) → length (get_or ls k []) ≤ longest ls
within_longest [] k = omega arith
within_longest (l ∷ ls) zero = omega arith
within_longest (l ∷ ls) (suc k) = omega (arith, within_longest ls k)

-- ---- a line in its row

character_at : (line : List ℕ) (more k : ℕ) → k < length line + more → get_or (map shown_byte line ++ replicate more space) k 0 ≡ character (slice_get line k)
character_at [] more k within = get_or-replicate more k space 0 (omega arith)
character_at (c ∷ line) more zero within = refl
character_at (c ∷ line) more (suc k) within = character_at line more k (omega arith)

from_first_column : (line : List ℕ) (k : ℕ) → character (slice_get line k) ≡ line_cell line 0 k
from_first_column line k =
    let behind : nat_lt k 0 ≡ false = search rules in
    let place : k ≡ k - 0 = omega arith in
    sym (ap (λ b. if b then space else character (slice_get line (k - 0))) behind ∙ ap (λ x. character (slice_get line x)) (sym place))

whole_is : (width : ℕ) (line : List ℕ) → length line ≤ width → whole_row width line ≡ row (line_cell line 0) width
whole_is width line fits =
    fill_by_all (line_cell line 0) (whole_row width line) width 0
    (omega (arith, length-append (map shown_byte line) (replicate (width - length line) space), length-map line shown_byte, length-replicate (width - length line) space))
    (λ k within. character_at line (width - length line) k (omega arith) ∙ from_first_column line k)

-- ---- a block in an area of its size

no_gap : (a : Alignment) → gap a 0 ≡ 0
no_gap at.Start = refl
no_gap at.Middle = refl
no_gap at.End = refl

got : (ls : List (List ℕ)) (k : ℕ) → or_else [] (slice_get ls k) ≡ get_or ls k []
got [] k = refl
got (l ∷ ls) zero = refl
got (l ∷ ls) (suc k) = got ls k

from_first_row : (ls : List (List ℕ)) (k : ℕ) → line_in_row ls 0 k ≡ get_or ls k []
from_first_row ls k =
    let behind : nat_lt k 0 ≡ false = search rules in
    let place : k - 0 ≡ k = omega arith in
    ap (λ b. if b then [] else or_else [] (slice_get ls (k - 0))) behind ∙ ap (λ y. or_else [] (slice_get ls y)) place ∙ got ls k

block_whole : (ls : List (List ℕ)) (a : Anchor) (width height : ℕ) → longest ls ≡ width → length ls ≡ height → rows (block_cell ls a width height) width height ≡ map (whole_row width) ls
block_whole ls a width height wide high =
    let left : left_of ls a width ≡ 0 = ap (gap (horizontal a)) (omega arith) ∙ no_gap (horizontal a) in
    let top : top_of ls a height ≡ 0 = ap (gap (vertical a)) (omega arith) ∙ no_gap (vertical a) in
    sym
    (fill_by_all (λ y. row (λ x. block_cell ls a width height x y) width) (map (whole_row width) ls) height []
    (length-map ls (whole_row width) ∙ high)
    (λ k within.
    get_or-map (whole_row width) ls k [] [] (omega arith)
    ∙ whole_is width (get_or ls k []) (omega (arith, within_longest ls k))
    ∙ sym (ap (λ l. row (line_cell l 0) width) (from_first_row ls k))
    ∙ sym (λ i. row (line_cell (line_in_row ls (top i) k) (left i)) width)))

pub shown_whole : (t : Options) (on : Bool) → size_of t name.Width ≡ 0 → shown t (requested_width t) (requested_height t) on ≡ map (whole_row (requested_width t)) (marked on (lines (text_of t)))
shown_whole t on free =
    block_whole (marked on (lines (text_of t))) (anchor_of t) (requested_width t) (requested_height t)
    (longest_marked on (lines (text_of t)) (some_line (text_of t)) ∙ ap (λ n. 4 + or_longest n (text_of t)) (sym free))
    (length_marked on (lines (text_of t)))
