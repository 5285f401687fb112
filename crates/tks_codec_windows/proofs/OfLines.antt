-- What holds of the spellings of what text widgets hold.
use Rattle.std.proofs.Common.{◌≡◌, ℕ, ◌+◌, ◌<◌, ◌≤◌, ◌^◌, ◌&&◌, nat_lt, nat_le, Bool, true, false, List, [], ◌∷◌, length, Option, Some, None, Ok, refl, sym, ap, true≢false, arith}
use Rattle.std.specs.Int.{w32}
use Rattle.std.specs.List.{AllByRecursion}
use Rattle.std.proofs.lemmas.Bool.Decides.{nat_tests}
use Rattle.tks_opt.specs.Options.{Options}
use Rattle.tks_lines.specs.Lines.{Lines, Formed, AreInside}
use Rattle.tks_lines.specs.Ranges.{is_behind, ranges_of, AreRanges}
use Rattle.tks_lines.specs.Restoring.{are_tags, are_marks}
use Rattle.tks_lines.specs.declared.parts.Tag.{Tag}
use Rattle.tks_lines.specs.declared.parts.Mark.{Mark}
use Rattle.tks_lines.specs.declared.range.Range.{Range}
use Rattle.tks_lines.proofs.Ends.{ranges_again, flags_again, ranges_lawful}
use Rattle.tks_lines.proofs.Restored.{tags_told, marks_told}
use Rattle.tks_spelling.specs.Spelling.{Lawful, IsBytes, text, list, AreLegal}
use Rattle.tks_spelling.proofs.Joining.{bytes_behind}
use Rattle.tks_spelling.proofs.EachKind.{wide32, number_lawful, test_lawful, field_lawful, through_lawful, flag_lawful, text_lawful, list_lawful}
use Rattle.tks_codec_windows.specs.Lines.{places, may_follow, range, ranges, tag, mark, parts, fits, lines, IsSmall, HasShortPlace}

-- ---- tests of both

both : (a b : Bool) → a ≡ true → b ≡ true → (a && b) ≡ true
both true b h k = k
both false b h k = h

each : (a b : Bool) → (a && b) ≡ true → (a ≡ true) × (b ≡ true)
each true b h = (refl, h)
each false b h = absurd (true≢false (sym h))

less : (m n : ℕ) → nat_lt m n ≡ true → m < n
less m n h = grind (arith, nat_tests)

is_less : (m n : ℕ) → m < n → nat_lt m n ≡ true
is_less m n h = grind (arith, nat_tests)

within : (m n : ℕ) → nat_le m n ≡ true → m ≤ n
within m n h = grind (arith, nat_tests)

is_within : (m n : ℕ) → m ≤ n → nat_le m n ≡ true
is_within m n h = grind (arith, nat_tests)

-- ---- ranges

places_lawful : Lawful places
places_lawful =
    field_lawful (λ r. r.first) _ _ (λ first r k h. ap (λ (r : Range). r.first) h.1) (number_lawful w32 wide32) (λ first.
    through_lawful (λ r. r.last) _ _ (λ last k. refl) (number_lawful w32 wide32))

range_lawful : (len : ℕ) (before : Option Range) → Lawful (range len before)
range_lawful len before = test_lawful (may_follow len before) places (λ v h. omega arith) places_lawful

pub those_lawful : (len : ℕ) → Lawful (ranges len)
those_lawful len = list_lawful (range len) (range_lawful len)

-- what is legal are ranges
are_ranges : (len : ℕ) (before : Option Range) (rs : List Range) → AreLegal (range len) before rs → AreRanges len before rs
are_ranges len before [] h = tt
are_ranges len before (r ∷ rs) h =
    let a = each (is_behind before r.first) (nat_lt r.first r.last && nat_le r.last len) h.0.1 in
    let b = each (nat_lt r.first r.last) (nat_le r.last len) a.1 in
    (a.0, less r.first r.last b.0, within r.last len b.1, are_ranges len (Some r) rs h.1)

-- and ranges are legal
they_are_legal : (len : ℕ) (before : Option Range) (rs : List Range) → len < 2 ^ 32 → AreRanges len before rs → AreLegal (range len) before rs
they_are_legal len before [] few h = tt
they_are_legal len before (r ∷ rs) few h =
    let first : r.first < 2 ^ 32 = omega (arith, few, h.1, h.2) in
    let last : r.last < 2 ^ 32 = omega (arith, few, h.2) in
    let test = both (is_behind before r.first) (nat_lt r.first r.last && nat_le r.last len) h.0 (both (nat_lt r.first r.last) (nat_le r.last len) (is_less r.first r.last h.1) (is_within r.last len h.2)) in
    (((first, (last, refl)), test), they_are_legal len (Some r) rs few h.3)

pub small_ranges : (len : ℕ) (before : Option Range) (rs : List Range) → len < 2 ^ 32 → AreRanges len before rs → AllByRecursion IsSmall rs
small_ranges len before [] few h = tt
small_ranges len before (r ∷ rs) few h = (record { first = omega (arith, few, h.1, h.2); last = omega (arith, few, h.2) }, small_ranges len (Some r) rs few h.3)

-- the place from which on ranges may begin
abbrev from : Option Range → ℕ
from None = 0
from (Some r) = r.last

begins_from : (before : Option Range) (first : ℕ) → is_behind before first ≡ true → from before ≤ first
begins_from None first h = omega arith
begins_from (Some b) first h = grind (arith, nat_tests)

-- there are no more of them than characters
few_ranges : (len : ℕ) (before : Option Range) (rs : List Range) → from before ≤ len → AreRanges len before rs → length rs + from before ≤ len
few_ranges len before [] e h = omega (arith, e)
few_ranges len before (r ∷ rs) e h = let rest = few_ranges len (Some r) rs h.2 h.3 in omega (arith, rest, h.1, begins_from before r.first h.0)

-- those of a tag, in numbers and places
few_of : (on : List Bool) → length on < 2 ^ 32 → length (ranges_of on) < 2 ^ 32
few_of on few = let most = few_ranges (length on) None (ranges_of on) (omega arith) (ranges_lawful on) in omega (arith, few, most)

pub small_of : (on : List Bool) → length on < 2 ^ 32 → AllByRecursion IsSmall (ranges_of on)
small_of on few = small_ranges (length on) None (ranges_of on) few (ranges_lawful on)

-- ranges that were read behind a text are ranges
pub read_ranges : (len : ℕ) (bytes name rest : List ℕ) (rs : List Range) (after : List ℕ) → IsBytes bytes → text.read bytes ≡ Ok (name, rest) → (ranges len).read rest ≡ Ok (rs, after) → AreRanges len None rs
read_ranges len bytes name rest rs after b e f =
    let behind = bytes_behind bytes (text.write name) rest b (text_lawful.nothing_else bytes name rest b e).parts in
    are_ranges len None rs ((those_lawful len).nothing_else rest rs after behind f).legal.1

-- ---- tags

pub tag_lawful : (len : ℕ) → Lawful (tag len)
tag_lawful len =
    field_lawful (λ g. g.name) _ _ (λ name g k h. ap (λ (g : Tag). g.name) h.1) text_lawful (λ name.
    through_lawful (λ g. ranges_of g.on) _ _ (λ rs k. ranges_again len rs (are_ranges len None rs k.1)) (those_lawful len))

pub tag_legal : (g : Tag) → text.Legal g.name → length g.on < 2 ^ 32 → (tag (length g.on)).Legal g
tag_legal g name few =
    (name, ((few_of g.on few, they_are_legal (length g.on) None (ranges_of g.on) few (ranges_lawful g.on)), ap (λ on. record { name = g.name; on = on }) (sym (flags_again g.on))))

-- ---- marks

pub mark_lawful : Lawful mark
mark_lawful =
    field_lawful (λ m. m.name) _ _ (λ name m k h. ap (λ (m : Mark). m.name) h.1.1) text_lawful (λ name.
    field_lawful (λ m. m.place) _ _ (λ place m k h. ap (λ (m : Mark). m.place) h.1) (number_lawful w32 wide32) (λ place.
    through_lawful (λ m. m.left) _ _ (λ left k. refl) flag_lawful))

pub short_places : (len : ℕ) (marks : List Mark) → len < 2 ^ 32 → AreInside len marks → AllByRecursion HasShortPlace marks
short_places len [] few inside = tt
short_places len (m ∷ marks) few inside = (omega (arith, few, inside.0), short_places len marks few inside.1)

-- ---- all of it

parts_lawful : (options : Options) → Lawful (parts options)
parts_lawful options =
    field_lawful (λ t. t.text) _ _ (λ chars t k h. ap (λ (t : Lines). t.text) h.1.1) text_lawful (λ chars.
    field_lawful (λ t. t.tags) _ _ (λ tags t k h. ap (λ (t : Lines). t.tags) h.1) (list_lawful (λ before. tag (length chars)) (λ before. tag_lawful (length chars))) (λ tags.
    through_lawful (λ t. t.marks) _ _ (λ marks k. refl) (list_lawful (λ before. mark) (λ before. mark_lawful))))

pub lines_lawful : (options : Options) → Lawful (lines options)
lines_lawful options = test_lawful fits (parts options) (λ v h. omega arith) (parts_lawful options)

pub lines_legal : (t : Lines) → Formed t → text.Legal t.text → (list (tag (length t.text))).Legal t.tags → (list mark).Legal t.marks → (lines t.options).Legal t
lines_legal t formed chars tags marks =
    ((chars, (tags, (marks, refl))), both (are_tags (length t.text) t.tags) (are_marks (length t.text) t.marks) (tags_told (length t.text) t.tags formed.long formed.tags_differ) (marks_told (length t.text) t.marks formed.inside formed.marks_differ formed.cursor_first))
