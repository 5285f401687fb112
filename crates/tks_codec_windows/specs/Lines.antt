-- What a text widget holds besides its options, as bytes (this project's own format).
use Rattle.std.specs.Prelude.{ℕ, ◌<◌, ◌^◌, ◌&&◌, Bool, nat_lt, nat_le, List, [], ◌∷◌, length, Option}
use Rattle.std.specs.Int.{w32}
use Rattle.tks_opt.specs.Options.{Options}
use Rattle.tks_lines.specs.Lines.{Lines}
use Rattle.tks_lines.specs.Ranges.{is_behind, ranges_of, flags_of}
use Rattle.tks_lines.specs.Restoring.{are_tags, are_marks}
use Rattle.tks_lines.specs.declared.parts.Tag.{Tag}
use Rattle.tks_lines.specs.declared.parts.Mark.{Mark}
use Rattle.tks_lines.specs.declared.range.Range.{Range}
use Rattle.tks_spelling.specs.Spelling.{Read, Spelling, number, text, flag, list, list_by, such_that, field, through}

-- ---- tags

-- two places
abbrev pub places : Spelling Range
places =
    field (λ r. r.first) (number w32) (λ first.
    through (λ r. r.last) (λ last. record { first = first; last = last }) (number w32))

-- whether a range of so many characters may come next: it is behind the one before it, without touching it, isn't empty,
-- and doesn't end behind the characters
abbrev pub may_follow : ℕ → Option Range → Range → Bool
may_follow len before r = is_behind before r.first && (nat_lt r.first r.last && nat_le r.last len)

-- a range of so many characters
abbrev pub range : ℕ → Option Range → Spelling Range
range len before = such_that (may_follow len before) places

-- ranges of so many characters
abbrev pub ranges : ℕ → Spelling (List Range)
ranges len = list_by (range len)

-- those at the front of bytes, and what stands behind them
unfoldable pub ranges_at : ℕ → List ℕ → Read (List Range)
ranges_at len bytes = (ranges len).read bytes

-- a tag: its name, and the ranges of the characters that have it
abbrev pub tag : ℕ → Spelling Tag
tag len =
    field (λ g. g.name) text (λ name.
    through (λ g. ranges_of g.on) (λ on. record { name = name; on = flags_of len on }) (ranges len))

-- the tag at the front of bytes, and what stands behind it
unfoldable pub tag_at : ℕ → List ℕ → Read Tag
tag_at len bytes = (tag len).read bytes

-- ---- marks

-- a mark: its name, its place, whether it has left gravity
abbrev pub mark : Spelling Mark
mark =
    field (λ m. m.name) text (λ name.
    field (λ m. m.place) (number w32) (λ place.
    through (λ m. m.left) (λ left. record { name = name; place = place; left = left }) flag))

-- the spellings of its parts
abbrev pub mark_parts : Mark → List (List ℕ)
mark_parts m = text.write m.name ∷ (number w32).write m.place ∷ flag.write m.left ∷ []

-- the mark at the front of bytes, and what stands behind it
unfoldable pub mark_at : List ℕ → Read Mark
mark_at bytes = mark.read bytes

-- ---- all of it

-- the characters, the tags, the marks
abbrev pub parts : Options → Spelling Lines
parts options =
    field (λ t. t.text) text (λ chars.
    field (λ t. t.tags) (list (tag (length chars))) (λ tags.
    through (λ t. t.marks) (λ marks. record { options = options; text = chars; tags = tags; marks = marks }) (list mark)))

-- whether its tags and marks are those of its text
abbrev pub fits : Lines → Bool
fits t = are_tags (length t.text) t.tags && are_marks (length t.text) t.marks

-- of a text widget with these options the characters, the tags and the marks
abbrev pub lines : Options → Spelling Lines
lines options = such_that fits (parts options)

-- the text widget at the front of bytes, and what stands behind it
unfoldable pub lines_at : Options → List ℕ → Read Lines
lines_at options bytes = (lines options).read bytes

-- ---- places that can be told

-- of a range
pub record IsSmall (r : Range) : Type 0 where
  pub first : r.first < 2 ^ 32
  pub last : r.last < 2 ^ 32

-- of a mark
abbrev pub HasShortPlace : Mark → Type 0
HasShortPlace m = m.place < 2 ^ 32
