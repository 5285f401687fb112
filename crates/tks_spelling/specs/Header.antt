-- The header of a side (this project's own format): from its generation to the length of its world.
use Rattle.std.specs.Prelude.{ℕ, Bool, ◌&&◌, List, Option, None, nat_le}
use Rattle.std.specs.Int.{w16, w64}
use Rattle.tks_text.specs.Size.{Extent}
use Rattle.tks_spelling.specs.declared.header.Header.{Header}
use Rattle.tks_spelling.specs.Spelling.{Read, Spelling, number, such_that, field, through, is_behind, rising, Rise, text}

-- a grid's width is in this range
abbrev pub is_width : ℕ → Bool
is_width n = nat_le 1 n && nat_le n 200

-- and its height
abbrev pub is_height : ℕ → Bool
is_height n = nat_le 1 n && nat_le n 100

-- a width
abbrev pub width : Spelling ℕ
width = such_that is_width (number w16)

-- a height
abbrev pub height : Spelling ℕ
height = such_that is_height (number w16)

-- a grid's size: its width, its height
abbrev pub grid : Spelling Extent
grid =
    field (λ size. size.width) width (λ w.
    through (λ size. size.height) (λ h. record { width = w; height = h }) height)

-- whether a name is behind the one before it
abbrev pub may_follow : Option (List ℕ) → List ℕ → Bool
may_follow before name = is_behind (λ name. name) before name

-- a name behind the one before it
abbrev pub name : Option (List ℕ) → Spelling (List ℕ)
name before = such_that (may_follow before) text

-- the application commands' names
abbrev pub names : Spelling (List (List ℕ))
names = rising (λ name. name) text

-- generation, grid, names, length of the world
abbrev pub header : Spelling Header
header =
    field (λ header. header.generation) (number w64) (λ generation.
    field (λ header. header.grid) grid (λ size.
    field (λ header. header.names) names (λ names.
    through (λ header. header.world_length) (λ world_length. record { generation = generation; grid = size; names = names; world_length = world_length }) (number w64))))

-- the header at the front of bytes, and what stands behind it
unfoldable pub header_at : List ℕ → Read Header
header_at bytes = header.read bytes

-- names that a header may have: they rise
abbrev pub AreNames : List (List ℕ) → Type 0
AreNames names = Rise (λ name. name) None names
