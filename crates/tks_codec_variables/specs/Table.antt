-- Maps from names as bytes (this project's own format): their entries in the order of the names.
use Rattle.std.specs.Prelude.{ℕ, List, Option}
use Rattle.std.specs.FinMap as map
use Rattle.tks_vars.specs.Table.{Map}
use Rattle.tks_spelling.specs.Spelling.{Read, Spelling, text, pair, rising, such_that, is_behind, through}

-- a name, and what is under it
abbrev pub entry : {X : Type 0} → Spelling X → Spelling (List ℕ × X)
entry value = pair text value

-- an entry whose name is behind that of the one before it
abbrev pub next : {X : Type 0} → Spelling X → Option (List ℕ × X) → Spelling (List ℕ × X)
next value before = such_that (is_behind (λ e. e.0) before) (entry value)

-- entries whose names rise by their bytes
abbrev pub entries : {X : Type 0} → Spelling X → Spelling (List (List ℕ × X))
entries value = rising (λ e. e.0) (entry value)

-- a map
abbrev pub table : {X : Type 0} → Spelling X → Spelling (Map X)
table value = through map.entries map.from_entries (entries value)

-- the map at the front of bytes, and what stands behind it
unfoldable pub table_at : {X : Type 0} → Spelling X → List ℕ → Read (Map X)
table_at value bytes = (table value).read bytes
