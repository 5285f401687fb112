-- A text in pieces.
use Rattle.std.specs.Prelude.{ℕ, ◌+◌, ◌≤◌, List, ◌++◌, length}
use Rattle.tks_lines.specs.declared.pieces.Pieces.{Pieces}

-- the characters of all three, one behind the other
abbrev pub whole : Pieces → List ℕ
whole p = p.front ++ (p.typed ++ p.behind)

-- a place is among the characters that were typed, or beside them
abbrev pub HasGapAt : ℕ → Pieces → Type 0
HasGapAt place p = (length p.front ≤ place) × (place ≤ length p.front + length p.typed)
