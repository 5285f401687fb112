-- The tags of a window as bytes (this project's own format).
use Rattle.std.specs.Prelude.{ℕ, List, Option}
use Rattle.tks_spelling.specs.Spelling.{Spelling, texts, option}

-- a window's tags, if it has some of its own
abbrev pub tags : Spelling (Option (List (List ℕ)))
tags = option texts
