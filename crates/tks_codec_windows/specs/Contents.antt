-- The windows that are packed in a container, as bytes (this project's own format).
use Rattle.std.specs.Prelude.{ℕ, List}
use Rattle.std.specs.Int.{w64}
use Rattle.tks_spelling.specs.Spelling.{Spelling, number, list}

-- their numbers, in order
abbrev pub contents : Spelling (List ℕ)
contents = list (number w64)
