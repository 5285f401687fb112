-- What contents ask for where each that shares what is left over gets so many cells more: a share is the most with
-- which this still fits (pack(n), "The packer algorithm").
use Rattle.std.specs.Prelude.{ℕ, ◌+◌, ◌*◌, ◌^◌, max, if◌then◌else◌, List, [], ◌∷◌}
use Rattle.tks_pack.specs.declared.stretch.Stretch.{Stretch}
use Rattle.tks_pack.specs.Packer.{more}
use Rattle.tks_pack.specs.Stretch.{lies_along, outer}

-- a content before others that ask for n
abbrev pub request_with_before : ℕ → Stretch → ℕ → ℕ
request_with_before x s n = if lies_along s.edge then outer s + x * more s + n else max (outer s) n

-- the least length in which each gets what it asks for, and those that share get x more
abbrev pub request_with : ℕ → List Stretch → ℕ
request_with x [] = 0
request_with x (s ∷ rest) = request_with_before x s (request_with x rest)

-- more than any cavity has
abbrev pub too_long : ℕ
too_long = 2 ^ 32
