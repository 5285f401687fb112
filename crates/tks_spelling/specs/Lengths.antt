-- Lengths of spellings, in bytes (this project's own rule).
use Rattle.std.specs.Prelude.{ℕ, ◌^◌, ◌-◌, min, nat_le, if◌then◌else◌, Option, Some, None}

-- The length as 64 bits tell it: the greatest number that they hold stands for all that are longer.
abbrev pub counted : ℕ → ℕ
counted n = min n (2 ^ 64 - 1)

-- the length of a world that a side of the disk may hold; none where it passes 2^40
abbrev pub within_side : ℕ → Option ℕ
within_side n = if nat_le n (2 ^ 40) then Some n else None
