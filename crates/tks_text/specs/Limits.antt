-- Limits (this project's own rule).
use Rattle.std.specs.Prelude.{◌≤◌, ℕ, Bool, List, length, nat_le}
use Rattle.tks_text.specs.declared.limits.Limits.{Limits}

-- those that go with files of format 1
abbrev pub format1 : Limits
format1 = record { fuel = 10_000; depth = 32; text = 65_536; items = 4_096; pending = 64 }

-- those that go with files of format 2
abbrev pub format2 : Limits
format2 = record { fuel = 100_000; depth = 64; text = 1_048_576; items = 65_536; pending = 256 }

-- none of the second's limits is smaller than the first's (this project's own rule)
pub record Wider (limits wider : Limits) : Type 0 where
  pub fuel : limits.fuel ≤ wider.fuel
  pub depth : limits.depth ≤ wider.depth
  pub text : limits.text ≤ wider.text
  pub items : limits.items ≤ wider.items
  pub pending : limits.pending ≤ wider.pending

-- a text of no more bytes than the limits admit
abbrev pub fits : Limits → List ℕ → Bool
fits limits text = nat_le (length text) limits.text
