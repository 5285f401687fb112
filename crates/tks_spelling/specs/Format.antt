-- Formats of a side (this project's own format): each has a byte, which stands behind the side's first gate.
use Rattle.std.specs.Prelude.{ℕ, ◌==◌, if◌then◌else◌, Option, Some, None}
use Rattle.tks_spelling.specs.declared.format.Format.{Format}
use Rattle.tks_spelling.specs.declared.format.Format.TheVariants.{One, Two}

abbrev pub byte_of : Format → ℕ
byte_of One = 1
byte_of Two = 2

abbrev pub of_byte : ℕ → Option Format
of_byte byte = if byte == 1 then Some One else (if byte == 2 then Some Two else None)
