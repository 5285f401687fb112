-- The code's answers, as the definitions see them.
use Rattle.std.specs.Prelude.{ℕ, Option, Some, None}
use Rattle.tks_text.specs.Run.{Step, stop}
use Rattle.tks_text.specs.declared.fault.ScriptFault.{ScriptFault}
use Rattle.tks_parse.specs.Gives.{taken_piece}
use Rattle.tks_parse.specs.Tree.{Parts}
use Rattle.tks_parse.specs.declared.builder.Piece.{Piece}

-- the step that was found
abbrev pub step_of : Option (Piece × ℕ) → Step ScriptFault Parts
step_of None = stop
step_of (Some x) = taken_piece x
