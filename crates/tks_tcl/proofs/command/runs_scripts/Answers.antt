use Rattle.std.proofs.Common.{rules}
use Rattle.tks_tcl.proofs.command.runs_scripts.Goals as goal

pub returns-then-is_word-7 : goal.returns-then-is_word-7
returns-then-is_word-7 = search rules

pub returns-else-is_word-7 : goal.returns-else-is_word-7
returns-else-is_word-7 = search rules
