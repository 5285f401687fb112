use Rattle.std.proofs.Common.{arith}
use Rattle.std.proofs.lemmas.Grind.{common_steps}
use Rattle.tks_list.proofs.writing.push_backslashed_char.Goals as goal

pub returns-in_ok-push_byte-2 : goal.returns-in_ok-push_byte-2
returns-in_ok-push_byte-2 c = grind (arith, common_steps)
