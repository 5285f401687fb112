use Rattle.std.proofs.Common.{rules}
use Rattle.tks_input.proofs.input.Input.try_clone.Goals as goal

pub returns-in-Release : goal.returns-in-Release
returns-in-Release = search rules
