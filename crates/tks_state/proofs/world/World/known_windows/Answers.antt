use Rattle.std.proofs.Common.{rules}
use Rattle.tks_state.proofs.world.World.known_windows.Goals as goal

pub returns-then-branch-clause-value : goal.returns-then-branch-clause-value
returns-then-branch-clause-value = search rules
