use Rattle.std.proofs.Common.{rules}
use Rattle.tks_state.proofs.layout.on_grid.Goals as goal

pub returns : goal.returns
returns = search rules
