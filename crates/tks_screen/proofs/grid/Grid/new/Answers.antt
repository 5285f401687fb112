use Rattle.std.proofs.Common.{rules}
use Rattle.tks_screen.proofs.grid.Grid.new.Goals as goal

pub returns : goal.returns
returns = search rules
