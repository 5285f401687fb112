use Rattle.std.proofs.Common.{rules}
use Rattle.tks_screen.proofs.pane.rows_of.Goals as goal

pub returns : goal.returns
returns = search rules
