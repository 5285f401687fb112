use Rattle.std.proofs.Common.{rules}
use Rattle.tks_button.proofs.frame.Frame.root.Goals as goal

pub returns : goal.returns
returns = search rules
