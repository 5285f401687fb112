use Rattle.std.proofs.Common.{rules}
use Rattle.tks_button.proofs.frame.Frame.shown.Goals as goal

pub returns : goal.returns
returns = search rules
