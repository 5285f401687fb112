use Rattle.std.proofs.Common.{rules}
use Rattle.tks_button.proofs.frame.Frame.restore.Goals as goal

pub returns-in-Root : goal.returns-in-Root
returns-in-Root = search rules
