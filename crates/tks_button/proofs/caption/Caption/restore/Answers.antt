use Rattle.std.proofs.Common.{rules}
use Rattle.tks_button.proofs.caption.Caption.restore.Goals as goal

pub returns-in-Label : goal.returns-in-Label
returns-in-Label = search rules
