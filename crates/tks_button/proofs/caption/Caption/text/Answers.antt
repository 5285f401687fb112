use Rattle.std.proofs.Common.{rules}
use Rattle.tks_button.proofs.caption.Caption.text.Goals as goal

pub returns : goal.returns
returns = search rules
