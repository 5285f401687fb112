use Rattle.std.proofs.Common.{rules}
use Rattle.tks_button.proofs.caption.Caption.shown.Goals as goal

pub returns-in_ok-cells-in_default : goal.returns-in_ok-cells-in_default
returns-in_ok-cells-in_default = search rules
