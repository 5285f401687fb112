use Rattle.std.proofs.Common.{rules}
use Rattle.tks_button.proofs.caption.Caption.requested_width.Goals as goal

pub returns-in-Checkbutton : goal.returns-in-Checkbutton
returns-in-Checkbutton = search rules
