use Rattle.std.proofs.Common.{rules}
use Rattle.tks_button.proofs.caption.Caption.first_assigned.Goals as goal

pub returns-in_ok-assignment-in-Checkbutton : goal.returns-in_ok-assignment-in-Checkbutton
returns-in_ok-assignment-in-Checkbutton = search rules
