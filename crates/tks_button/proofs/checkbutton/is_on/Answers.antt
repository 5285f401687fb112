use Rattle.std.proofs.Common.{rules}
use Rattle.tks_button.proofs.checkbutton.is_on.Goals as goal

pub returns-in-Some : goal.returns-in-Some
returns-in-Some = search rules
