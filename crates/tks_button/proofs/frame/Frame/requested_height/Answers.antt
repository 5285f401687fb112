use Rattle.std.proofs.Common.{rules}
use Rattle.tks_button.proofs.frame.Frame.requested_height.Goals as goal

pub returns-in-Some : goal.returns-in-Some
returns-in-Some = search rules

pub returns-in-None : goal.returns-in-None
returns-in-None = search rules
