use Rattle.std.proofs.Common.{rules}
use Rattle.tks_screen.proofs.screen.window_at.Goals as goal

pub returns-in-Some : goal.returns-in-Some
returns-in-Some = search rules

pub returns-in-None : goal.returns-in-None
returns-in-None = search rules
