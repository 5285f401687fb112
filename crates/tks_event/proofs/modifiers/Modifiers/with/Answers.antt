use Rattle.std.proofs.Common.{rules}
use Rattle.tks_event.proofs.modifiers.Modifiers.with.Goals as goal

pub returns : goal.returns
returns = search rules
