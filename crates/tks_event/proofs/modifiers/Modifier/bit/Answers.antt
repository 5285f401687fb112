use Rattle.std.proofs.Common.{rules}
use Rattle.tks_event.proofs.modifiers.Modifier.bit.Goals as goal

pub returns-in-Mod1-clause-value : goal.returns-in-Mod1-clause-value
returns-in-Mod1-clause-value = search rules
