use Rattle.std.proofs.Common.{rules}
use Rattle.tks_list.proofs.braces.Braces.after.Goals as goal

pub returns-then-not-self-clause-value : goal.returns-then-not-self-clause-value
returns-then-not-self-clause-value = search rules
