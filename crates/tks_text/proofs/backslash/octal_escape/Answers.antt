use Rattle.std.proofs.Common.{rules}
use Rattle.tks_text.proofs.backslash.octal_escape.Goals as goal

pub returns-in-Some-clause-value : goal.returns-in-Some-clause-value
returns-in-Some-clause-value = search rules

pub returns-in_default-clause-value : goal.returns-in_default-clause-value
returns-in_default-clause-value = search rules
