use Rattle.std.proofs.Common.{rules}
use Rattle.tks_button.proofs.caption.Caption.configure.Goals as goal

pub returns-clause-value : goal.returns-clause-value
returns-clause-value = search rules
