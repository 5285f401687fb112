use Rattle.std.proofs.Common.{rules}
use Rattle.tks_listbox.proofs.listbox.ListWidget.configure.Goals as goal

pub returns-clause-value : goal.returns-clause-value
returns-clause-value = search rules
