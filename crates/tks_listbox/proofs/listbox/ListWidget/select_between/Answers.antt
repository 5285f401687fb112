use Rattle.std.proofs.Common.{rules}
use Rattle.tks_listbox.proofs.listbox.ListWidget.select_between.Goals as goal

pub returns-clause-ok : goal.returns-clause-ok
returns-clause-ok = search rules
