use Rattle.std.proofs.Common.{rules}
use Rattle.tks_listbox.proofs.listbox.ListWidget.texts_between.Goals as goal

pub returns : goal.returns
returns = search rules
