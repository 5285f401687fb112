use Rattle.tks_listbox.proofs.Round.{undone}
use Rattle.tks_listbox.proofs.laws.deletion_undoes_insertion.Goals as goal

pub returns : goal.returns
returns c = undone
