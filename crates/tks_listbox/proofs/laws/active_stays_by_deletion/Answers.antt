use Rattle.tks_listbox.proofs.Staying.{stays_by_deletion_before, stays_by_deletion_behind}
use Rattle.tks_listbox.proofs.laws.active_stays_by_deletion.Goals as goal

pub returns-clause-before : goal.returns-clause-before
returns-clause-before c = stays_by_deletion_before

pub returns-clause-behind : goal.returns-clause-behind
returns-clause-behind c = stays_by_deletion_behind
