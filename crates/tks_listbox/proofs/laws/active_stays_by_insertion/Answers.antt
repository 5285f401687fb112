use Rattle.tks_listbox.proofs.Staying.{stays_by_insertion}
use Rattle.tks_listbox.proofs.laws.active_stays_by_insertion.Goals as goal

pub returns : goal.returns
returns c = stays_by_insertion
