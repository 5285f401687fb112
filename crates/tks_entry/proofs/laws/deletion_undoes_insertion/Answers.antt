use Rattle.tks_entry.proofs.Round.{stands_as_before}
use Rattle.tks_entry.proofs.laws.deletion_undoes_insertion.Goals as goal

pub returns : goal.returns
returns c = stands_as_before
