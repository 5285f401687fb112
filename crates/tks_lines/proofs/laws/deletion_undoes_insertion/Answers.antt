use Rattle.tks_lines.proofs.Round.{undone}
use Rattle.tks_lines.proofs.laws.deletion_undoes_insertion.Goals as goal

pub returns : goal.returns
returns c = undone
