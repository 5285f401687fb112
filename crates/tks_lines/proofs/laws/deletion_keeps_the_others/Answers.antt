use Rattle.tks_lines.proofs.Characters.{takes_out}
use Rattle.tks_lines.proofs.laws.deletion_keeps_the_others.Goals as goal

pub returns : goal.returns
returns c = takes_out
