use Rattle.tks_lines.proofs.Characters.{puts_in}
use Rattle.tks_lines.proofs.laws.insertion_keeps_the_others.Goals as goal

pub returns : goal.returns
returns c = puts_in
