use Rattle.tks_listbox.proofs.Staying.{others_stay}
use Rattle.tks_listbox.proofs.laws.deletion_keeps_the_others.Goals as goal

pub returns : goal.returns
returns c = others_stay
