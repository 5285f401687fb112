use Rattle.tks_button.proofs.Wholes.{shown_whole}
use Rattle.tks_button.proofs.laws.lines_are_shown_whole.Goals as goal

pub returns : goal.returns
returns c = shown_whole
