use Rattle.tks_button.proofs.Toggles.{toggled_twice}
use Rattle.tks_button.proofs.laws.two_toggles_give_back.Goals as goal

pub returns : goal.returns
returns c = toggled_twice
