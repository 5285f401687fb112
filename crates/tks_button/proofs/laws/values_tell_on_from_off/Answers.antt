use Rattle.tks_button.proofs.Toggles.{tells}
use Rattle.tks_button.proofs.laws.values_tell_on_from_off.Goals as goal

pub returns : goal.returns
returns c = tells
