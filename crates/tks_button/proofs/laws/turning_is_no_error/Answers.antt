use Rattle.tks_button.proofs.Toggles.{no_error}
use Rattle.tks_button.proofs.laws.turning_is_no_error.Goals as goal

pub returns : goal.returns
returns c = no_error
