use Rattle.tks_event.proofs.WholeTexts.{pattern_one}
use Rattle.tks_event.proofs.laws.one_pattern.Goals as goal

pub returns : goal.returns
returns c = pattern_one
