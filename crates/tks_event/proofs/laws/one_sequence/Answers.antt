use Rattle.tks_event.proofs.WholeTexts.{sequence_one}
use Rattle.tks_event.proofs.laws.one_sequence.Goals as goal

pub returns : goal.returns
returns c = sequence_one
