use Rattle.tks_event.proofs.Answering.{reads_back}
use Rattle.tks_event.proofs.laws.canonical_reads_back.Goals as goal

pub returns : goal.returns
returns c = reads_back
