use Rattle.tks_event.proofs.SpelledBack.{spelled_back}
use Rattle.tks_event.proofs.laws.canonical_spells.Goals as goal

pub returns : goal.returns
returns c = spelled_back
