use Rattle.tks_journal.proofs.Told.{are_read, read_so}
use Rattle.tks_journal.proofs.laws.frames_stand.Goals as goal

pub returns : goal.returns
returns c bodies bytes = (read_so bodies bytes, are_read bodies bytes)
