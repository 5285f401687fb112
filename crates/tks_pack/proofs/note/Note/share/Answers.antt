use Rattle.std.proofs.Common.{rules}
use Rattle.tks_pack.proofs.note.Note.share.Goals as goal

pub returns-clause-value : goal.returns-clause-value
returns-clause-value = search rules
