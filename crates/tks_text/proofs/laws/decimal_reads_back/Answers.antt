use Rattle.tks_text.proofs.Spelled.{decimal_is_read}
use Rattle.tks_text.proofs.laws.decimal_reads_back.Goals as goal

pub returns : goal.returns
returns c = decimal_is_read
