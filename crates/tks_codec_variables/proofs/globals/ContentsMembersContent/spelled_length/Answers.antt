use Rattle.std.proofs.Common.{arith}
use Rattle.tks_codec_variables.proofs.globals.ContentsMembersContent.spelled_length.Goals as goal

pub returns-in-Array : goal.returns-in-Array
returns-in-Array c = rw c.in-Array.is (omega (arith, c.table_length.ensures, c.saturating_add-in-Array.ensures))
