use Rattle.std.proofs.Common.{rules}
use Rattle.tks_spelling.proofs.header.write_header.Goals as goal

pub returns-in-Err-clause-err : goal.returns-in-Err-clause-err
returns-in-Err-clause-err = search rules
