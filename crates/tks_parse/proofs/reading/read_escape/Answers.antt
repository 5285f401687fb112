use Rattle.std.proofs.Common.{rules}
use Rattle.tks_parse.proofs.reading.read_escape.Goals as goal

pub returns-in-None-clause-gives : goal.returns-in-None-clause-gives
returns-in-None-clause-gives = search rules
