use Rattle.std.proofs.Common.{rules}
use Rattle.tks_spelling.proofs.input.put_input.Goals as goal

pub returns-in-Press-clause-puts : goal.returns-in-Press-clause-puts
returns-in-Press-clause-puts = search rules
