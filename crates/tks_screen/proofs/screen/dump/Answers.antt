use Rattle.std.proofs.Common.{rules}
use Rattle.tks_screen.proofs.screen.dump.Goals as goal

pub returns-in_err-rows-clause-err : goal.returns-in_err-rows-clause-err
returns-in_err-rows-clause-err = search rules

pub returns-clause-ok : goal.returns-clause-ok
returns-clause-ok = search rules
