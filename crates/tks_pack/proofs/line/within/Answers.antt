use Rattle.std.proofs.Common.{rules}
use Rattle.tks_pack.proofs.line.within.Goals as goal

pub overflow_add-result : goal.overflow_add-result
overflow_add-result = search rules

pub overflow_add-result-else-length-eq0 : goal.overflow_add-result-else-length-eq0
overflow_add-result-else-length-eq0 = search rules

pub returns-else-length-eq0 : goal.returns-else-length-eq0
returns-else-length-eq0 = search rules
