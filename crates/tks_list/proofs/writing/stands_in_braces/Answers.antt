use Rattle.std.proofs.Common.{rules}
use Rattle.tks_list.proofs.writing.stands_in_braces.Goals as goal

pub returns-then-has_no_backslash : goal.returns-then-has_no_backslash
returns-then-has_no_backslash = search rules
