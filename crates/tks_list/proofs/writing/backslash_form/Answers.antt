use Rattle.std.proofs.Common.{rules}
use Rattle.tks_list.proofs.writing.backslash_form.Goals as goal

pub returns : goal.returns
returns = search rules
