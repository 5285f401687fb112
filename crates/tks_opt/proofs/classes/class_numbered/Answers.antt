use Rattle.std.proofs.Common.{rules}
use Rattle.tks_opt.proofs.classes.class_numbered.Goals as goal

pub returns-in-7 : goal.returns-in-7
returns-in-7 = search rules
