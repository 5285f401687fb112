use Rattle.std.proofs.Common.{rules}
use Rattle.tks_opt.proofs.classes.class_number.Goals as goal

pub returns-in-Root : goal.returns-in-Root
returns-in-Root = search rules
