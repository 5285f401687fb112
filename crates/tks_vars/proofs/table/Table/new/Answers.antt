use Rattle.tks_vars.proofs.Naming.{none_named}
use Rattle.tks_vars.proofs.table.Table.new.Goals as goal

pub invariant_of-result : goal.invariant_of-result
invariant_of-result g c = none_named c.new.result c.new.ensures
