use Rattle.tks_vars.proofs.Naming.{entries_named}
use Rattle.tks_vars.proofs.table.Table.iter.Goals as goal

pub returns-clause-names : goal.returns-clause-names
returns-clause-names g c = rw (← c.self.view_is) (entries_named c.self.inside.entries c.self.invariant)
