use Rattle.tks_vars.proofs.Naming.{changed_named}
use Rattle.tks_vars.proofs.table.Table.change.Goals as goal

pub invariant_of-self : goal.invariant_of-self
invariant_of-self g c =
    changed_named (g.C.Change.gives c.args.change.now) c.args.name.now c.self.inside.entries c.change.new.self c.change.result c.change.ensures.some c.change.ensures.none c.change.ensures.err c.self.invariant
