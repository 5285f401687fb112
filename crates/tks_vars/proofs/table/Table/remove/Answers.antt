use Rattle.std.specs.FinMap as fin
use Rattle.tks_vars.proofs.Naming.{either_named, remove_named}
use Rattle.tks_vars.proofs.table.Table.remove.Goals as goal

pub invariant_of-self : goal.invariant_of-self
invariant_of-self g c =
    let old = c.self.inside.entries in
    either_named c.remove.result old (fin.remove old c.args.name.now) c.remove.new.self c.remove.ensures.ok c.remove.ensures.err c.self.invariant
    (remove_named old c.args.name.now c.self.invariant)
