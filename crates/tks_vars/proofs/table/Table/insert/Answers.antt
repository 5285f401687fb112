use Rattle.std.specs.FinMap as fin
use Rattle.tks_vars.proofs.Naming.{either_named, insert_named}
use Rattle.tks_vars.proofs.table.Table.insert.Goals as goal

pub invariant_of-self : goal.invariant_of-self
invariant_of-self g c =
    let old = c.self.inside.entries in
    either_named c.insert.result old (fin.insert old c.args.name.now c.args.value) c.insert.new.self c.insert.ensures.ok c.insert.ensures.err c.self.invariant
    (insert_named old c.args.name.now c.args.value c.self.invariant c.requires)
