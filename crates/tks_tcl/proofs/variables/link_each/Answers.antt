use Rattle.std.proofs.Common.{rules}
use Rattle.tks_tcl.proofs.Linked.{links_are}
use Rattle.tks_tcl.proofs.variables.link_each.Goals as goal

pub returns-then-branch-clause-value : goal.returns-then-branch-clause-value
returns-then-branch-clause-value c = links_are c.args.limits.now c.args.names.now c.args.variables.now c.link_new.new.self (c.in_ok-link_new.ensures.made (search rules))
