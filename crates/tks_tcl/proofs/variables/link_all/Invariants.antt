use Rattle.std.proofs.Common.{◌≡◌, drop}
use Rattle.tks_tcl.specs.Variables.{with_global_links}
use Rattle.tks_tcl.proofs.variables.link_all.Given as goal

abbrev pub invariant-loop-name : goal.invariant-loop-name
invariant-loop-name l = with_global_links l.limits (drop l.name-index l.names) l.variables ≡ with_global_links l.limits l.names l.fn.variables
