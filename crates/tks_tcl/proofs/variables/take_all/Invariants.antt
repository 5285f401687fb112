use Rattle.std.proofs.Common.{◌≡◌, drop}
use Rattle.tks_tcl.specs.Variables.{without_all}
use Rattle.tks_tcl.proofs.variables.take_all.Given as goal

abbrev pub invariant-loop-name : goal.invariant-loop-name
invariant-loop-name l = without_all (drop l.name-index l.names) l.variables ≡ without_all l.names l.fn.variables
