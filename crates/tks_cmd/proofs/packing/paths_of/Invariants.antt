use Rattle.std.proofs.Common.{◌≡◌, ◌++◌}
use Rattle.tks_cmd.specs.Packing.{paths_of}
use Rattle.tks_cmd.proofs.packing.paths_of.Given as goal

abbrev pub invariant-loop-content : goal.invariant-loop-content
invariant-loop-content l = l.paths ++ paths_of l.tree.windows l.content-iterator ≡ paths_of l.tree.windows l.fn.contents
