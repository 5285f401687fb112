use Rattle.std.proofs.Common.{◌≡◌, drop}
use Rattle.tks_cmd.specs.Packing.{content_of, contents_of}
use Rattle.tks_cmd.specs.Changes.{each}
use Rattle.tks_cmd.proofs.Each.{behind}
use Rattle.tks_cmd.proofs.packing.contents_of.Given as goal

abbrev pub invariant-loop-path : goal.invariant-loop-path
invariant-loop-path l = behind l.ids (each (content_of l.world) (drop l.path-index l.paths)) ≡ contents_of l.world l.paths
