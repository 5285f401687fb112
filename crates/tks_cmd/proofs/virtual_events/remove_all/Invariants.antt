use Rattle.std.proofs.Common.{◌≡◌, drop}
use Rattle.tks_cmd.specs.VirtualEvents.{without_all}
use Rattle.tks_cmd.proofs.virtual_events.remove_all.Given as goal

abbrev pub invariant-loop-sequence : goal.invariant-loop-sequence
invariant-loop-sequence l = without_all l.name (drop l.sequence-index l.sequences) l.world ≡ without_all l.name l.sequences l.fn.world
