use Rattle.std.proofs.Common.{◌≡◌, drop}
use Rattle.tks_cmd.specs.Changes.{each}
use Rattle.tks_cmd.specs.VirtualEvents.{physical_read, all_read}
use Rattle.tks_cmd.proofs.Each.{behind}
use Rattle.tks_cmd.proofs.virtual_events.all_read.Given as goal

abbrev pub invariant-loop-text : goal.invariant-loop-text
invariant-loop-text l = behind l.sequences (each physical_read (drop l.text-index l.texts)) ≡ all_read l.texts
