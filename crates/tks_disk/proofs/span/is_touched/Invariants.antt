use Rattle.std.proofs.Common.{◌≡◌, drop}
use Rattle.tks_disk.specs.MemorySide.{touched}
use Rattle.tks_disk.proofs.span.is_touched.Given as goal

abbrev pub invariant-loop-span : goal.invariant-loop-span
invariant-loop-span l = touched (drop l.span-index l.spans) l.place ≡ touched l.spans l.place
