use Rattle.std.proofs.Common.{◌≡◌, drop}
use Rattle.tks_cmd.specs.Packing.{packed_each}
use Rattle.tks_cmd.proofs.packing.pack_each.Given as goal

abbrev pub invariant-loop-window : goal.invariant-loop-window
invariant-loop-window l = packed_each (drop l.window-index l.windows) l.options l.world ≡ packed_each l.windows l.options l.fn.world
