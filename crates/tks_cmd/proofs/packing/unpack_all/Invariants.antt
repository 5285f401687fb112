use Rattle.std.proofs.Common.{◌≡◌, drop}
use Rattle.tks_cmd.specs.Packing.{unpacked_all}
use Rattle.tks_cmd.proofs.packing.unpack_all.Given as goal

abbrev pub invariant-loop-window : goal.invariant-loop-window
invariant-loop-window l = unpacked_all (drop l.window-index l.windows) l.world ≡ unpacked_all l.windows l.fn.world
