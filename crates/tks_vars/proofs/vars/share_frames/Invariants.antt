use Rattle.std.proofs.Common.{◌≡◌, take}
use Rattle.tks_vars.proofs.vars.share_frames.Given as goal

abbrev pub invariant-loop-frame : goal.invariant-loop-frame
invariant-loop-frame l = l.copy.items ≡ take l.frame-index l.frames
