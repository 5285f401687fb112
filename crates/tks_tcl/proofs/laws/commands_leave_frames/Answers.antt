use Rattle.tks_tcl.proofs.Framing.{leaves_frames}
use Rattle.tks_tcl.proofs.laws.commands_leave_frames.Goals as goal

pub returns : goal.returns
returns c = leaves_frames
