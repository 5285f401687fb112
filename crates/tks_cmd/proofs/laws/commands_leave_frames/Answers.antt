use Rattle.tks_cmd.proofs.Framing.{leaves_frames}
use Rattle.tks_cmd.proofs.laws.commands_leave_frames.Goals as goal

pub returns : goal.returns
returns c = leaves_frames
