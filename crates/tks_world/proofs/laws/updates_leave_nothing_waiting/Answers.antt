use Rattle.tks_world.proofs.Updates.{leave_nothing, leave_no_idle}
use Rattle.tks_world.proofs.laws.updates_leave_nothing_waiting.Goals as goal

pub returns-clause-all : goal.returns-clause-all
returns-clause-all c = leave_nothing

pub returns-clause-idle : goal.returns-clause-idle
returns-clause-idle c = leave_no_idle
