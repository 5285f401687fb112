use Rattle.std.proofs.Common.{◌≡◌, length}
use Rattle.tks_app.specs.Applications.{command_names}
use Rattle.tks_durable.specs.Opening.{same_names}
use Rattle.tks_session.proofs.stepper.are_names.Given as goal

-- what is left of both tells it
abbrev pub invariant-loop-name : goal.invariant-loop-name
invariant-loop-name g l = same_names l.rest (command_names l.others) ≡ same_names l.fn.names (command_names l.fn.commands)

abbrev pub decreases-loop-name : goal.decreases-loop-name
decreases-loop-name g l = length l.rest
