-- Steps, as a session sees them.
use Rattle.std.proofs.Common.{◌≡◌, ◌+◌, true, ap}
use Rattle.tks_text.specs.Size.{Extent}
use Rattle.tks_text.specs.declared.limits.Limits.{Limits}
use Rattle.tks_app.specs.Applications.{Application}
use Rattle.tks_input.specs.declared.input.Input.{Input}
use Rattle.tks_input.specs.declared.reply.Reply.{Reply}
use Rattle.tks_input.specs.declared.reply.Refused.{Refused}
use Rattle.tks_input.specs.declared.reply.Refused.TheVariants.{BadInput, ClockBack, PendingFull, Budget, Depth, TooLarge, NoMemory, Quiet, Failed}
use Rattle.tks_durable.specs.Machine.{accepts}
use Rattle.tks_durable.specs.Refusing.{RefusedAs}
use Rattle.tks_state.specs.World.{World}
use Rattle.tks_world.specs.Meets.{RefusedSo}
use Rattle.tks_world.specs.Step.{Stepped, Accepts, step}
use Rattle.tks_world.proofs.Counts.{steps_count}
use Rattle.tks_keeping.proofs.Steps.{steps_keep}
use Rattle.tks_session.specs.Terminals.{as_machine, is_own}
use Rattle.tks_session.proofs.Stored.{step_own}

pub accepted : (stepped : Stepped) (world : World) (reply : Reply) → stepped ≡ Accepts world reply → as_machine stepped ≡ accepts world reply
accepted stepped world reply is = ap as_machine is

pub counted : (app : Application) (limits : Limits) (old new : World) (input : Input) (reply : Reply) → step app old input limits ≡ Accepts new reply → new.accepted ≡ old.accepted + 1
counted app limits old new input reply is = (steps_count app limits old input new reply is).0

-- a world of the machine stays one
pub own : (app : Application) (limits : Limits) (grid : Extent) (old new : World) (input : Input) (reply : Reply) → step app old input limits ≡ Accepts new reply → is_own app limits grid old ≡ true → is_own app limits grid new ≡ true
own app limits grid old new input reply is = step_own app limits grid old new (steps_keep app limits old input new reply is)

pub refused : (why : Refused) (stepped : Stepped) → RefusedSo why stepped → RefusedAs why (as_machine stepped)
refused BadInput stepped is = ap as_machine is
refused ClockBack stepped is = ap as_machine is
refused Budget stepped is = ap as_machine is
refused Depth stepped is = ap as_machine is
refused TooLarge stepped is = ap as_machine is
refused Quiet stepped is = ap as_machine is
refused NoMemory stepped is = tt
refused PendingFull stepped is = is
refused Failed stepped is = is
