-- What a durable machine of worlds promises, in the words of steps.
use Rattle.std.proofs.Common.{◌≡◌, ℕ, List, [], ◌∷◌, Option, Some, None, Result, Ok, Err, refl, sym, ◌∙◌, ap}
use Rattle.std.specs.List.{FoldsTo}
use Rattle.tks_disk.specs.DiskModel.{Images}
use Rattle.tks_input.specs.declared.input.Input.{Input}
use Rattle.tks_input.specs.declared.input.Input.TheVariants.{Turn}
use Rattle.tks_input.specs.declared.reply.Reply.{Reply}
use Rattle.tks_input.specs.declared.reply.Refused.{Refused}
use Rattle.tks_input.specs.declared.reply.Refused.TheVariants.{BadInput, ClockBack, PendingFull, Budget, Depth, TooLarge, NoMemory, Quiet, Failed}
use Rattle.tks_durable.specs.Draining as durable
use Rattle.tks_durable.specs.Durable.{DurableState}
use Rattle.tks_durable.specs.Machine as machine
use Rattle.tks_durable.specs.Machine.{accepts, refuses}
use Rattle.tks_durable.specs.Opening.{run}
use Rattle.tks_durable.specs.Refusing as refusing
use Rattle.tks_durable.specs.declared.fault.SessionFault.{SessionFault}
use Rattle.tks_durable.proofs.Runs.{run_fault}
use Rattle.tks_state.specs.World.{World}
use Rattle.tks_world.specs.Step.{Stepped, Accepts, Refuses, step}
use Rattle.tks_session.specs.Crash.{LeadsOn, opens}
use Rattle.tks_session.specs.Draining.{DrainsSo, StopsSo, TurnsTo}
use Rattle.tks_session.specs.Refusing.{PostRefused, Tried}
use Rattle.tks_session.specs.Sessions.{Made, SessionState, Setting, seen_as, terminal_in}
use Rattle.tks_session.specs.Terminals.{as_machine}
use Rattle.tks_session.proofs.Leads.{runs_lead}

-- ---- a step

-- the step that a session sees so
abbrev as_step : machine.Stepped World → Stepped
as_step (accepts world reply) = Accepts world reply
as_step (refuses why) = Refuses why

as_it_was : (stepped : Stepped) → as_step (as_machine stepped) ≡ stepped
as_it_was (Accepts world reply) = refl
as_it_was (Refuses why) = refl

pub accepted_so : (stepped : Stepped) (world : World) (reply : Reply) → as_machine stepped ≡ accepts world reply → stepped ≡ Accepts world reply
accepted_so stepped world reply is = sym (as_it_was stepped) ∙ ap as_step is

refused_so : (stepped : Stepped) (why : Refused) → as_machine stepped ≡ refuses why → stepped ≡ Refuses why
refused_so stepped why is = sym (as_it_was stepped) ∙ ap as_step is

-- ---- a refusal

module _ {D M : Type 0} (setting : Setting) (made : Made) (s : DurableState D M World) (input : Input) where
  tried_so : (why : Refused) → refusing.Tried (terminal_in setting) s input why → Tried setting (seen_as made s) input why
  tried_so why is = record { working = is.working; room = is.room; refused = refused_so (step setting.app s.world input setting.limits) why is.refused }

  pub post_refused : (why : Refused) → refusing.PostRefused (terminal_in setting) s input why → PostRefused setting (seen_as made s) input why
  post_refused Failed is = is
  post_refused PendingFull is = is
  post_refused NoMemory is = is
  post_refused BadInput is = tried_so BadInput is
  post_refused ClockBack is = tried_so ClockBack is
  post_refused Budget is = tried_so Budget is
  post_refused Depth is = tried_so Depth is
  post_refused TooLarge is = tried_so TooLarge is
  post_refused Quiet is = tried_so Quiet is

-- ---- several turns

-- what a call of the closure does is said in other words
told_so : {F : Type 0} (tells does : F → Reply → F → Type 0) → ((p : F) (reply : Reply) (q : F) → tells p reply q → does p reply q)
    → (replies : List Reply) (p q : F) → FoldsTo tells p replies q → FoldsTo does p replies q
told_so tells does so [] p q is = is
told_so tells does so (reply ∷ replies) p q is = (is.0, so p reply is.0 is.1, told_so tells does so replies is.0 q is.2)

module _ {D M : Type 0} (made_of : M → Made) (setting : Setting) where
  -- what is seen of it
  abbrev seen : DurableState D M World → SessionState D
  seen s = seen_as (made_of s.machine) s

  turns_to : (replies : List Reply) (old new : DurableState D M World) → durable.TurnsTo (terminal_in setting) old replies new → TurnsTo setting (seen old) replies (seen new)
  turns_to [] old new is = ap seen is
  turns_to (reply ∷ replies) old new is = (
    is.0,
    record { working = is.1.working; room = is.1.room; accepted = accepted_so (step setting.app old.world Turn setting.limits) is.0 reply is.1.accepted },
    turns_to replies (durable.turned old is.0) new is.2,
  )

  stops_so : (s : DurableState D M World) (turns done : ℕ) (ended : Option Refused) → durable.StopsSo (terminal_in setting) s turns done ended → StopsSo setting (seen s) turns done ended
  stops_so s turns done None is = is
  stops_so s turns done (Some why) is = (is.0, is.1, post_refused setting (made_of s.machine) s Turn why is.2)

  module _ {F : Type 0} (tells does : F → Reply → F → Type 0) (so : (p : F) (reply : Reply) (q : F) → tells p reply q → does p reply q) where
    pub drains_so : (old new : DurableState D M World) (told told' : F) (turns done : ℕ) (ended : Option Refused)
        → durable.DrainsSo tells (terminal_in setting) old new told told' turns done ended → DrainsSo does setting (seen old) (seen new) told told' turns done ended
    drains_so old new told told' turns done ended is = record {
      replies = is.replies;
      count = is.count;
      leads = turns_to is.replies old new is.leads;
      told_so = told_so tells does so is.replies told told' is.told_so;
      stops = stops_so new turns done ended is.stops;
    }

-- ---- between two calls

pub stands_on : (setting : Setting) (reads : Images) (waiting : List Input) (world : World) → run (terminal_in setting) (opens setting reads) waiting ≡ Ok world → LeadsOn setting reads waiting world
stands_on setting reads waiting world is = by (opens setting reads) refl is
  where
    by : (found : Result World SessionFault) → opens setting reads ≡ found → run (terminal_in setting) found waiting ≡ Ok world → LeadsOn setting reads waiting world
    by (Ok start) e h = record { start = start; opened = e; leads = runs_lead setting.app setting.limits setting.grid waiting start world h }
    by (Err fault) e h = absurd (no_world (sym (run_fault (terminal_in setting) fault waiting) ∙ h))
      where
        no_world : Err fault ≡ Ok world → ⊥
        no_world e = absurd cc
