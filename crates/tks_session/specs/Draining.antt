-- Several turns of a session.
use Rattle.std.specs.Prelude.{◌≡◌, ℕ, ◌≤◌, ◌<◌, false, List, [], ◌∷◌, ◌++◌, length, Option, Some, None}
use Rattle.std.specs.List.{FoldsTo}
use Rattle.tks_input.specs.declared.input.Input.TheVariants.{Turn}
use Rattle.tks_input.specs.declared.reply.Refused.{Refused}
use Rattle.tks_input.specs.declared.reply.Reply.{Reply}
use Rattle.tks_durable.specs.Durable.{is_full}
use Rattle.tks_state.specs.World.{World}
use Rattle.tks_world.specs.Step.{Accepts, step}
use Rattle.tks_session.specs.Refusing.{PostRefused}
use Rattle.tks_session.specs.Sessions.{SessionState, Setting}

-- the session behind a turn that left this world
abbrev pub turned : {D : Type 0} → SessionState D → World → SessionState D
turned s world = record s { world = world; waiting = s.waiting ++ Turn ∷ [] }

-- a turn is accepted, with this world and this reply
pub record Turns {D : Type 0} (setting : Setting) (s : SessionState D) (world : World) (reply : Reply) : Type 0 where
  pub working : s.journal.failed ≡ false
  pub room : is_full setting.limits.pending s.journal s.waiting Turn ≡ false
  pub accepted : step setting.app s.world Turn setting.limits ≡ Accepts world reply

-- turns with these replies, one after the other, lead from the one to the other
abbrev pub TurnsTo : {D : Type 0} → Setting → SessionState D → List Reply → SessionState D → Type 0
TurnsTo setting old [] new = new ≡ old
TurnsTo setting old (reply ∷ replies) new = (world : World) × Turns setting old world reply × TurnsTo setting (turned old world) replies new

-- All were run, or the next one is refused; a session that had failed refuses it even where none more was to be run.
abbrev pub StopsSo : {D : Type 0} → Setting → SessionState D → ℕ → ℕ → Option Refused → Type 0
StopsSo setting s turns done None = (done ≡ turns) × (s.journal.failed ≡ false)
StopsSo setting s turns done (Some why) = (done ≤ turns) × (s.journal.failed ≡ false → done < turns) × PostRefused setting s Turn why

-- Turns were run, and told one after the other, each once; what telling one does is given.
pub record DrainsSo {D F : Type 0} (tells : F → Reply → F → Type 0) (setting : Setting) (old new : SessionState D) (told told' : F) (turns done : ℕ) (ended : Option Refused) : Type 0 where
  pub replies : List Reply
  pub count : length replies ≡ done
  pub leads : TurnsTo setting old replies new
  pub told_so : FoldsTo tells told replies told'
  pub stops : StopsSo setting new turns done ended
