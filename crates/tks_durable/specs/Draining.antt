-- Several turns of a durable machine.
use Rattle.std.specs.Prelude.{◌≡◌, ℕ, ◌≤◌, ◌<◌, false, List, [], ◌∷◌, ◌++◌, length, Option, Some, None}
use Rattle.std.specs.List.{FoldsTo}
use Rattle.tks_input.specs.declared.input.Input.TheVariants.{Turn}
use Rattle.tks_input.specs.declared.reply.Refused.{Refused}
use Rattle.tks_input.specs.declared.reply.Reply.{Reply}
use Rattle.tks_durable.specs.Machine.{Meaning, accepts}
use Rattle.tks_durable.specs.Refusing.{PostRefused}
use Rattle.tks_durable.specs.Durable.{DurableState, is_full}

-- the machine behind a turn that left this state
abbrev pub turned : {D M W : Type 0} → DurableState D M W → W → DurableState D M W
turned s world = record s { world = world; waiting = s.waiting ++ Turn ∷ [] }

-- a turn is accepted, with this state and this reply
pub record Turns {D M W : Type 0} (m : Meaning W) (s : DurableState D M W) (world : W) (reply : Reply) : Type 0 where
  pub working : s.journal.failed ≡ false
  pub room : is_full m.pending s.journal s.waiting Turn ≡ false
  pub accepted : m.step s.world Turn ≡ accepts world reply

-- turns with these replies, one after the other, lead from the one to the other
abbrev pub TurnsTo : {D M W : Type 0} → Meaning W → DurableState D M W → List Reply → DurableState D M W → Type 0
TurnsTo m old [] new = new ≡ old
TurnsTo {D} {M} {W} m old (reply ∷ replies) new = (world : W) × Turns m old world reply × TurnsTo m (turned old world) replies new

-- All were run, or the next one is refused; a machine that had failed refuses it even where none more was to be run.
abbrev pub StopsSo : {D M W : Type 0} → Meaning W → DurableState D M W → ℕ → ℕ → Option Refused → Type 0
StopsSo m s turns done None = (done ≡ turns) × (s.journal.failed ≡ false)
StopsSo m s turns done (Some why) = (done ≤ turns) × (s.journal.failed ≡ false → done < turns) × PostRefused m s Turn why

-- Turns were run, and told one after the other, each once; what telling one does is given.
pub record DrainsSo {D F M W : Type 0} (tells : F → Reply → F → Type 0) (m : Meaning W) (old new : DurableState D M W) (told told' : F) (turns done : ℕ) (ended : Option Refused) : Type 0 where
  pub replies : List Reply
  pub count : length replies ≡ done
  pub leads : TurnsTo m old replies new
  pub told_so : FoldsTo tells told replies told'
  pub stops : StopsSo m new turns done ended

-- The same so far: what follows follows all.
pub record DrainsFar {D F M W : Type 0} (tells : F → Reply → F → Type 0) (m : Meaning W) (old now : DurableState D M W) (told told' : F) (done : ℕ) : Type 0 where
  pub replies : List Reply
  pub count : length replies ≡ done
  pub leads : (others : List Reply) (new : DurableState D M W) → TurnsTo m now others new → TurnsTo m old (replies ++ others) new
  pub told_so : (others : List Reply) (last : F) → FoldsTo tells told' others last → FoldsTo tells told (replies ++ others) last
