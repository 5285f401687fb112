-- Any calls of a durable machine, one after the other.
use Rattle.std.specs.Prelude.{◌≡◌, ◌⊎◌, ℕ, zero, suc, List, [], ◌∷◌, ◌++◌, length, Option, Result, Ok, Err, OnOk}
use Rattle.tks_disk.specs.DiskModel.{View}
use Rattle.tks_input.specs.declared.input.Input.{Input}
use Rattle.tks_input.specs.declared.input.Input.TheVariants.{Turn}
use Rattle.tks_input.specs.declared.reply.Refused.{Refused}
use Rattle.tks_input.specs.declared.reply.Reply.{Reply}
use Rattle.tks_durable.specs.Draining.{StopsSo, TurnsTo}
use Rattle.tks_durable.specs.Durable.{CheckpointFails, CommitFails, DurableState, checkpointed, committed}
use Rattle.tks_durable.specs.Lives.{LeavesPrefixes, Lives}
use Rattle.tks_durable.specs.Machine.{Meaning, accepts}
use Rattle.tks_durable.specs.Refusing.{PostRefused}
use Rattle.tks_durable.specs.declared.calls.Call.{Call}
use Rattle.tks_durable.specs.declared.calls.Call.TheVariants.{Post, Drain, Commit, Checkpoint}
use Rattle.tks_durable.specs.declared.fault.SessionFault.{SessionFault}

-- so many turns
abbrev pub turns : ℕ → List Input
turns zero = []
turns (suc n) = Turn ∷ turns n

-- the end of a call that went well, and of one that failed
abbrev pub well : Result (Unit {0}) SessionFault
well = Ok tt

abbrev pub ill : SessionFault → Result (Unit {0}) SessionFault
ill why = Err why

-- it failed, with a fault of which this is so
abbrev pub IsIll : Result (Unit {0}) SessionFault → (SessionFault → Type 0) → Type 0
IsIll (Ok done) P = ⊥
IsIll (Err why) P = P why

module _ {D M W : Type 0} (m : Meaning W) (failures : D → ℕ) where
  -- ---- what one call does, and which inputs it accepts

  abbrev pub behind_input : DurableState D M W → Input → W → DurableState D M W
  behind_input s input world = record s { world = world; waiting = s.waiting ++ input ∷ [] }

  -- an input is accepted, or refused
  abbrev pub Posts : DurableState D M W → DurableState D M W → Input → List Input → Type 0
  Posts old new input accepted =
      ((reply : Reply) × (m.step old.world input ≡ accepts new.world reply) × (new ≡ behind_input old input new.world) × (accepted ≡ input ∷ []))
      ⊎ ((why : Refused) × PostRefused m old input why × (new ≡ old) × (accepted ≡ []))

  -- turns are run, until so many were or one is refused
  abbrev pub RunsTurns : DurableState D M W → DurableState D M W → ℕ → List Input → Type 0
  RunsTurns old new n accepted = (replies : List Reply) × (ended : Option Refused) × TurnsTo m old replies new × StopsSo m new n (length replies) ended × (accepted ≡ turns (length replies))

  -- what waited is on the disk
  abbrev pub Commits : DurableState D M W → DurableState D M W → Type 0
  Commits old new = new ≡ record old { journal = committed old.journal new.journal.disk old.waiting; waiting = []; acknowledged = m.count old.world }

  -- the other side begins with the world; or nothing is done, as it is too large or memory was refused
  abbrev pub Checkpoints : DurableState D M W → DurableState D M W → Type 0
  Checkpoints old new = (new ≡ record old { journal = checkpointed m old.journal new.journal.disk old.world; waiting = []; acknowledged = m.count old.world }) ⊎ (new ≡ old)

  -- one call, which ends so
  abbrev pub Called : Call → DurableState D M W → DurableState D M W → List Input → Result (Unit {0}) SessionFault → Type 0
  Called (Post input) old new accepted (Ok done) = Posts old new input accepted
  Called (Drain n) old new accepted (Ok done) = RunsTurns old new n accepted
  Called Commit old new accepted (Ok done) = Commits old new × (accepted ≡ [])
  Called Checkpoint old new accepted (Ok done) = Checkpoints old new × (accepted ≡ [])
  Called (Post input) old new accepted (Err why) = ⊥
  Called (Drain n) old new accepted (Err why) = ⊥
  Called Commit old new accepted (Err why) = CommitFails old new (failures old.journal.disk) (failures new.journal.disk) why × (accepted ≡ [])
  Called Checkpoint old new accepted (Err why) = CheckpointFails m old new (failures old.journal.disk) (failures new.journal.disk) why × (accepted ≡ [])

  -- ---- calls

  -- calls one after the other, up to the first that fails
  abbrev pub CalledAll : List Call → DurableState D M W → DurableState D M W → List Input → Result (Unit {0}) SessionFault → Type 0
  CalledAll [] old new accepted (Ok done) = (new ≡ old) × (accepted ≡ [])
  CalledAll [] old new accepted (Err why) = ⊥
  CalledAll (call ∷ calls) old new accepted result =
      ((mid : DurableState D M W) × (first : List Input) × (others : List Input) × Called call old mid first well × CalledAll calls mid new others result × (accepted ≡ first ++ others))
      ⊎ IsIll result (λ why. Called call old new accepted (ill why))

  -- Calls were made: what they accepted, and what a crash leaves of them.
  pub record Makes (view : D → View) (calls : List Call) (old new : DurableState D M W) (result : Result (Unit {0}) SessionFault) : Type 0 where
    pub accepted : List Input
    pub called : CalledAll calls old new accepted result
    -- a crash at any moment leaves what opens to what a prefix of the inputs leaves: of those that waited, and those accepted
    pub moments : LeavesPrefixes m view old new accepted
    -- where none failed, what was put on the disk stays in that prefix from here on
    pub lives : OnOk result (Lives m view old new accepted)
