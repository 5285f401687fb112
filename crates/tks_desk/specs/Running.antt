-- What a run leaves of a session: what a crash at any moment of it leaves, and what its device did.
use Rattle.std.specs.Prelude.{◌≡◌, ◌↔◌, ◌<◌, ℕ, List, [], true, false, Result, Ok, Err}
use Rattle.tks_disk.specs.DiskModel.{View}
use Rattle.tks_input.specs.declared.input.Input.{Input}
use Rattle.tks_app.specs.Applications.{Meaning}
use Rattle.tks_durable.specs.declared.fault.SessionFault.{SessionFault}
use Rattle.tks_durable.specs.declared.fault.SessionFault.TheVariants as session
use Rattle.tks_session.specs.Crash.{AllOpenTo, Lives, LeavesPrefixes, OpensToCount, opens}
use Rattle.tks_session.specs.Sessions.{SessionState, Setting, setting_of}
use Rattle.tks_desk.specs.declared.ending.RunFault.{RunFault}
use Rattle.tks_desk.specs.declared.ending.RunFault.TheVariants as fault

-- A part of life that a failed call ended: a crash since leaves what a prefix of the inputs that waited then leaves, behind all that
-- was put on the disk before.
pub record Dies {D : Type 0} (setting : Setting) (view : D → View) (old new : SessionState D) (accepted : List Input) : Type 0 where
  pub last : SessionState D
  pub lives : Lives setting view old last accepted
  pub leaves : LeavesPrefixes setting view last new []
  pub waits : new.waiting ≡ last.waiting

-- what becomes of a session that had not failed
abbrev pub Survives : {A D : Type 0} → Setting → (D → View) → Result A RunFault → SessionState D → SessionState D → List Input → Type 0
Survives setting view (Ok a) old new accepted = Lives setting view old new accepted
Survives setting view (Err fault.Read) old new accepted = Lives setting view old new accepted
Survives setting view (Err fault.Write) old new accepted = Lives setting view old new accepted
Survives setting view (Err fault.Memory) old new accepted = Lives setting view old new accepted
Survives setting view (Err (fault.Session why)) old new accepted = Dies setting view old new accepted

-- a fault of the session: an earlier call had failed, or the device failed in the last one
abbrev pub FailsSo : {D : Type 0} → (D → ℕ) → SessionFault → SessionState D → SessionState D → Type 0
FailsSo failures session.Failed old new = (old.journal.failed ≡ true) × (failures new.journal.disk ≡ failures old.journal.disk)
FailsSo failures session.Disk old new = (new.journal.failed ≡ true) × (failures old.journal.disk < failures new.journal.disk)
FailsSo failures session.TooLarge old new = ⊥
FailsSo failures session.NoMemory old new = ⊥
FailsSo failures session.Damaged old new = ⊥
FailsSo failures session.OtherCommands old new = ⊥
FailsSo failures session.OtherGrid old new = ⊥
FailsSo failures session.SmallerLimits old new = ⊥
FailsSo failures session.Version old new = ⊥

-- a session that works as before
pub record Works {D : Type 0} (failures : D → ℕ) (old new : SessionState D) : Type 0 where
  pub as_before : new.journal.failed ≡ old.journal.failed
  pub steady : failures new.journal.disk ≡ failures old.journal.disk

-- how the session's device fares
abbrev pub Fares : {A D : Type 0} → (D → ℕ) → Result A RunFault → SessionState D → SessionState D → Type 0
Fares failures (Ok a) old new = Works failures old new
Fares failures (Err fault.Read) old new = Works failures old new
Fares failures (Err fault.Write) old new = Works failures old new
Fares failures (Err fault.Memory) old new = Works failures old new
Fares failures (Err (fault.Session why)) old new = FailsSo failures why old new

-- A part of a run: these inputs were accepted, of which more is said.
pub record Runs {A D : Type 0} (meaning : Meaning) (honest : D → Type 0) (view : D → View) (failures : D → ℕ)
    (result : Result A RunFault) (old new : SessionState D) (says : List Input → Type 0) : Type 0 where
  pub accepted : List Input
  pub told : says accepted
  pub machine : new.machine ≡ old.machine
  pub fares : Fares failures result old new
  pub honesty : honest old.journal.disk ↔ honest new.journal.disk
  pub survives : old.journal.failed ≡ false → honest old.journal.disk → Survives (setting_of meaning old.machine) view result old new accepted

-- What a crash behind a run leaves: all of it opens to the same, to a world that accepted just the acknowledged inputs.
pub record Rests {D : Type 0} (setting : Setting) (view : D → View) (s : SessionState D) : Type 0 where
  pub images : AllOpenTo setting (view s.journal.disk) (opens setting (view s.journal.disk).reads)
  pub acknowledged : OpensToCount setting (view s.journal.disk).reads s.acknowledged
