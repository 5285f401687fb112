-- What a crash leaves of a durable machine.
use Rattle.std.specs.Prelude.{◌≡◌, ◌<◌, ℕ, List, [], ◌++◌, false, Result, Ok, Err}
use Rattle.tks_disk.specs.DiskModel.{View, Images}
use Rattle.tks_input.specs.declared.input.Input.{Input}
use Rattle.tks_durable.specs.Machine.{Meaning}
use Rattle.tks_durable.specs.Opening.{opens, run}
use Rattle.tks_durable.specs.Durable.{DurableState}
use Rattle.tks_durable.specs.declared.fault.SessionFault.{SessionFault}
use Rattle.tks_durable.specs.declared.fault.SessionFault.TheVariants as fault

module _ {W : Type 0} (m : Meaning W) where
  -- these images open to what a prefix of the inputs leaves
  pub record OpensToPrefix (start : Result W SessionFault) (inputs : List Input) (images : Images) : Type 0 where
    pub prefix : List Input
    pub others : List Input
    pub parts : inputs ≡ prefix ++ others
    pub leaves : opens m images ≡ run m start prefix

  -- the first of these inputs, each accepted, leave this world
  pub record IsRunOfPrefix (start : Result W SessionFault) (inputs : List Input) (world : W) : Type 0 where
    pub prefix : List Input
    pub others : List Input
    pub parts : inputs ≡ prefix ++ others
    pub leaves : run m start prefix ≡ Ok world

  -- what is read opens to a state that so many inputs led to
  pub record OpensToCount (images : Images) (count : ℕ) : Type 0 where
    pub world : W
    pub opened : opens m images ≡ Ok world
    pub counted : m.count world ≡ count

  -- This state is what the first of the inputs that waited leave, each accepted, behind those that were acknowledged.
  pub record HoldsAcknowledged (reads : Images) (acknowledged : ℕ) (waiting : List Input) (world : W) : Type 0 where
    -- what is read opens to what the acknowledged inputs left, and nothing else
    pub start : W
    pub opened : opens m reads ≡ Ok start
    pub counted : m.count start ≡ acknowledged
    pub behind : IsRunOfPrefix (Ok start) waiting world

  -- these images open to this
  abbrev pub OpensSo : Result W SessionFault → Images → Type 0
  OpensSo result images = opens m images ≡ result

  -- all that a crash now may leave opens to this
  abbrev pub AllOpenTo : View → Result W SessionFault → Type 0
  AllOpenTo view result = (i : Images) → view.may_leave i → opens m i ≡ result

  -- these images open to what some of those do
  pub record OpensAsOneOf (some : Images → Type 0) (images : Images) : Type 0 where
    pub one : Images
    pub is_one : some one
    pub same : opens m images ≡ opens m one

  -- the inputs that wait, behind what is read, leave this world
  abbrev pub Stands : View → List Input → W → Type 0
  Stands view waiting world = run m (opens m view.reads) waiting ≡ Ok world

  -- a machine that has just been opened: nothing waits, and all is acknowledged
  pub record IsFresh {D M : Type 0} (machine : M) (s : DurableState D M W) : Type 0 where
    pub same : s.machine ≡ machine
    pub nothing : s.waiting ≡ []
    pub all : s.acknowledged ≡ m.count s.world
    pub working : s.journal.failed ≡ false

-- the faults that bytes have
abbrev pub OfBytes : SessionFault → Type 0
OfBytes fault.Disk = ⊥
OfBytes fault.NoMemory = ⊥
OfBytes fault.TooLarge = ⊥
OfBytes fault.Failed = ⊥
OfBytes fault.Damaged = Unit {0}
OfBytes fault.OtherCommands = Unit {0}
OfBytes fault.OtherGrid = Unit {0}
OfBytes fault.SmallerLimits = Unit {0}
OfBytes fault.Version = Unit {0}

-- Why opening fails: what the bytes open to, where the disk is honest; or the device failed; or memory was refused. The
-- device's count of failures rises where it failed, and only there.
abbrev pub OpenFails : {W : Type 0} → Meaning W → Type 0 → Result W SessionFault → ℕ → ℕ → SessionFault → Type 0
OpenFails m honest result before after fault.Disk = before < after
OpenFails m honest result before after fault.NoMemory = after ≡ before
OpenFails m honest result before after fault.TooLarge = ⊥
OpenFails m honest result before after fault.Failed = ⊥
OpenFails m honest result before after fault.Damaged = (after ≡ before) × (honest → result ≡ Err fault.Damaged)
OpenFails m honest result before after fault.OtherCommands = (after ≡ before) × (honest → result ≡ Err fault.OtherCommands)
OpenFails m honest result before after fault.OtherGrid = (after ≡ before) × (honest → result ≡ Err fault.OtherGrid)
OpenFails m honest result before after fault.SmallerLimits = (after ≡ before) × (honest → result ≡ Err fault.SmallerLimits)
OpenFails m honest result before after fault.Version = (after ≡ before) × (honest → result ≡ Err fault.Version)
