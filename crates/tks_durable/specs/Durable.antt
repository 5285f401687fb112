-- What contracts see of a durable machine.
use Rattle.std.specs.Prelude.{◌≡◌, ◌⊎◌, ◌<◌, ◌≤◌, ◌^◌, ℕ, ◌+◌, Bool, true, not, ◌||◌, nat_le, List, [], ◌∷◌, length, Option, Some, None}
use Rattle.std.specs.List.{AllByRecursion}
use Rattle.tks_input.specs.declared.input.Input.{Input}
use Rattle.tks_spelling.specs.Header as headers
use Rattle.tks_spelling.specs.Input as codec
use Rattle.tks_spelling.specs.declared.format.Format.{Format}
use Rattle.tks_spelling.specs.declared.format.Format.TheVariants.{Two}
use Rattle.tks_journal.specs.Journal.{JournalState, room_at}
use Rattle.tks_journal.specs.Sides.{other_of}
use Rattle.tks_durable.specs.Inputs.{lead_length, spelled}
use Rattle.tks_durable.specs.Machine.{Meaning, header_of}
use Rattle.tks_durable.specs.declared.fault.SessionFault.{SessionFault}
use Rattle.tks_durable.specs.declared.fault.SessionFault.TheVariants as fault

pub record DurableState (D M W : Type 0) : Type 0 where
  pub journal : JournalState D
  pub machine : M
  -- what the accepted inputs leave
  pub world : W
  -- the inputs that wait for a commit
  pub waiting : List Input
  -- how many inputs were acknowledged
  pub acknowledged : ℕ

-- the inputs that bytes are, or none
abbrev pub or_none : Option (List Input) → List Input
or_none None = []
or_none (Some inputs) = inputs

-- A frame of inputs of so many bytes finds room behind the gate of a side of this format.
abbrev pub has_room_at : Format → ℕ → ℕ → Bool
has_room_at format gate size = room_at gate (lead_length format + size)

-- As many inputs wait as may, or a frame with this one too finds no room behind the gate.
abbrev pub is_full_at : ℕ → Format → ℕ → List Input → Input → Bool
is_full_at pending format gate waiting input = nat_le pending (length waiting) || not (has_room_at format gate (length (spelled waiting) + length (codec.input.write input)))

abbrev pub is_full : {D : Type 0} → ℕ → JournalState D → List Input → Input → Bool
is_full pending journal waiting input = is_full_at pending journal.format journal.gate waiting input

-- where the next gate stands behind a commit of these inputs, on a side of this format
abbrev pub gate_behind : Format → ℕ → List Input → ℕ
gate_behind format gate [] = gate
gate_behind format gate (input ∷ inputs) = gate + 5 + (lead_length format + length (spelled (input ∷ inputs)))

-- the journal behind a commit of these inputs
abbrev pub committed : {D : Type 0} → JournalState D → D → List Input → JournalState D
committed journal disk inputs = record journal { disk = disk; gate = gate_behind journal.format journal.gate inputs }

-- these bytes are so many inputs
pub record IsPending (body : List ℕ) (count : ℕ) : Type 0 where
  pub inputs : List Input
  pub legal : AllByRecursion codec.input.Legal inputs
  pub bytes : body ≡ spelled inputs
  pub size : count ≡ length inputs

-- a frame of inputs of so many bytes finds room, where inputs wait
abbrev pub HasRoom : {D : Type 0} → JournalState D → ℕ → ℕ → Type 0
HasRoom journal waiting size = (waiting ≡ 0) ⊎ (has_room_at journal.format journal.gate size ≡ true)

-- the journal behind a call that failed
abbrev pub failed_with : {D : Type 0} → JournalState D → D → JournalState D
failed_with journal disk = record journal { disk = disk; failed = true }

-- where the gate behind a state stands on a side that begins with it: behind a gate, a format and a header
abbrev pub gate_behind_world : {W : Type 0} → Meaning W → ℕ → W → ℕ
gate_behind_world m generation world = 2 + length (headers.header.write (header_of m generation world)) + length (m.bytes world)

-- the journal behind a checkpoint of this state: the other side is live, of the newest format, in the next generation, and no frame
-- is on it
abbrev pub checkpointed : {D W : Type 0} → Meaning W → JournalState D → D → W → JournalState D
checkpointed m journal disk world = record {
  disk = disk;
  live = other_of journal.live;
  format = Two;
  generation = journal.generation + 1;
  gate = gate_behind_world m (journal.generation + 1) world;
  failed = journal.failed;
}

-- what can't be put on a side: a state whose spelling is too long, or one generation more than there are
abbrev pub IsTooLarge : {D M W : Type 0} → Meaning W → DurableState D M W → Type 0
IsTooLarge m s = (2 ^ 40 < length (m.bytes s.world)) ⊎ (2 ^ 62 ≤ s.journal.generation)

-- An earlier call failed, memory was refused or the state can't be put on a side, and nothing has changed; or the device failed
-- in this call, and the inputs wait still.
abbrev pub CheckpointFails : {D M W : Type 0} → Meaning W → DurableState D M W → DurableState D M W → ℕ → ℕ → SessionFault → Type 0
CheckpointFails m old new before after fault.Failed = (old.journal.failed ≡ true) × (new ≡ old)
CheckpointFails m old new before after fault.TooLarge = IsTooLarge m old × (new ≡ old)
CheckpointFails m old new before after fault.NoMemory = new ≡ old
CheckpointFails m old new before after fault.Disk = (before < after) × (new ≡ record old { journal = failed_with old.journal new.journal.disk })
CheckpointFails m old new before after fault.Damaged = ⊥
CheckpointFails m old new before after fault.OtherCommands = ⊥
CheckpointFails m old new before after fault.OtherGrid = ⊥
CheckpointFails m old new before after fault.SmallerLimits = ⊥
CheckpointFails m old new before after fault.Version = ⊥

-- An earlier call failed, and nothing has changed; or the device failed in this one, and the inputs wait still.
abbrev pub CommitFails : {D M W : Type 0} → DurableState D M W → DurableState D M W → ℕ → ℕ → SessionFault → Type 0
CommitFails old new before after fault.Failed = (old.journal.failed ≡ true) × (new ≡ old)
CommitFails old new before after fault.Disk = (before < after) × (new ≡ record old { journal = failed_with old.journal new.journal.disk })
CommitFails old new before after fault.TooLarge = ⊥
CommitFails old new before after fault.NoMemory = ⊥
CommitFails old new before after fault.Damaged = ⊥
CommitFails old new before after fault.OtherCommands = ⊥
CommitFails old new before after fault.OtherGrid = ⊥
CommitFails old new before after fault.SmallerLimits = ⊥
CommitFails old new before after fault.Version = ⊥
