-- What the bytes of two sides open to. The rules, and the order in which they are asked, are this project's own.
use Rattle.std.specs.Prelude.{◌≡◌, ℕ, Bool, true, IfOk, List, [], ◌∷◌, ◌==◌, ◌&&◌, if◌then◌else◌, Option, Some, None, Result, Ok, Err}
use Rattle.std.specs.Cmp.Lexicographic.{pointwise}
use Rattle.tks_text.specs.Size.{Extent}
use Rattle.tks_text.specs.Text.{same_text}
use Rattle.tks_spelling.specs.declared.format.Format.{Format}
use Rattle.tks_spelling.specs.declared.header.Header.{Header}
use Rattle.tks_disk.specs.DiskModel.{Images}
use Rattle.tks_input.specs.declared.input.Input.{Input}
use Rattle.tks_input.specs.declared.input.Input.TheVariants.{Script, KeyPress, KeyRelease, Press, Release, Clock, Turn, Rules}
use Rattle.tks_input.specs.declared.reply.Refused.{Refused}
use Rattle.tks_input.specs.declared.reply.Refused.TheVariants as refused
use Rattle.tks_journal.specs.Sides.{Kept, holds}
use Rattle.tks_journal.specs.declared.error.OpenError.{OpenError}
use Rattle.tks_journal.specs.declared.error.OpenError.TheVariants as error
use Rattle.tks_journal.specs.declared.fault.SideFault.{SideFault}
use Rattle.tks_journal.specs.declared.fault.SideFault.TheVariants as side
use Rattle.tks_durable.specs.Inputs.{inputs_of}
use Rattle.tks_durable.specs.Machine.{Meaning, Stepped, accepts, refuses}
use Rattle.tks_durable.specs.declared.fault.SessionFault.{SessionFault}
use Rattle.tks_durable.specs.declared.fault.SessionFault.TheVariants.{Damaged, Disk, NoMemory, OtherCommands, OtherGrid, SmallerLimits, Version}

-- an input that the limits don't admit, though it was accepted once: a script too long
abbrev pub fault_of_bad : Input → SessionFault
fault_of_bad (Script text) = SmallerLimits
fault_of_bad (KeyPress key) = Damaged
fault_of_bad (KeyRelease key) = Damaged
fault_of_bad (Press button x y) = Damaged
fault_of_bad (Release button x y) = Damaged
fault_of_bad (Clock time) = Damaged
fault_of_bad Turn = Damaged
fault_of_bad (Rules number) = Damaged

-- why an input of a frame isn't accepted again
abbrev pub fault_of : Input → Refused → SessionFault
fault_of input refused.BadInput = fault_of_bad input
fault_of input refused.Budget = SmallerLimits
fault_of input refused.Depth = SmallerLimits
fault_of input refused.TooLarge = SmallerLimits
fault_of input refused.ClockBack = Damaged
fault_of input refused.PendingFull = Damaged
fault_of input refused.NoMemory = Damaged
fault_of input refused.Quiet = Damaged
fault_of input refused.Failed = Damaged

-- the fault of a durable machine, of one in reading a disk
abbrev pub fault_in_reading : OpenError → SessionFault
fault_in_reading error.NoMemory = NoMemory
fault_in_reading error.Device = Disk
fault_in_reading (error.Sides side.UnknownFormat) = Version
fault_in_reading (error.Sides side.Damaged) = Damaged

abbrev pub reached : {W : Type 0} → Input → Stepped W → Result W SessionFault
reached input (accepts world reply) = Ok world
reached input (refuses why) = Err (fault_of input why)

-- is this grid that one?
abbrev pub same_grid : Extent → Extent → Bool
same_grid a b = (a.width == b.width) && (a.height == b.height)

-- are these names those?
abbrev pub same_names : List (List ℕ) → List (List ℕ) → Bool
same_names = pointwise same_text

-- the states are of type W, and this is their meaning
module _ {W : Type 0} (m : Meaning W) where
  -- a state that is the machine's own, or a fault
  abbrev pub IsOwn : Result W SessionFault → Type 0
  IsOwn result = IfOk result (λ world. m.own world ≡ true)

  -- an input more; a fault stays
  abbrev pub then_input : Result W SessionFault → Input → Result W SessionFault
  then_input (Err fault) input = Err fault
  then_input (Ok world) input = reached input (m.step world input)

  -- the inputs one after the other, each accepted
  abbrev pub run : Result W SessionFault → List Input → Result W SessionFault
  run start [] = start
  run start (input ∷ inputs) = run (then_input start input) inputs

  -- the state before any input, where the limits admit it
  abbrev pub begun : Result W SessionFault
  begun = if m.within m.first then Ok m.first else Err SmallerLimits

  -- a stored state, where it is this machine's
  abbrev pub admitted : Header → W → Result W SessionFault
  admitted header world =
      if same_grid header.grid m.grid
      then (if same_names header.names m.names then (if m.within world then Ok world else Err SmallerLimits) else Err OtherCommands)
      else Err OtherGrid

  -- inputs behind it, if the frames are lists of inputs
  abbrev pub with_inputs : Result W SessionFault → Option (List Input) → Result W SessionFault
  with_inputs start None = Err Damaged
  with_inputs start (Some inputs) = run start inputs

  -- frames behind it, if none is cut
  abbrev pub with_bodies : Format → Result W SessionFault → Option (List (List ℕ)) → Result W SessionFault
  with_bodies format start None = Err Damaged
  with_bodies format start (Some bodies) = with_inputs start (inputs_of format bodies)

  abbrev pub restored : Format → Header → Option W → List (List ℕ) → Result W SessionFault
  restored format header None bodies = Err Damaged
  restored format header (Some world) bodies = with_inputs (admitted header world) (inputs_of format bodies)

  -- what is held opens to
  abbrev pub opened : Result (Option Kept) SideFault → Result W SessionFault
  opened (Err side.UnknownFormat) = Err Version
  opened (Err side.Damaged) = Err Damaged
  opened (Ok None) = begun
  opened (Ok (Some kept)) = restored kept.format kept.header (m.stored kept.format kept.header kept.world) kept.bodies

  -- What the bytes of two sides open to.
  abbrev pub opens : Images → Result W SessionFault
  opens images = opened (holds images)
