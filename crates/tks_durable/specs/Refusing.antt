-- What a refusal says.
use Rattle.std.specs.Prelude.{◌≡◌, Bool, true, false}
use Rattle.tks_input.specs.declared.input.Input.{Input}
use Rattle.tks_input.specs.declared.reply.Refused.{Refused}
use Rattle.tks_input.specs.declared.reply.Refused.TheVariants.{BadInput, ClockBack, PendingFull, Budget, Depth, TooLarge, NoMemory, Quiet, Failed}
use Rattle.tks_durable.specs.Machine.{Meaning, Stepped, refuses}
use Rattle.tks_durable.specs.Durable.{DurableState, is_full}

-- A step is refused as its definition says, or for want of memory. It knows neither commits nor devices.
abbrev pub RefusedAs : {W : Type 0} → Refused → Stepped W → Type 0
RefusedAs NoMemory stepped = Unit {0}
RefusedAs PendingFull stepped = ⊥
RefusedAs Failed stepped = ⊥
RefusedAs BadInput stepped = stepped ≡ refuses BadInput
RefusedAs ClockBack stepped = stepped ≡ refuses ClockBack
RefusedAs Budget stepped = stepped ≡ refuses Budget
RefusedAs Depth stepped = stepped ≡ refuses Depth
RefusedAs TooLarge stepped = stepped ≡ refuses TooLarge
RefusedAs Quiet stepped = stepped ≡ refuses Quiet

-- a step that a machine with room for the input tries
pub record Tried {D M W : Type 0} (m : Meaning W) (s : DurableState D M W) (input : Input) (why : Refused) : Type 0 where
  pub working : s.journal.failed ≡ false
  pub room : is_full m.pending s.journal s.waiting input ≡ false
  pub refused : m.step s.world input ≡ refuses why

-- Why an input isn't taken: first a failed device, then want of room, then what its step says. Want of memory may come in between.
abbrev pub PostRefused : {D M W : Type 0} → Meaning W → DurableState D M W → Input → Refused → Type 0
PostRefused m s input Failed = s.journal.failed ≡ true
PostRefused m s input PendingFull = (s.journal.failed ≡ false) × (is_full m.pending s.journal s.waiting input ≡ true)
PostRefused m s input NoMemory = s.journal.failed ≡ false
PostRefused m s input BadInput = Tried m s input BadInput
PostRefused m s input ClockBack = Tried m s input ClockBack
PostRefused m s input Budget = Tried m s input Budget
PostRefused m s input Depth = Tried m s input Depth
PostRefused m s input TooLarge = Tried m s input TooLarge
PostRefused m s input Quiet = Tried m s input Quiet

-- the same of a step that is tried where there is room
abbrev pub RoomRefused : {W : Type 0} → Refused → Bool → Stepped W → Type 0
RoomRefused PendingFull room stepped = room ≡ false
RoomRefused Failed room stepped = ⊥
RoomRefused NoMemory room stepped = room ≡ true
RoomRefused BadInput room stepped = (room ≡ true) × (stepped ≡ refuses BadInput)
RoomRefused ClockBack room stepped = (room ≡ true) × (stepped ≡ refuses ClockBack)
RoomRefused Budget room stepped = (room ≡ true) × (stepped ≡ refuses Budget)
RoomRefused Depth room stepped = (room ≡ true) × (stepped ≡ refuses Depth)
RoomRefused TooLarge room stepped = (room ≡ true) × (stepped ≡ refuses TooLarge)
RoomRefused Quiet room stepped = (room ≡ true) × (stepped ≡ refuses Quiet)
