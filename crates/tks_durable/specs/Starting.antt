-- What a side holds that is begun, and why it isn't made.
use Rattle.std.specs.Prelude.{◌≡◌, ◌<◌, ◌^◌, length, Err}
use Rattle.tks_durable.specs.Machine.{Meaning}
use Rattle.tks_durable.specs.Opening.{begun}
use Rattle.tks_durable.specs.declared.fault.SessionFault.{SessionFault}
use Rattle.tks_durable.specs.declared.fault.SessionFault.TheVariants.{TooLarge, NoMemory, Disk, Failed, Damaged, OtherCommands, OtherGrid, SmallerLimits, Version}

-- The state's spelling is too long; or memory was refused.
abbrev pub SideFails : {W : Type 0} → Meaning W → W → SessionFault → Type 0
SideFails m world TooLarge = 2 ^ 40 < length (m.bytes world)
SideFails m world NoMemory = Unit {0}
SideFails m world SmallerLimits = ⊥
SideFails m world Disk = ⊥
SideFails m world Failed = ⊥
SideFails m world Damaged = ⊥
SideFails m world OtherCommands = ⊥
SideFails m world OtherGrid = ⊥
SideFails m world Version = ⊥

-- The limits don't admit the state before any input; or memory was refused.
abbrev pub StartFails : {W : Type 0} → Meaning W → SessionFault → Type 0
StartFails m SmallerLimits = begun m ≡ Err SmallerLimits
StartFails m NoMemory = Unit {0}
StartFails m TooLarge = ⊥
StartFails m Disk = ⊥
StartFails m Failed = ⊥
StartFails m Damaged = ⊥
StartFails m OtherCommands = ⊥
StartFails m OtherGrid = ⊥
StartFails m Version = ⊥
