-- What a session's faults are called, and the status that the program ends with (this project's own rule).
use Rattle.std.specs.Prelude.{ℕ, List, [], ◌∷◌, codes}
use Rattle.tks_durable.specs.declared.fault.SessionFault.{SessionFault}
use Rattle.tks_durable.specs.declared.fault.SessionFault.TheVariants.{TooLarge, NoMemory, Disk, Failed, Damaged, OtherCommands, OtherGrid, SmallerLimits, Version}
use Rattle.tks_desk.specs.Writing.{flattened}

abbrev pub fault_name : SessionFault → List ℕ
fault_name TooLarge = codes "large"
fault_name NoMemory = codes "memory"
fault_name Disk = codes "disk"
fault_name Failed = codes "failed"
fault_name Damaged = codes "damaged"
fault_name OtherCommands = codes "commands"
fault_name OtherGrid = codes "grid"
fault_name SmallerLimits = codes "limits"
fault_name Version = codes "version"

abbrev pub fault_line : SessionFault → List ℕ
fault_line why = flattened (codes "fault " ∷ fault_name why ∷ codes "\n" ∷ [])

abbrev pub fault_status : SessionFault → ℕ
fault_status TooLarge = 1
fault_status NoMemory = 5
fault_status Disk = 1
fault_status Failed = 1
fault_status Damaged = 1
fault_status OtherCommands = 1
fault_status OtherGrid = 1
fault_status SmallerLimits = 1
fault_status Version = 1
