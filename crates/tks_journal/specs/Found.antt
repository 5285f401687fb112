-- What opening a disk finds.
use Rattle.std.specs.Prelude.{◌≡◌, Option, None, Result, Ok}
use Rattle.tks_disk.specs.DiskModel.{Images}
use Rattle.tks_journal.specs.Sides.{Kept, content}
use Rattle.tks_journal.specs.Loading.{behind}
use Rattle.tks_journal.specs.declared.fault.SideFault.{SideFault}
use Rattle.tks_journal.specs.declared.stored.Opened.{Opened}
use Rattle.tks_journal.specs.declared.stored.Opened.TheVariants.{Nothing, Something}

-- the disk that was opened
abbrev pub disk_of : {D : Type 0} → Opened D → D
disk_of (Nothing blank) = blank
disk_of (Something stored) = stored.disk

-- Nothing, or a live side of this format with this header, and behind it its world and frames. What is read is given twice: what it holds, and
-- as it stands.
abbrev pub OpensTo : {D : Type 0} → Result (Option Kept) SideFault → Images → Opened D → Type 0
OpensTo held reads (Nothing blank) = held ≡ Ok None
OpensTo held reads (Something stored) = held ≡ content stored.live stored.format stored.header (behind stored.live stored.at reads)
