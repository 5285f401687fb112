-- What the calls that read a disk do to it, and when they fail.
use Rattle.std.specs.Prelude.{◌≡◌, ◌<◌, ℕ, Result, MatchResult}
use Rattle.tks_disk.specs.DiskModel.{View}
use Rattle.tks_journal.specs.Moments.{LeavesOnly}
use Rattle.tks_journal.specs.declared.error.OpenError.{OpenError}
use Rattle.tks_journal.specs.declared.error.OpenError.TheVariants.{NoMemory, Device, Sides}

-- a run of calls that write nothing: what is read stays, and a crash leaves what a crash before them might have left
pub record Unwritten (old new : View) : Type 0 where
  pub same : new.reads ≡ old.reads
  pub leaves : LeavesOnly old new old.may_leave

-- a fault of the device raises the count of failures, and no other does
abbrev pub RaisedBy : OpenError → ℕ → ℕ → Type 0
RaisedBy NoMemory old new = new ≡ old
RaisedBy Device old new = old < new
RaisedBy (Sides fault) old new = new ≡ old

abbrev pub Tells : {T : Type 0} → Result T OpenError → ℕ → ℕ → Type 0
Tells result old new = MatchResult result (λ _. new ≡ old) (λ e. RaisedBy e old new)

-- not the bytes' fault
abbrev pub IsOurs : OpenError → Type 0
IsOurs NoMemory = Unit {0}
IsOurs Device = Unit {0}
IsOurs (Sides fault) = ⊥

abbrev pub NoSideFault : {T : Type 0} → Result T OpenError → Type 0
NoSideFault result = MatchResult result (λ _. Unit {0}) IsOurs
