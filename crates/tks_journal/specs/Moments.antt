-- What a crash leaves over a run of calls. The rules are this project's own.
use Rattle.std.specs.Prelude.{◌≡◌, ◌⊎◌, ℕ, ◌≤◌}
use Rattle.tks_disk.specs.DiskModel.{View, Images}

-- A crash at any moment since old, within a call or between two, leaves images that have P.
pub record LeavesOnly (old new : View) (P : Images → Type 0) : Type 0 where
  pub later : old.clock ≤ new.clock
  -- at any moment since
  pub each : (i : Images) → new.left_since old.clock i → P i
  -- at this moment
  pub now : (i : Images) → new.may_leave i → P i
  -- for a run that began earlier
  pub before : (t : ℕ) (i : Images) → t ≤ old.clock → new.left_since t i → old.left_since t i ⊎ P i

-- A crash now leaves just what is read.
abbrev pub IsSettled : View → Type 0
IsSettled view = (i : Images) → view.may_leave i → i ≡ view.reads
