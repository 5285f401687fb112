-- A disk whose calls fail by a schedule.
use Rattle.std.specs.Prelude.{◌≡◌, ◌<◌, ◌↔◌, ◌⊎◌, ℕ, Result, IsErr}

pub record FailingState (D S : Type 0) : Type 0 where
  pub disk : D
  pub schedule : S
  -- how many calls it has refused
  pub refused : ℕ

-- a call of it over a disk with this count of failures, by a schedule: which calls it refuses, and what comes next
pub record FailsBy {D S T E : Type 0} (failures : D → ℕ) (refuses : S → Type 0) (next : S → S) (result : Result T E) (old new : FailingState D S) : Type 0 where
  -- it fails where the schedule refuses it, or where the disk fails, and only there
  pub fails : IsErr result ↔ (refuses old.schedule ⊎ (failures old.disk < failures new.disk))
  -- one that is refused passes nothing on
  pub still : refuses old.schedule → new.disk ≡ old.disk
  pub goes-on : new.schedule ≡ next old.schedule
