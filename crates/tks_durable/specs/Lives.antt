-- A part of a durable machine's life: what its calls leave, and what a crash at any moment of them leaves.
use Rattle.std.specs.Prelude.{◌≡◌, List, ◌++◌}
use Rattle.tks_disk.specs.DiskModel.{View}
use Rattle.tks_input.specs.declared.input.Input.{Input}
use Rattle.tks_journal.specs.Moments.{LeavesOnly}
use Rattle.tks_durable.specs.Crash.{OpensToPrefix}
use Rattle.tks_durable.specs.Machine.{Meaning}
use Rattle.tks_durable.specs.Opening.{opens, run}
use Rattle.tks_durable.specs.Durable.{DurableState}

module _ {D M W : Type 0} (m : Meaning W) (view : D → View) where
  -- the two sides, as the machine's disk has them
  abbrev pub view_of : DurableState D M W → View
  view_of s = view s.journal.disk

  -- A crash at any moment leaves what opens to what a prefix of the inputs leaves: of those that waited, and those accepted since.
  abbrev pub LeavesPrefixes : DurableState D M W → DurableState D M W → List Input → Type 0
  LeavesPrefixes old new accepted = LeavesOnly (view_of old) (view_of new) (OpensToPrefix m (opens m (view_of old).reads) (old.waiting ++ accepted))

  -- From one state to the other, while no call failed, these inputs were accepted.
  pub record Lives (old new : DurableState D M W) (accepted : List Input) : Type 0 where
    pub moments : LeavesPrefixes old new accepted
    -- those that were put on the disk
    pub stored : List Input
    pub parts : old.waiting ++ accepted ≡ stored ++ new.waiting
    pub reads : opens m (view_of new).reads ≡ run m (opens m (view_of old).reads) stored
