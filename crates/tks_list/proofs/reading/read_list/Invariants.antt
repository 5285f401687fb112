use Rattle.std.proofs.Common.{◌≡◌, ◌≤◌, ◌-◌, length, drop}
use Rattle.tks_list.specs.Reading.{list_of}
use Rattle.tks_list.specs.Gives.{behind_list}
use Rattle.tks_list.proofs.reading.read_list.Given as goal

abbrev pub invariant-elements : goal.invariant-elements
invariant-elements l = record {
  so_far : behind_list l.list.list (list_of (drop l.start l.text)) ≡ list_of l.text;
  is_same : l.list.text ≡ l.text;
  bound : l.start ≤ length l.text;
}

abbrev pub decreases-elements : goal.decreases-elements
decreases-elements l = length l.text - l.start
