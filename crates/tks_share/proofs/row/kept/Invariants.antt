use Rattle.std.proofs.Common.{◌≡◌, ◌≤◌, ◌++◌, Bool, length}
use Rattle.std.specs.Prelude.{drop}
use Rattle.std.specs.List.{filter}
use Rattle.tks_share.specs.Lists.{Says}
use Rattle.tks_share.proofs.row.kept.Given as goal

-- those so far that are accepted, and such further on, are all
abbrev pub invariant-loop-index : goal.invariant-loop-index
invariant-loop-index g l = record {
  few : length l.left ≤ l.index;
  all : (p : _ → Bool) → Says (λ x r. goal.F-post g l.keep x r) p → filter p l.row ≡ l.left ++ filter p (drop l.index l.row);
}
