use Rattle.std.proofs.Common.{◌≡◌, ◌+◌, Bool}
use Rattle.std.specs.Prelude.{drop}
use Rattle.tks_share.specs.Lists.{Says, leading}
use Rattle.tks_share.proofs.row.accepted.Given as goal

-- those so far are accepted
abbrev pub invariant-loop-index : goal.invariant-loop-index
invariant-loop-index g l =
    (p : _ → Bool) → Says (λ x r. goal.F-post g l.accepts x r) p → leading p l.row ≡ l.index + leading p (drop l.index l.row)
