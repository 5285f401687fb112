use Rattle.std.proofs.Common.{◌≡◌, ◌++◌}
use Rattle.tks_bind.specs.Tagged.{all_listed}
use Rattle.tks_bind.proofs.groups.push_lists.Given as goal

-- those so far, and those further on, are all
abbrev pub invariant-loop-detail : goal.invariant-loop-detail
invariant-loop-detail g l = l.found ++ all_listed l._detail-iterator ≡ l.fn.found ++ all_listed l.fn.lists
