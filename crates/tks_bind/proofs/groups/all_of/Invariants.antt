use Rattle.std.proofs.Common.{◌≡◌, ◌++◌}
use Rattle.tks_bind.specs.Tagged.{all_grouped, all_in}
use Rattle.tks_bind.proofs.groups.all_of.Given as goal

-- those so far, and those further on, are all
abbrev pub invariant-loop-kind : goal.invariant-loop-kind
invariant-loop-kind g l = l.found ++ all_grouped l._kind-iterator ≡ all_in l.groups
