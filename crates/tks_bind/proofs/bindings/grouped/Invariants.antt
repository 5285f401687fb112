use Rattle.std.proofs.Common.{◌≡◌, true, take}
use Rattle.tks_bind.specs.Distinct.{all_differ}
use Rattle.tks_bind.specs.WellFormed.{differ}
use Rattle.tks_bind.specs.Groups.{Groups}
use Rattle.tks_bind.proofs.bindings.grouped.Given as goal

-- those so far are in their groups
abbrev pub invariant-loop-index : goal.invariant-loop-index
invariant-loop-index l = all_differ differ l.bindings ≡ true → Groups l.tags (take l.index l.bindings)
