use Rattle.std.proofs.Common.{◌≡◌, ◌++◌}
use Rattle.tks_codec.specs.Windows.{parts_from}
use Rattle.tks_codec.proofs.windows.join.Given as goal

-- those so far, and those of the others
abbrev pub invariant-loop-one : goal.invariant-loop-one
invariant-loop-one l = l.parts.items ++ parts_from l.one-iterator.rest.items l.packings.rest.items ≡ parts_from l.fn.held.items l.fn.packings.items
