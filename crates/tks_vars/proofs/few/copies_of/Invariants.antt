use Rattle.std.proofs.Common.{◌≡◌, take}
use Rattle.tks_vars.proofs.few.copies_of.Given as goal

-- the copies so far
abbrev pub invariant-loop-entry : goal.invariant-loop-entry
invariant-loop-entry l = l.copies.items ≡ take l.entry-index l.entries
