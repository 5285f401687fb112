use Rattle.std.proofs.Common.{◌≡◌, ◌++◌, take, drop}
use Rattle.tks_listbox.proofs.items.remove_each.Given as goal

-- those up to a place are out
abbrev pub invariant-loop-place : goal.invariant-loop-place
invariant-loop-place l = l.items ≡ take l.front l.fn.items ++ drop l._place l.fn.items
