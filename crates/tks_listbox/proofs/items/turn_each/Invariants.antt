use Rattle.std.proofs.Common.{◌≡◌, ◌≤◌}
use Rattle.tks_listbox.specs.Listbox.{turned_in}
use Rattle.tks_listbox.proofs.items.turn_each.Given as goal

-- those so far are turned
abbrev pub invariant-loop-place : goal.invariant-loop-place
invariant-loop-place l = record {
  made : l.items ≡ turned_in l.on l.front l.place l.fn.items;
  none : l.behind ≤ l.front → l.place ≡ l.front;
}
