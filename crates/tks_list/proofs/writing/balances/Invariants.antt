use Rattle.std.proofs.Common.{◌≡◌, ◌≤◌, drop}
use Rattle.tks_list.specs.Quoting.{balances}
use Rattle.tks_list.proofs.writing.balances.Given as goal

abbrev pub invariant-loop-c : goal.invariant-loop-c
invariant-loop-c l = record {
  so_far : balances l.held (drop l.c-index l.element) ≡ balances 0 l.element;
  held : l.held ≤ l.c-index;
}
