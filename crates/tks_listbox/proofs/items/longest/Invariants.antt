use Rattle.std.proofs.Common.{◌≡◌}
use Rattle.std.specs.Prelude.{max}
use Rattle.tks_listbox.specs.Shown.{longest}
use Rattle.tks_listbox.proofs.items.longest.Given as goal

-- the greatest so far, with the rest, is that of all
abbrev pub invariant-loop-item : goal.invariant-loop-item
invariant-loop-item l = max l.most (longest l.item-iterator) ≡ longest l.items
