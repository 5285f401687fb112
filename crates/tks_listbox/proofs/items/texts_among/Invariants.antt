use Rattle.std.proofs.Common.{◌≡◌, ◌≤◌, map}
use Rattle.tks_listbox.specs.Listbox.{among}
use Rattle.tks_listbox.proofs.items.texts_among.Given as goal

-- the texts so far
abbrev pub invariant-loop-place : goal.invariant-loop-place
invariant-loop-place l = record {
  made : l.texts ≡ map (λ item. item.text) (among l.front l.place l.items);
  none : l.behind ≤ l.front → l.place ≡ l.front;
}
