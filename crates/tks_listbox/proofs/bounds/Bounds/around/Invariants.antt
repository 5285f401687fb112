use Rattle.std.proofs.Common.{◌≡◌, ◌<◌, ◌≤◌, ℕ, true}
use Rattle.tks_listbox.specs.Bounds.{is_on}
use Rattle.tks_listbox.proofs.bounds.Bounds.around.Given as goal

-- those so far stand between the bounds
abbrev pub invariant-loop-place : goal.invariant-loop-place
invariant-loop-place l = record {
  order : l.bounds.front ≤ l.bounds.behind;
  within : l.bounds.behind ≤ l.place;
  around : (i : ℕ) → i < l.place → is_on l.items i ≡ true → (l.bounds.front ≤ i) × (i < l.bounds.behind);
}
