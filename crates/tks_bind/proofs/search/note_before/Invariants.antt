use Rattle.std.proofs.Common.{◌≡◌, ◌≤◌, length}
use Rattle.tks_bind.specs.Search.{Joins}
use Rattle.tks_bind.proofs.Noting.{PrecedesFrom, Clear}
use Rattle.tks_bind.proofs.search.note_before.Given as goal

-- those so far back are noted, and may all lie before the event
abbrev pub invariant-loop-from : goal.invariant-loop-from
invariant-loop-from l = record {
  within : l.from ≤ l.place;
  noted : Joins l.fn.row l.row (λ n. PrecedesFrom l.earlier l.later l.history l.place l.from n);
  clear : Clear l.history l.place l.event l.from;
  size : length l.row ≡ 32;
}

abbrev pub decreases-loop-from : goal.decreases-loop-from
decreases-loop-from l = l.from
