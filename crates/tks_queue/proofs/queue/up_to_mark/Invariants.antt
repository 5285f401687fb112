use Rattle.std.proofs.Common.{◌≡◌, ◌+◌, ◌-◌, ◌≤◌, length, if◌then◌else◌}
use Rattle.tks_queue.specs.EventQueue.{some_with_mark}
use Rattle.tks_queue.specs.Index.{up_to_mark}
use Rattle.tks_queue.proofs.queue.up_to_mark.Given as goal

-- those that stand behind are still to come; the count is right where none of them was put so
abbrev pub invariant-loop-queued : goal.invariant-loop-queued
invariant-loop-queued l = record {
  behind : l.behind ≡ length l.queued-iterator;
  within : l.behind ≤ l.len;
  count : up_to_mark l.fn.events ≡ (if some_with_mark l.queued-iterator then (l.len - l.behind) + up_to_mark l.queued-iterator else l.count);
}
