use Rattle.std.proofs.Common.{not, ◌==◌}
use Rattle.tks_queue.proofs.queue.Queue.drop_window.Goals as goal

pub retain-requires-clause-decided : goal.retain-requires-clause-decided
retain-requires-clause-decided c = record { test = λ q. not (q.event.window == c.args.window); so = λ x b h. h }
