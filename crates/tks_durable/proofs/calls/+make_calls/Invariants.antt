use Rattle.std.proofs.Common.{length}
use Rattle.tks_durable.proofs.calls.+make_calls.Given as goal

abbrev pub decreases-make_calls : goal.decreases-make_calls
decreases-make_calls g l = length l.calls.now
