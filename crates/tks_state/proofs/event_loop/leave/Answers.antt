use Rattle.tks_state.specs.EventLoop.{is_for}
use Rattle.tks_state.proofs.event_loop.leave.Goals as goal

pub retain-requires-clause-decided : goal.retain-requires-clause-decided
retain-requires-clause-decided c = record { test = is_for c.args.tree.now.windows; so = λ x b h. h }
