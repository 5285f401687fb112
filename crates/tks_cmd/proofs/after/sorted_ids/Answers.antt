use Rattle.tks_timer.specs.After.{ids}
use Rattle.tks_cmd.proofs.Sorting.{sorted_is}
use Rattle.tks_cmd.proofs.after.sorted_ids.Goals as goal

pub returns : goal.returns
returns c = sorted_is (ids c.args.timers.now) c.in_ok-found.found.items c.in_ok-found.ensures.all c.in_ok-found.ensures.rising
