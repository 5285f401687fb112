use Rattle.std.proofs.Common.{rules, ◌≡◌, length, sym, ◌∙◌, ap}
use Rattle.tks_durable.specs.Inputs.{inputs_in}
use Rattle.tks_durable.specs.Opening.{with_inputs}
use Rattle.tks_durable.proofs.Reading.{counts_all, none_left}
use Rattle.tks_durable.proofs.replay.replay_inputs.Goals as goal

pub returns-clause-value : goal.returns-clause-value
returns-clause-value g c =
    let empty : length c.loop-rest.rest.now ≡ 0 = search rules in
    sym (ap (with_inputs (g.M.Machine.meaning c.args.machine.now) c.loop-rest.so_far) (none_left c.loop-rest.rest.now empty)) ∙ c.loop-rest.invariant.same

pub returns-clause-count : goal.returns-clause-count
returns-clause-count g c =
    let empty : length c.loop-rest.rest.now ≡ 0 = search rules in
    counts_all c.loop-rest.count (inputs_in c.loop-rest.rest.now) (inputs_in c.args.bytes.now) c.loop-rest.invariant.counts (none_left c.loop-rest.rest.now empty)
