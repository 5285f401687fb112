use Rattle.std.proofs.Common.{◌≡◌, ◌≤◌, ◌+◌, length}
use Rattle.tks_durable.specs.Inputs.{inputs_in}
use Rattle.tks_durable.specs.Opening.{IsOwn, with_inputs}
use Rattle.tks_durable.proofs.Reading.{CountsOn}
use Rattle.tks_durable.proofs.replay.replay_inputs.Given as goal

abbrev pub invariant-loop-rest : goal.invariant-loop-rest
invariant-loop-rest g l = record {
  same : with_inputs (g.M.Machine.meaning l.machine) l.so_far (inputs_in l.rest) ≡ with_inputs (g.M.Machine.meaning l.machine) l.fn.start (inputs_in l.bytes);
  own : IsOwn (g.M.Machine.meaning l.machine) l.fn.start → IsOwn (g.M.Machine.meaning l.machine) l.so_far;
  few : l.count + length l.rest ≤ length l.bytes;
  counts : CountsOn l.count (inputs_in l.rest) (inputs_in l.bytes);
}

abbrev pub decreases-loop-rest : goal.decreases-loop-rest
decreases-loop-rest g l = length l.rest
