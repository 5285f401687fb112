use Rattle.std.proofs.Common.{◌≡◌, ◌-◌, ◌≤◌, false}
use denote.Param.Always.{always_mut}
use Rattle.tks_durable.specs.Draining.{DrainsFar}
use Rattle.tks_durable.proofs.durable.Durable.run_turns.Given as goal

-- some turns are run and told
abbrev pub invariant-turns : goal.invariant-turns
invariant-turns g l = record {
  callable : always_mut g.F.FnMut l.initial.tell → always_mut g.F.FnMut l.tell;
  within : l.done ≤ l.turns;
  working : l.self.journal.failed ≡ false;
  machine : l.self.machine ≡ l.fn.self.machine;
  far : DrainsFar (λ p reply q. (r : _) × (r.now ≡ reply) × goal.F-step g p r tt q) (g.M.Machine.meaning l.fn.self.machine) l.fn.self l.self l.fn.tell l.tell l.done;
}

abbrev pub decreases-turns : goal.decreases-turns
decreases-turns g l = l.turns - l.done
