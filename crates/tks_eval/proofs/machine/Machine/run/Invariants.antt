use Rattle.std.proofs.Common.{◌≡◌}
use Rattle.tks_eval.specs.Outcome.{Outcome}
use Rattle.tks_eval.specs.Machine.{GoesSo}
use Rattle.tks_eval.proofs.Running.{turns_left}
use Rattle.tks_eval.proofs.machine.Machine.run.Given as goal

abbrev pub invariant-steps : goal.invariant-steps
invariant-steps g l = record {
  place : g.H.Host.place l.host ≡ g.H.Host.place l.fn.host;
  goes : (whole : Outcome g.row.H-State.Denot) → GoesSo g.H.Host.meaning whole l.fn.stack l.fn.first l.fn.self (g.H.Host.state l.fn.host) → GoesSo g.H.Host.meaning whole l.stack l.came l.self (g.H.Host.state l.host);
}

abbrev pub decreases-steps : goal.decreases-steps
decreases-steps g l = l.self.fuel

abbrev pub invariant-turns : goal.invariant-turns
invariant-turns g l = record {
  before : l.self.fuel ≡ l.before;
  place : g.H.Host.place l.host ≡ g.H.Host.place l.fn.host;
  goes : (whole : Outcome g.row.H-State.Denot) → GoesSo g.H.Host.meaning whole l.fn.stack l.fn.first l.fn.self (g.H.Host.state l.fn.host) → GoesSo g.H.Host.meaning whole l.stack l.came l.self (g.H.Host.state l.host);
}

abbrev pub decreases-turns : goal.decreases-turns
decreases-turns g l = turns_left l.came l.stack
