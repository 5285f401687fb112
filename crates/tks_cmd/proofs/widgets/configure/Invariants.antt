use Rattle.std.proofs.Common.{◌≡◌, length}
use Rattle.tks_state.specs.Widget.{class_of}
use Rattle.tks_cmd.specs.Widgets.{configured}
use Rattle.tks_cmd.proofs.widgets.configure.Given as goal

-- the pairs so far, and those further on, are all
abbrev pub invariant-loop-rest : goal.invariant-loop-rest
invariant-loop-rest l = record {
  rest : configured l.fn.limits l.rest (l.widget, l.variables) ≡ configured l.fn.limits l.fn.pairs (l.fn.widget, l.fn.variables);
  class : class_of l.widget ≡ class_of l.fn.widget;
}

abbrev pub decreases-loop-rest : goal.decreases-loop-rest
decreases-loop-rest l = length l.rest
