-- A window's widget to which something is done.
use Rattle.std.specs.Prelude.{◌≡◌, Result, OnErr}
use Rattle.tks_text.specs.Fault.{Gives}
use Rattle.tks_text.specs.declared.fault.Failure.{Failure}
use Rattle.tks_text.specs.declared.fault.ScriptFault.{ScriptFault}
use Rattle.tks_opt.specs.declared.said.Said.{Said}
use Rattle.tks_state.specs.Widget.{class_of}
use Rattle.tks_state.specs.Windows.{with_widget}
use Rattle.tks_state.specs.declared.kept.Kept.{Kept}
use Rattle.tks_state.specs.declared.widget.Widget.{Widget}

-- its widget is what this leaves of it, and nothing else is new
pub record IsDone (does : Widget → Result (Said × Widget) ScriptFault) (before after : Kept) (answer : Result Said Failure) : Type 0 where
  pub value : Gives (λ said. (said, after.widget)) answer (does before.widget)
  pub others : after ≡ with_widget before after.widget
  pub class : class_of after.widget ≡ class_of before.widget
  pub err : OnErr answer (after ≡ before)
