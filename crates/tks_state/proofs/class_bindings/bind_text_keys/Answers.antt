use Rattle.std.proofs.Common.{sym}
use Rattle.tks_state.proofs.class_bindings.bind_text_keys.Goals as goal

pub returns-clause-value : goal.returns-clause-value
returns-clause-value c = rw (sym c.in_ok-bind.ensures.value, sym c.in_ok-bind-2.ensures.value, sym c.in_ok-bind-3.ensures.value) c.in_ok-bind-4.ensures.value
