use Rattle.std.proofs.Common.{sym}
use Rattle.tks_state.proofs.class_bindings.bind_traversal.Goals as goal

pub returns : goal.returns
returns c = rw (sym c.in_ok-bind.ensures.value) c.in_ok-bind-2.ensures.value
