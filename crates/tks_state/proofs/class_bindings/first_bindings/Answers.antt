use Rattle.std.proofs.Common.{sym}
use Rattle.tks_state.specs.ClassBindings.{first_bindings}
use Rattle.tks_state.proofs.class_bindings.first_bindings.Goals as goal

pub returns : goal.returns
unfolding first_bindings
returns c =
    rw (
      sym c.new-bindings.ensures,
      sym c.in_ok-bind_presses.ensures.value,
      sym c.in_ok-bind_typing.ensures.value,
      sym c.in_ok-bind_typing-2.ensures.value,
      sym c.in_ok-bind_entry_keys.ensures.value,
      sym c.in_ok-bind_text_keys.ensures.value,
      sym c.in_ok-bind_invoking.ensures.value,
      sym c.in_ok-bind_invoking-2.ensures.value,
    ) c.in_ok-bind_traversal.ensures
