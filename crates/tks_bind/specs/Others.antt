-- What a command doesn't name (bind(n), event(n)).
use Rattle.std.specs.Prelude.{ℕ, not, List}
use Rattle.std.specs.List.{filter}
use Rattle.tks_event.specs.declared.pattern.Pattern.{Pattern}
use Rattle.tks_bind.specs.Binding.{is_for}
use Rattle.tks_bind.specs.VirtualEvents.{is_named}
use Rattle.tks_bind.specs.declared.binding.Binding.{Binding}
use Rattle.tks_bind.specs.declared.virtual_event.VirtualEvent.{VirtualEvent}

-- the bindings of other tags or other sequences, in their order
abbrev pub other_bindings : List ℕ → List Pattern → List Binding → List Binding
other_bindings tag sequence bs = filter (λ b. not (is_for tag sequence b)) bs

-- the virtual events of other names, in their order
abbrev pub other_events : List ℕ → List VirtualEvent → List VirtualEvent
other_events name vs = filter (λ v. not (is_named name v)) vs
