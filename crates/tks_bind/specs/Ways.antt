-- What contracts see of the code's ways.
use Rattle.std.specs.Prelude.{◌==◌, Bool, bit_and, if◌then◌else◌}
use Rattle.tks_event.specs.declared.pattern.Pattern.{Pattern}
use Rattle.tks_bind.specs.declared.way.Way.{Way as Held}
use Rattle.tks_bind.specs.Choice.{Way}

abbrev pub way_of : Held → Way
way_of w = record { sequence = w.sequence.now; is_virtual = w.is_virtual }

abbrev pub overrides_to : Pattern → Pattern → Bool → Bool
overrides_to p q before = if p.modifiers == q.modifiers then before else (bit_and p.modifiers q.modifiers == q.modifiers)
