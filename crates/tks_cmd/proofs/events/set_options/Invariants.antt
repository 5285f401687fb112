use Rattle.std.proofs.Common.{◌≡◌, length}
use Rattle.tks_cmd.specs.Events.{with_options}
use Rattle.tks_cmd.proofs.events.set_options.Given as goal

-- the options so far, and those further on, are all
abbrev pub invariant-options : goal.invariant-options
invariant-options l = with_options l.pattern l.rest (l.event, l.when) ≡ with_options l.pattern l.fn.options (l.fn.event, l.fn.when)

abbrev pub decreases-options : goal.decreases-options
decreases-options l = length l.rest
