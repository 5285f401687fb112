use Rattle.std.proofs.Common.{◌≡◌, length}
use Rattle.tks_pack.specs.Settings.{with_options}
use Rattle.tks_pack.proofs.options.with_options.Given as goal

abbrev pub invariant-loop-name : goal.invariant-loop-name
invariant-loop-name l = with_options l.settings l.rest ≡ with_options l.fn.settings l.options

abbrev pub decreases-loop-name : goal.decreases-loop-name
decreases-loop-name l = length l.rest
