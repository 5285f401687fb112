use Rattle.std.proofs.Common.{◌≡◌, ◌++◌, length}
use Rattle.tks_event.specs.Canonical.{canonical}
use Rattle.tks_event.proofs.spelling.canonical.Given as goal

abbrev pub invariant-patterns : goal.invariant-patterns
invariant-patterns l = l.text ++ canonical l.rest ≡ canonical l.patterns

abbrev pub decreases-patterns : goal.decreases-patterns
decreases-patterns l = length l.rest
