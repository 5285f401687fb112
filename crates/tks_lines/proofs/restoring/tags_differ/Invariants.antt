use Rattle.std.proofs.Common.{◌≡◌, length}
use Rattle.std.specs.Prelude.{map}
use Rattle.tks_lines.specs.Restoring.{differ}
use Rattle.tks_lines.proofs.restoring.tags_differ.Given as goal

abbrev pub invariant-loop-tag : goal.invariant-loop-tag
invariant-loop-tag l = differ (map (λ g. g.name) l.rest) ≡ differ (map (λ g. g.name) l.tags)

abbrev pub decreases-loop-tag : goal.decreases-loop-tag
decreases-loop-tag l = length l.rest
