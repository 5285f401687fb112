use Rattle.std.proofs.Common.{◌≡◌, ◌+◌, length}
use Rattle.tks_app.specs.Applications.{place_for}
use Rattle.tks_app.proofs.apps.Apps.place_for.Given as goal

-- how many come before it so far, and how many of the rest
abbrev pub invariant-loop-other : goal.invariant-loop-other
invariant-loop-other g l = (l.place + place_for l.fn.name l.rest ≡ place_for l.fn.name l.fn.self) × (l.place + length l.rest ≡ length l.fn.self)

abbrev pub decreases-loop-other : goal.decreases-loop-other
decreases-loop-other g l = length l.rest
