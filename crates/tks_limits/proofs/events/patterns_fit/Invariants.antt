use Rattle.std.proofs.Common.{◌≡◌, drop}
use Rattle.std.specs.List.{list_all}
use Rattle.tks_limits.specs.Within as kinds
use Rattle.tks_limits.proofs.events.patterns_fit.Given as goal

-- the others decide
abbrev pub invariant-loop-pattern : goal.invariant-loop-pattern
invariant-loop-pattern l = list_all (λ p. kinds.fits l.limits p.detail) (drop l.pattern-index l.patterns) ≡ list_all (λ p. kinds.fits l.fn.limits p.detail) l.fn.patterns
