use Rattle.std.proofs.Common.{◌≡◌, drop}
use Rattle.std.specs.List.{list_all}
use Rattle.tks_limits.specs.Within as kinds
use Rattle.tks_limits.proofs.windows.names_fit.Given as goal

-- the others decide
abbrev pub invariant-loop-tag : goal.invariant-loop-tag
invariant-loop-tag l = list_all (λ g. kinds.fits l.limits g.name) (drop l.tag-index l.tags) ≡ list_all (λ g. kinds.fits l.fn.limits g.name) l.fn.tags
