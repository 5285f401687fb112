use Rattle.std.proofs.Common.{◌≡◌}
use Rattle.std.specs.List.{list_all}
use Rattle.tks_limits.specs.Within as kinds
use Rattle.tks_limits.proofs.windows.items_fit.Given as goal

-- the others decide
abbrev pub invariant-loop-item : goal.invariant-loop-item
invariant-loop-item l = list_all (λ i. kinds.fits l.limits i.text) l.item-iterator ≡ list_all (λ i. kinds.fits l.fn.limits i.text) l.fn.items
