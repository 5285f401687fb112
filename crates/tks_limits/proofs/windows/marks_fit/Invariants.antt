use Rattle.std.proofs.Common.{◌≡◌, drop}
use Rattle.std.specs.List.{list_all}
use Rattle.tks_limits.specs.Within as kinds
use Rattle.tks_limits.proofs.windows.marks_fit.Given as goal

-- the others decide
abbrev pub invariant-loop-mark : goal.invariant-loop-mark
invariant-loop-mark l = list_all (λ m. kinds.fits l.limits m.name) (drop l.mark-index l.marks) ≡ list_all (λ m. kinds.fits l.fn.limits m.name) l.fn.marks
