use Rattle.std.proofs.Common.{◌≡◌, ◌==◌, drop}
use Rattle.std.specs.List.{find}
use Rattle.tks_world.proofs.buttons.placed.Given as goal

-- where it lies among those further on is where it lies among all
abbrev pub invariant-loop-placed : goal.invariant-loop-placed
invariant-loop-placed l = find (λ p. p.window == l.window) (drop l.placed-index l.shown) ≡ find (λ p. p.window == l.fn.window) l.fn.shown
