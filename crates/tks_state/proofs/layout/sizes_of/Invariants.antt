use Rattle.std.proofs.Common.{◌≡◌, ◌≤◌, map, take, length}
use Rattle.tks_state.specs.Layout.{sizes_before, sizes}
use Rattle.tks_state.proofs.layout.sizes_of.Given as goal

-- what those that are left ask for, with what is known, is what all ask for
abbrev pub invariant-loop-left : goal.invariant-loop-left
invariant-loop-left l = record {
  within : l.left ≤ length l.row;
  rest : sizes_before l.variables (take l.left (map (λ k. k.now) l.row)) l.sizes ≡ sizes l.fn.variables (map (λ k. k.now) l.fn.row);
}

abbrev pub decreases-loop-left : goal.decreases-loop-left
decreases-loop-left l = l.left
