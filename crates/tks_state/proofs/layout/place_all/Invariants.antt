use Rattle.std.proofs.Common.{◌≡◌, map, drop}
use Rattle.std.specs.FinMap as fin
use Rattle.tks_state.specs.Layout.{sizes, grid_area, placed_after, AllInside}
use Rattle.tks_state.proofs.layout.place_all.Given as goal

-- with those further on, the windows so far are all
abbrev pub invariant-loop-one : goal.invariant-loop-one
invariant-loop-one l = record {
  rest : placed_after (sizes l.fn.variables (map (λ k. k.now) l.fn.row)) l.placed (map (λ k. k.now) (drop l.one-index l.row))
      ≡ placed_after (sizes l.fn.variables (map (λ k. k.now) l.fn.row)) (fin.insert fin.empty 0 (grid_area l.fn.grid)) (map (λ k. k.now) l.fn.row);
  inside : AllInside l.fn.grid l.placed;
}
