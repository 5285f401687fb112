use Rattle.std.proofs.Common.{◌≡◌, ◌==◌}
use Rattle.std.specs.Prelude.{drop}
use Rattle.std.specs.List.{position, position_from}
use Rattle.tks_share.proofs.row.place_of.Given as goal

-- none so far has the number
abbrev pub invariant-loop-index : goal.invariant-loop-index
invariant-loop-index g l =
    position (λ x. g.T.Numbered.number_of x == l.fn.number) l.row
    ≡ position_from (λ x. g.T.Numbered.number_of x == l.fn.number) l.index (drop l.index l.row)
