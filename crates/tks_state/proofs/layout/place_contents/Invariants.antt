use Rattle.std.proofs.Common.{◌≡◌}
use Rattle.std.specs.List.{AllByRecursion}
use Rattle.tks_pack.specs.Laws.{LiesInside}
use Rattle.tks_state.specs.Layout.{extent_of, with_contents}
use Rattle.tks_state.proofs.layout.place_contents.Given as goal

-- with those further on, the contents so far are all
abbrev pub invariant-loop-content : goal.invariant-loop-content
invariant-loop-content l = record {
  placed : with_contents l.fn.container l.content-iterator l.rest l.placed ≡ with_contents l.fn.container l.fn.contents l.fn.places l.fn.placed;
  inside : AllByRecursion (LiesInside (extent_of l.fn.container)) l.rest;
}
