use Rattle.std.proofs.Common.{sym, subst, ◌∙◌}
use Rattle.std.specs.List.{AllByRecursion}
use Rattle.tks_pack.specs.Laws.{LiesInside}
use Rattle.tks_state.specs.Layout.{size_in, extent_of}
use Rattle.tks_state.proofs.layout.place_in.Goals as goal

pub place_contents-requires-clause-inside : goal.place_contents-requires-clause-inside
place_contents-requires-clause-inside c =
    let container = extent_of c.in-Some.area in
    subst (AllByRecursion (LiesInside container)) (sym (c.deref.ensures.value ∙ c.in_ok-places.ensures))
    (c.windows_lie_inside.ensures (size_in c.args.sizes.now) container c.args.kept.now.packing.contents)
