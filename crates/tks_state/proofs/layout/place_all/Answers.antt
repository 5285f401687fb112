use Rattle.std.proofs.Common.{◌+◌, map, drop, sym, subst, ap, ◌∙◌, arith}
use Rattle.std.specs.Prelude.{IfSome}
use Rattle.std.specs.FinMap as fin
use Rattle.tks_state.specs.Layout.{LiesOn, sizes, placed_after, with_contents_of}
use Rattle.tks_state.proofs.Layouts.{area_fits, next_one, placed_more, more_lie, grid_area_lies}
use Rattle.tks_state.proofs.layout.place_all.Goals as goal

pub place_in-requires : goal.place_in-requires
place_in-requires c =
    area_fits c.args.grid c.get-area.result c.grid_area.ensures.small.0 c.grid_area.ensures.small.1
    (subst (λ o. IfSome o (LiesOn c.args.grid)) (sym c.get-area.ensures) (c.loop-one.invariant.inside c.one-item.result.now.window))

pub loop-one-init : goal.loop-one-init
loop-one-init c =
    let is = c.in_ok-insert.ensures.ok ∙ (λ i. fin.insert (c.in_ok-placed.ensures i) (c.root.ensures i) (c.grid_area.ensures.value i)) in
    record { rest = ap (λ ps. placed_after (sizes c.args.variables.now (map (λ k. k.now) c.args.row.now)) ps (map (λ k. k.now) c.args.row.now)) is; inside = grid_area_lies c.args.grid c.insert.new.self is }

pub loop-one-preserved : goal.loop-one-preserved
loop-one-preserved c =
    let row = c.args.row.now in
    let index = c.loop-one.one-index in
    let next = ap (map (λ k. k.now)) (next_one row index c.one-item.result (omega arith) c.one-item.is) in
    let known = sizes c.args.variables.now (map (λ k. k.now) row) in
    let rest = map (λ k. k.now) (drop (index + 1) row) in
    let old = c.loop-one.placed in
    let k = c.one-item.result.now in
    let new = c.in_ok-place_in.ensures ∙ ap (λ s. with_contents_of s k c.get-area.result old) c.in_ok-sizes.ensures in
    record {
      rest = placed_more known old c.place_in.new.placed (map (λ k. k.now) (drop index row)) rest k c.get-area.result next c.get-area.ensures new ∙ c.loop-one.invariant.rest;
      inside = more_lie c.args.grid known old c.place_in.new.placed k c.get-area.result c.loop-one.invariant.inside c.get-area.ensures new;
    }
