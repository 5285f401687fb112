use Rattle.std.proofs.Common.{◌≡◌, ◌-◌, ◌<◌, suc, map, take, length, Some, ap, sym, ◌∙◌, arith}
use Rattle.std.specs.Option.{option_map}
use Rattle.std.specs.Prelude.{slice_get}
use Rattle.std.specs.FinMap as finite
use Rattle.std.proofs.lemmas.Option.{slice_get-get_or, slice_get-map}
use Rattle.tks_state.specs.Layout.{sizes_before}
use Rattle.tks_state.proofs.Layouts.{sizes_up_to}
use Rattle.tks_state.proofs.layout.sizes_of.Goals as goal

pub loop-left-preserved : goal.loop-left-preserved
loop-left-preserved c =
    let variables = c.args.variables.now in
    let row = c.args.row.now in
    let kept = map (λ k. k.now) row in
    let before = c.loop-left.left - 1 in
    let one = c.index-row-left.result in
    let known = c.loop-left.sizes in
    let below : before < length row = omega (arith, c.loop-left.invariant.within, c.loop-left-test.true) in
    let lent : slice_get row before ≡ Some one = slice_get-get_or row before one below ∙ ap Some (sym c.index-row-left.is) in
    let there : slice_get kept before ≡ Some one.now = slice_get-map (λ k. k.now) row before ∙ ap (option_map (λ k. k.now)) lent in
    let last : suc before ≡ c.loop-left.left = omega (arith, c.loop-left-test.true) in
    record {
      within = omega (arith, c.loop-left.invariant.within);
      rest =
          ap (sizes_before variables (take before kept)) (c.in_ok-insert.ensures.ok ∙ ap (finite.insert known one.now.window) c.in_ok-size.ensures)
          ∙ sizes_up_to variables kept before one.now known there
          ∙ ap (λ n. sizes_before variables (take n kept) known) last
          ∙ c.loop-left.invariant.rest;
    }
