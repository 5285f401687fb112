use Rattle.std.proofs.Common.{◌≤◌, map, subst, sym, ap, ◌∙◌}
use Rattle.std.specs.List.{AllByRecursion}
use Rattle.tks_tree.specs.Windows.{max_number, preorder}
use Rattle.tks_state.specs.Laid.{asked_by}
use Rattle.tks_state.specs.Layout.{placed_in, shown_of, AllInside, AllShownOn}
use Rattle.tks_state.proofs.Layouts.{preorder_low, shown_lie}
use Rattle.tks_state.proofs.world.World.found.Goals as goal

pub returns-clause-shown : goal.returns-clause-shown
returns-clause-shown c =
    let kept = ap (map (λ k. k.now)) c.as_slice.ensures.value ∙ c.in_ok-row.ensures ∙ c.all_kept.ensures in
    let order = c.deref.ensures.value ∙ c.in_ok-order.ensures ∙ ap preorder c.tree.ensures.value in
    let all = c.in_ok-placed.ensures.value ∙ (λ i. placed_in (c.variables.ensures i) (kept i) (c.grid.ensures i)) in
    c.in_ok-shown.ensures ∙ (λ i. shown_of (all i) (order i))

pub returns-clause-inside : goal.returns-clause-inside
returns-clause-inside c =
    let lie = subst (λ g. AllInside g c.in_ok-placed.placed) c.grid.ensures c.in_ok-placed.ensures.inside in
    let order = c.deref.ensures.value ∙ c.in_ok-order.ensures ∙ ap preorder c.tree.ensures.value in
    let low = subst (AllByRecursion (λ n. n ≤ max_number)) (sym order) (preorder_low c.args.self.now.tree c.tree.ensures.formed) in
    subst (AllShownOn c.args.self.now.grid) (sym c.in_ok-shown.ensures) (shown_lie c.args.self.now.grid c.in_ok-placed.placed c.deref.result.now low lie)

pub returns-clause-asked : goal.returns-clause-asked
returns-clause-asked c =
    let kept = ap (map (λ k. k.now)) c.as_slice-2.ensures.value ∙ c.in_ok-row.ensures ∙ c.all_kept.ensures in
    c.in_ok-asked.ensures ∙ (λ i. asked_by (c.variables-2.ensures i) (kept i))
