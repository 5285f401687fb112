use Rattle.std.proofs.Common.{rules, ◌≡◌, ◌+◌, Some, sym, ap, ◌∙◌, ◌&&◌, drop}
use Rattle.std.specs.Prelude.{slice_get}
use Rattle.tks_tree.specs.View.{window_seen}
use Rattle.tks_state.specs.Restoring.{are_in_step}
use Rattle.tks_state.proofs.Restored.{in_step_at}
use Rattle.tks_state.proofs.restoring.are_in_step.Goals as goal

pub returns-then-not-is_kept_of : goal.returns-then-not-is_kept_of
returns-then-not-is_kept_of c =
    let ws = c.args.tree.now.windows in
    let ks = c.args.kept.now in
    let i = c.loop-index.index in
    let here : slice_get ws i ≡ Some (window_seen c.in-Some.window) = search rules in
    let one : slice_get ks i ≡ Some c.in-Some-get.one.now = search rules in
    let step = in_step_at ws ks i (window_seen c.in-Some.window) c.in-Some-get.one.now here one in
    ap (λ b. b && are_in_step (drop (i + 1) ws) (drop (i + 1) ks)) c.if-not-is_kept_of.ensures ∙ sym step ∙ c.loop-index.invariant.1

pub loop-index-preserved : goal.loop-index-preserved
loop-index-preserved c =
    let ws = c.args.tree.now.windows in
    let ks = c.args.kept.now in
    let i = c.loop-index.index in
    let here : slice_get ws i ≡ Some (window_seen c.in-Some.window) = search rules in
    let one : slice_get ks i ≡ Some c.in-Some-get.one.now = search rules in
    let step = in_step_at ws ks i (window_seen c.in-Some.window) c.in-Some-get.one.now here one in (
      c.loop-index.invariant.0,
      ap (λ b. b && are_in_step (drop (i + 1) ws) (drop (i + 1) ks)) c.if-not-is_kept_of.ensures ∙ sym step ∙ c.loop-index.invariant.1,
    )
