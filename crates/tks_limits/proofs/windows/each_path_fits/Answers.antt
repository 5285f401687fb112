use Rattle.std.proofs.Common.{rules, ◌≡◌, ◌+◌, ◌&&◌, Some, sym, ap, ◌∙◌, drop}
use Rattle.std.specs.Prelude.{slice_get}
use Rattle.std.specs.List.{list_all}
use Rattle.tks_tree.specs.View.{window_seen}
use Rattle.tks_tree.specs.Windows.{Window}
use Rattle.tks_limits.specs.Within as kinds
use Rattle.tks_limits.proofs.Walk.{all_at}
use Rattle.tks_limits.proofs.windows.each_path_fits.Goals as goal

pub returns-then-not-fits : goal.returns-then-not-fits
returns-then-not-fits c =
    let ws = c.args.tree.now.windows in
    let fits = λ (w : Window). kinds.fits c.args.limits.now w.path in
    let i = c.loop-index.index in
    let window = window_seen c.in-Some.window in
    let here : slice_get ws i ≡ Some window = search rules in
    ap (λ b. b && list_all fits (drop (i + 1) ws)) (c.if-not-fits.ensures ∙ ap (kinds.fits c.args.limits.now) c.as_bytes.ensures.value) ∙ sym (all_at fits ws i window here) ∙ c.loop-index.invariant

pub loop-index-preserved : goal.loop-index-preserved
loop-index-preserved c =
    let ws = c.args.tree.now.windows in
    let fits = λ (w : Window). kinds.fits c.args.limits.now w.path in
    let i = c.loop-index.index in
    let window = window_seen c.in-Some.window in
    let here : slice_get ws i ≡ Some window = search rules in
    ap (λ b. b && list_all fits (drop (i + 1) ws)) (c.if-not-fits.ensures ∙ ap (kinds.fits c.args.limits.now) c.as_bytes.ensures.value) ∙ sym (all_at fits ws i window here) ∙ c.loop-index.invariant
