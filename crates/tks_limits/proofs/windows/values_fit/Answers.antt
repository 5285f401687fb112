use Rattle.std.proofs.Common.{rules, ◌≡◌, ◌+◌, ◌&&◌, Some, sym, ap, ◌∙◌, drop}
use Rattle.std.specs.Prelude.{slice_get}
use Rattle.std.specs.List.{list_all}
use Rattle.tks_opt.specs.Options.{values_in_order}
use Rattle.tks_limits.specs.Within as kinds
use Rattle.tks_limits.proofs.Walk.{all_at}
use Rattle.tks_limits.proofs.windows.values_fit.Goals as goal

pub returns-then-not-fits : goal.returns-then-not-fits
returns-then-not-fits c =
    let xs = values_in_order c.args.options.now in
    let fits = kinds.fits c.args.limits.now in
    let i = c.loop-index.index in
    let value = c.in-Some.value.now in
    let here : slice_get xs i ≡ Some value = search rules in
    ap (λ b. b && list_all fits (drop (i + 1) xs)) (c.if-not-fits.ensures ∙ ap fits c.as_bytes.ensures.value) ∙ sym (all_at fits xs i value here) ∙ c.loop-index.invariant

pub loop-index-preserved : goal.loop-index-preserved
loop-index-preserved c =
    let xs = values_in_order c.args.options.now in
    let fits = kinds.fits c.args.limits.now in
    let i = c.loop-index.index in
    let value = c.in-Some.value.now in
    let here : slice_get xs i ≡ Some value = search rules in
    ap (λ b. b && list_all fits (drop (i + 1) xs)) (c.if-not-fits.ensures ∙ ap fits c.as_bytes.ensures.value) ∙ sym (all_at fits xs i value here) ∙ c.loop-index.invariant
