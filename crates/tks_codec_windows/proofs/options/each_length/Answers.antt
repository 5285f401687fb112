use Rattle.std.proofs.Common.{sym, ◌∙◌}
use Rattle.tks_opt.specs.Options.{values_in_order}
use Rattle.tks_spelling.specs.Spelling.{text}
use Rattle.tks_spelling.proofs.Counting.{one_counted}
use Rattle.tks_codec_windows.proofs.OfOptions.{in_place}
use Rattle.tks_codec_windows.proofs.options.each_length.Goals as goal

pub loop-index-preserved : goal.loop-index-preserved
loop-index-preserved c =
    let xs = values_in_order c.args.options.now in
    let i = c.loop-index.index in
    let x = c.in-Some.value.now in
    let is = in_place xs i x (sym c.in-Some.ensures) in
    c.saturating_add-sum.ensures ∙ one_counted text xs i x c.loop-index.sum c.text_length.result is.0 is.1 c.loop-index.invariant c.text_length.ensures
