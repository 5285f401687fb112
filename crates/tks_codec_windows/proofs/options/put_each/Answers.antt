use Rattle.std.proofs.Common.{None, take, sym}
use Rattle.std.proofs.lemmas.Result.{err_from_is_err_and}
use Rattle.tks_opt.specs.Options.{values_in_order}
use Rattle.tks_spelling.specs.Spelling.{members, text}
use Rattle.tks_spelling.proofs.Loop.{one_put, one_holds}
use Rattle.tks_spelling.proofs.Puts.{put_refused}
use Rattle.tks_codec_windows.proofs.OfOptions.{in_place}
use Rattle.tks_codec_windows.proofs.options.put_each.Goals as goal

pub returns-in_err-put_text-clause-puts : goal.returns-in_err-put_text-clause-puts
returns-in_err-put_text-clause-puts c =
    let p = err_from_is_err_and c.from_residual.result c.from_residual.ensures.1 in
    rw p.1 (put_refused c.args.out.now.items (members (λ before. text) None (take c.loop-index.index (values_in_order c.args.options.now))) c.loop-index.out.items c.put_text.new.out.items c.loop-index.invariant.0 c.in_err-put_text.ensures.puts)

pub loop-index-preserved : goal.loop-index-preserved
loop-index-preserved c =
    let xs = values_in_order c.args.options.now in
    let i = c.loop-index.index in
    let x = c.in-Some.value.now in
    let is = in_place xs i x (sym c.in-Some.ensures) in (
      one_put (λ before. text) xs i x c.args.out.now.items c.loop-index.out.items c.put_text.new.out.items is.0 is.1 c.loop-index.invariant.0 c.in_ok-put_text.ensures.puts,
      one_holds text.Legal xs i x is.0 is.1 c.loop-index.invariant.1 c.in_ok-put_text.ensures.legal,
    )
