use Rattle.std.proofs.Common.{rules, ◌≡◌, ◌<◌, ◌++◌, Some, None, List, length, take, sym, ap, ◌∙◌, subst, arith}
use Rattle.std.specs.Prelude.{slice_get}
use Rattle.std.specs.List.{AllByRecursion}
use Rattle.std.proofs.lemmas.List.{take_all}
use Rattle.std.proofs.lemmas.Option.{get_or_from_slice_get}
use Rattle.std.proofs.lemmas.Result.{err_from_is_err_and}
use Rattle.tks_tree.specs.View.{window_seen}
use Rattle.tks_codec_windows.specs.Places.{packed_as}
use Rattle.tks_spelling.specs.Spelling.{members}
use Rattle.tks_spelling.proofs.Loop.{one_put, one_holds}
use Rattle.tks_spelling.proofs.Puts.{put_refused}
use Rattle.tks_codec.specs.Line.{line, line_with}
use Rattle.tks_codec.specs.Windows.{packings_of, line_of, lines_from}
use Rattle.tks_codec.specs.declared.line.Line.{Line}
use Rattle.tks_codec.proofs.OfWindows.{lines_count, line_at_place, class_in_step}
use Rattle.tks_codec.proofs.windows.put_each.Goals as goal

pub put_line-requires : goal.put_line-requires
put_line-requires c =
    let ws = c.args.tree.now.windows in
    let ks = c.args.kept.now in
    let i = c.loop-index.index in
    let w = window_seen c.in-Some.window in
    let k = c.in-Some-get.one.now in
    let here : slice_get ws i ≡ Some w = search rules in
    let one : slice_get ks i ≡ Some k = search rules in
    class_in_step ws ks i w k c.requires here (sym (get_or_from_slice_get ks i k k one)) (omega (arith, c.loop-index-test.true))

pub returns-in_err-put_line-clause-puts : goal.returns-in_err-put_line-clause-puts
returns-in_err-put_line-clause-puts c =
    let p = err_from_is_err_and c.from_residual-in_err-put_line.result c.from_residual-in_err-put_line.ensures.1 in
    let ks = c.args.kept.now in
    let xs = lines_from (packings_of ks) c.args.tree.now.windows ks in
    rw p.1 (put_refused c.args.out.now.items (members (λ before. line) None (take c.loop-index.index xs)) c.loop-index.out.items c.put_line.new.out.items c.loop-index.invariant.0 c.in_err-put_line.ensures.puts)

pub loop-index-preserved : goal.loop-index-preserved
loop-index-preserved c =
    let ws = c.args.tree.now.windows in
    let ks = c.args.kept.now in
    let ps = packings_of ks in
    let xs = lines_from ps ws ks in
    let i = c.loop-index.index in
    let w = window_seen c.in-Some.window in
    let k = c.in-Some-get.one.now in
    let x = line_of ps w k in
    let now = c.loop-index.out.items in
    let new = c.put_line.new.out.items in
    let here : slice_get ws i ≡ Some w = search rules in
    let one : slice_get ks i ≡ Some k = search rules in
    let packing : c.copied-packing.result ≡ packed_as ps w.number = search (rules, c.in_ok-packed.ensures w.number) in
    let before : i < length ks = omega (arith, c.loop-index-test.true) in
    let lt : i < length xs = omega (arith, lines_count ps ws ks c.requires, before) in
    let is = line_at_place ps ws ks i w k here (sym (get_or_from_slice_get ks i k k one)) before in (
      one_put (λ before. line) xs i x c.args.out.now.items now new lt is c.loop-index.invariant.0 (subst (λ p. new ≡ now ++ line.write (line_with w k p)) packing c.in_ok-put_line.ensures.puts),
      one_holds line.Legal xs i x lt is c.loop-index.invariant.1 (subst (λ p. line.Legal (line_with w k p)) packing c.in_ok-put_line.ensures.legal),
    )

pub returns-clause-puts : goal.returns-clause-puts
returns-clause-puts c =
    let ks = c.args.kept.now in
    let xs = lines_from (packings_of ks) c.args.tree.now.windows ks in
    let all = take_all c.loop-index.index xs (omega (arith, lines_count (packings_of ks) c.args.tree.now.windows ks c.requires, c.loop-index-test.false)) in
    c.loop-index.invariant.0 ∙ ap (λ (ls : List Line). c.args.out.now.items ++ members (λ before. line) None ls) all

pub returns-clause-legal : goal.returns-clause-legal
returns-clause-legal c =
    let ks = c.args.kept.now in
    let xs = lines_from (packings_of ks) c.args.tree.now.windows ks in
    let all = take_all c.loop-index.index xs (omega (arith, lines_count (packings_of ks) c.args.tree.now.windows ks c.requires, c.loop-index-test.false)) in
    subst (λ (ls : List Line). AllByRecursion line.Legal ls) all c.loop-index.invariant.1
