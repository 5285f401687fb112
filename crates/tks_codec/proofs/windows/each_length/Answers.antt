use Rattle.std.proofs.Common.{rules, ◌≡◌, ◌<◌, Some, None, List, [], length, sym, ap, ◌∙◌, arith}
use Rattle.std.specs.Prelude.{slice_get}
use Rattle.std.proofs.lemmas.List.{take_all}
use Rattle.std.proofs.lemmas.Option.{get_or_from_slice_get}
use Rattle.tks_tree.specs.View.{window_seen}
use Rattle.tks_spelling.specs.Spelling.{members}
use Rattle.tks_spelling.specs.Lengths.{counted}
use Rattle.tks_spelling.proofs.Counting.{one_counted}
use Rattle.tks_pack.specs.Packing.{Packed}
use Rattle.tks_codec.specs.Line.{line}
use Rattle.tks_codec.specs.Windows.{line_of, lines_from}
use Rattle.tks_codec.specs.declared.line.Line.{Line}
use Rattle.tks_codec.proofs.OfWindows.{lines_count, line_at_place}
use Rattle.tks_codec.proofs.windows.each_length.Goals as goal

pub loop-index-preserved : goal.loop-index-preserved
loop-index-preserved c =
    let ws = c.args.tree.now.windows in
    let ks = c.args.kept.now in
    let ps : List Packed = [] in
    let xs = lines_from ps ws ks in
    let i = c.loop-index.index in
    let w = window_seen c.in-Some.window in
    let k = c.in-Some-get.one.now in
    let here : slice_get ws i ≡ Some w = search rules in
    let one : slice_get ks i ≡ Some k = search rules in
    let before : i < length ks = omega (arith, c.loop-index-test.true) in
    let lt : i < length xs = omega (arith, lines_count ps ws ks c.requires, before) in
    let is = line_at_place ps ws ks i w k here (sym (get_or_from_slice_get ks i k k one)) before in
    c.saturating_add-sum.ensures ∙ one_counted line xs i (line_of ps w k) c.loop-index.sum c.line_length.result lt is c.loop-index.invariant c.line_length.ensures

pub returns : goal.returns
returns c =
    let ks = c.args.kept.now in
    let ws = c.args.tree.now.windows in
    let xs = lines_from [] ws ks in
    let all = take_all c.loop-index.index xs (omega (arith, lines_count [] ws ks c.requires, c.loop-index-test.false)) in
    c.loop-index.invariant ∙ ap (λ (ls : List Line). counted (length (members (λ before. line) None ls))) all
