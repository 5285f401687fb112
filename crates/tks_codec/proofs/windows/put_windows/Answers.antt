use Rattle.std.proofs.Common.{◌≡◌, ◌<◌, ◌^◌, ◌++◌, None, List, length, sym, ap, ◌∙◌, subst, arith}
use Rattle.std.specs.Int.{w32, to_be_bytes}
use Rattle.std.specs.List.{AllByRecursion}
use Rattle.tks_tree.specs.Windows as tree
use Rattle.tks_spelling.specs.Spelling.{members}
use Rattle.tks_spelling.specs.Writing.{PutsSo}
use Rattle.tks_spelling.proofs.Loop.{each_is_legal}
use Rattle.tks_spelling.proofs.Puts.{put_behind, where_put}
use Rattle.tks_state.specs.World.{windows_of}
use Rattle.tks_state.specs.declared.kept.Kept.{Kept}
use Rattle.tks_codec.specs.Line.{line}
use Rattle.tks_codec.specs.Windows.{packings_of, lines_from, lines_of}
use Rattle.tks_codec.specs.declared.line.Line.{Line}
use Rattle.tks_codec.proofs.OfWindows.{lines_count, windows_legal}
use Rattle.tks_codec.proofs.windows.put_windows.Goals as goal

pub returns-clause-puts : goal.returns-clause-puts
returns-clause-puts c =
    let w = c.args.world.now in
    let r = c.put_each.result in
    let old = c.args.out.now.items in
    let mid = c.put_u32.new.out.items in
    let new = c.put_each.new.out.items in
    let lines = lines_of (windows_of w) in
    let kept = c.all_kept-kept.ensures in
    let count = c.len.ensures.value ∙ ap (λ (ks : List Kept). length ks) kept ∙ sym (lines_count (packings_of w.kept) w.tree.windows w.kept c.stands.ensures.windows.in_step) in
    let same =
    ap (λ (ks : List Kept). lines_from (packings_of ks) c.tree.result.now.windows ks) kept
    ∙ ap (λ (t : tree.Windows). lines_from (packings_of w.kept) t.windows w.kept) c.tree.ensures.value in
    put_behind r old (to_be_bytes w32 (length lines)) mid (members (λ before. line) None lines) new (subst (λ n. mid ≡ old ++ to_be_bytes w32 n) count c.in_ok-put_u32.ensures)
    (subst (λ (ls : List Line). PutsSo r mid new (members (λ before. line) None ls)) same c.put_each.ensures.puts)

pub returns-clause-legal : goal.returns-clause-legal
returns-clause-legal c =
    let w = c.args.world.now in
    let lines = lines_of (windows_of w) in
    let formed = c.stands.ensures.windows in
    let kept = c.all_kept-kept.ensures in
    let same =
    ap (λ (ks : List Kept). lines_from (packings_of ks) c.tree.result.now.windows ks) kept
    ∙ ap (λ (t : tree.Windows). lines_from (packings_of w.kept) t.windows w.kept) c.tree.ensures.value in
    let few : length lines < 2 ^ 32 = omega (arith, lines_count (packings_of w.kept) w.tree.windows w.kept formed.in_step, ap (λ (ks : List Kept). length ks) kept, c.len.ensures.short) in
    where_put c.put_each.result (λ h. windows_legal (windows_of w) formed (few, each_is_legal line None lines (subst (λ (ls : List Line). AllByRecursion line.Legal ls) same h))) c.put_each.ensures.legal
