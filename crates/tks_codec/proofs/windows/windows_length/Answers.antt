use Rattle.std.proofs.Common.{◌≡◌, None, [], List, length, sym, ap, ◌∙◌, arith}
use Rattle.std.proofs.lemmas.List.{length-map}
use Rattle.tks_tree.specs.Windows as tree
use Rattle.tks_spelling.specs.Spelling.{members}
use Rattle.tks_spelling.specs.Lengths.{counted}
use Rattle.tks_state.specs.WellFormed.{mark_of, window_mark}
use Rattle.tks_state.specs.declared.kept.Kept.{Kept}
use Rattle.tks_state.proofs.Children.{kept_rises}
use Rattle.tks_codec.specs.Line.{line}
use Rattle.tks_codec.specs.Windows.{packings_of, lines_from, packed_count}
use Rattle.tks_codec.proofs.Packed.{all_packed, lines_size}
use Rattle.tks_codec.proofs.windows.windows_length.Goals as goal

pub returns : goal.returns
returns c =
    let w = c.args.world.now in
    let formed = c.stands.ensures.windows in
    let kept = c.all_kept-kept.ensures in
    let count : length w.tree.windows ≡ length w.kept = sym (length-map w.tree.windows window_mark) ∙ sym (ap (λ ms. length ms) formed.in_step) ∙ length-map w.kept mark_of in
    let same =
    ap (λ (ks : List Kept). lines_from [] c.tree.result.now.windows ks) kept
    ∙ ap (λ (t : tree.Windows). lines_from [] t.windows w.kept) c.tree.ensures.value in
    let each : c.each_length.result ≡ counted (length (members (λ before. line) None (lines_from [] w.tree.windows w.kept))) =
    c.each_length.ensures ∙ ap (λ ls. counted (length (members (λ before. line) None ls))) same in
    let packed : c.packed_count.result ≡ counted (packed_count w.kept) = c.packed_count.ensures ∙ ap (λ (ks : List Kept). counted (packed_count ks)) kept in
    omega (
      arith,
      each,
      packed,
      lines_size (packings_of w.kept) None None w.tree.windows w.kept count,
      all_packed w.tree 0 w.kept (kept_rises w.tree w.kept formed) formed.packs formed.windows.numbered,
      c.saturating_mul.ensures,
      c.saturating_add.ensures,
      c.saturating_add-2.ensures,
    )
