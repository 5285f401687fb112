use Rattle.std.proofs.Common.{ℕ, List, ap, ◌∙◌}
use Rattle.tks_opt.specs.Cells.{rows}
use Rattle.tks_opt.specs.declared.anchor.Anchor.{Anchor}
use Rattle.tks_button.specs.Block.{lines, block_cell}
use Rattle.tks_button.specs.Checkbutton.{marked}
use Rattle.tks_button.proofs.checkbutton.shown.Goals as goal

pub returns : goal.returns
returns c =
    let drawn : List (List ℕ) → Anchor → List (List ℕ) = λ ls anchor. rows (block_cell ls anchor c.args.width c.args.height) c.args.width c.args.height in
    c.in_ok-cells.ensures
    ∙ ap (λ block. drawn (lines block) c.anchor_of-anchor.result) c.as_slice.ensures.value
    ∙ ap (λ ls. drawn ls c.anchor_of-anchor.result) c.in_ok-block.ensures
    ∙ (λ i. drawn (marked c.args.on (lines (c.text_of.ensures i))) (c.anchor_of-anchor.ensures i))
