use Rattle.std.proofs.Common.{ap, ◌∙◌}
use Rattle.std.proofs.lemmas.List.{take_all}
use Rattle.tks_opt.specs.Cells.{rows}
use Rattle.tks_screen.specs.Panes.{over_rows, character_of}
use Rattle.tks_screen.proofs.Painting.{one_more_window}
use Rattle.tks_screen.proofs.pane.painted_rows.Goals as goal

pub loop-placed-preserved : goal.loop-placed-preserved
loop-placed-preserved c =
    let w = c.args.world.now in
    one_more_window w.variables w.kept c.deref-placed-items.result.now c.loop-placed.placed-index c.placed-item.result c.args.size.width c.args.size.height
    c.loop-placed.cells.items c.paint.new.cells.items c.loop-placed-test.true c.placed-item.is c.loop-placed.invariant
    (c.paint.ensures ∙ ap (λ pane. over_rows pane c.loop-placed.cells.items) c.in_ok-pane.ensures)

pub returns : goal.returns
returns c =
    let w = c.args.world.now in
    let all = take_all c.loop-placed.placed-index c.deref-placed-items.result.now c.loop-placed-test.false ∙ c.deref-placed-items.ensures.value ∙ c.in_ok-shown.ensures.value in
    c.loop-placed.invariant ∙ ap (λ ps. rows (character_of w.variables w.kept ps) c.args.size.width c.args.size.height) all
