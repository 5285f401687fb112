use Rattle.std.proofs.Common.{◌≡◌, take}
use Rattle.tks_opt.specs.Cells.{rows}
use Rattle.tks_screen.specs.Panes.{character_of}
use Rattle.tks_screen.proofs.pane.painted_rows.Given as goal

-- the windows so far are painted
abbrev pub invariant-loop-placed : goal.invariant-loop-placed
invariant-loop-placed l = l.cells.items ≡ rows (character_of l.fn.world.variables l.fn.world.kept (take l.placed-index l.placed-items)) l.fn.size.width l.fn.size.height
