use Rattle.std.proofs.Common.{◌≡◌, ◌++◌, drop}
use Rattle.tks_state.specs.Layout.{shown_of}
use Rattle.tks_state.proofs.layout.shown_among.Given as goal

-- the windows so far, and those further on, are all
abbrev pub invariant-loop-window : goal.invariant-loop-window
invariant-loop-window l = l.shown.items ++ shown_of l.placed (drop l.window-index l.windows) ≡ shown_of l.fn.placed l.fn.windows
