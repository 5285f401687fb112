use Rattle.std.proofs.Common.{◌≡◌, drop}
use Rattle.tks_timer.specs.WellFormed.{rise_below}
use Rattle.tks_codec_events.proofs.timers.rise_below.Given as goal

-- those further on decide
abbrev pub invariant-loop-item : goal.invariant-loop-item
invariant-loop-item g l = rise_below g.T.Numbered.number_of l.least l.next (drop l.item-index l.items) ≡ rise_below g.T.Numbered.number_of 0 l.next l.fn.items
