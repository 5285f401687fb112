use Rattle.std.proofs.Common.{◌≡◌, drop}
use Rattle.tks_timer.specs.WellFormed.{are_apart}
use Rattle.tks_codec_events.proofs.timers.are_apart.Given as goal

-- those further on decide
abbrev pub invariant-loop-timer : goal.invariant-loop-timer
invariant-loop-timer l = are_apart l.idles (drop l.timer-index l.timers) ≡ are_apart l.idles l.fn.timers
