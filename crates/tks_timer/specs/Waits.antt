-- What is told of a script that waits.
use Rattle.tks_timer.specs.After.{Kept, OfTimer, OfIdle}
use Rattle.tks_timer.specs.declared.timers.Waiting.{Waiting}
use Rattle.tks_timer.specs.declared.timers.Waiting.TheVariants as waiting

abbrev pub waiting_seen : Waiting → Kept
waiting_seen (waiting.Timer script) = OfTimer script.now
waiting_seen (waiting.Idle script) = OfIdle script.now
