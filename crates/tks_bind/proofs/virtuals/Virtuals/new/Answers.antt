use Rattle.std.proofs.Common.{refl}
use Rattle.tks_bind.proofs.Leading.{none_led}
use Rattle.tks_bind.proofs.virtuals.Virtuals.new.Goals as goal

pub invariant_of-result : goal.invariant_of-result
invariant_of-result c = rw (c.new.ensures, c.new-2.ensures) (record { events = record { names = refl; legal = tt }; groups = none_led; names = c.new-3.ensures })
