use Rattle.std.proofs.Common.{refl, arith}
use Rattle.tks_bind.proofs.Grouped.{none_grouped}
use Rattle.tks_bind.proofs.bindings.Bindings.new.Goals as goal

pub invariant_of-result : goal.invariant_of-result
invariant_of-result c = rw (c.new.ensures, c.new-2.ensures) (record { bindings = record { next = omega arith; bindings = refl }; tags = none_grouped; places = c.new-3.ensures })
