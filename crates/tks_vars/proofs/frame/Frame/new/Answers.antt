use Rattle.std.proofs.Common.{subst, sym}
use Rattle.tks_vars.specs.Few.{AreApart}
use Rattle.tks_vars.proofs.Firsts.{none_apart}
use Rattle.tks_vars.proofs.frame.Frame.new.Goals as goal

pub of-requires : goal.of-requires
of-requires c = subst AreApart (sym c.in_ok-few.ensures) (none_apart _)
