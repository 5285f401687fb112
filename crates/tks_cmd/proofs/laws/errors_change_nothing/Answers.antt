use Rattle.std.proofs.Common.{refl, subst}
use Rattle.tks_cmd.proofs.Errors.{Unchanged, kept}
use Rattle.tks_cmd.proofs.laws.errors_change_nothing.Goals as goal

pub returns : goal.returns
returns c = λ limits w w' variables variables' words text e. subst (Unchanged w variables) e (kept limits w variables words) refl
