use Rattle.std.proofs.Common.{refl, subst}
use Rattle.std.proofs.lemmas.Result.{err_from_is_err_and}
use Rattle.tks_tcl.specs.Making.{list_with}
use Rattle.tks_tcl.specs.Meets.{FailsSo}
use Rattle.tks_tcl.proofs.Added.{list_unmade}
use Rattle.tks_tcl.proofs.growing.join_elements.Goals as goal

pub returns-in_err-list : goal.returns-in_err-list
returns-in_err-list c =
    let p = err_from_is_err_and c.from_residual.result c.from_residual.ensures.1 in
    let limits = c.args.limits.now in
    let elements = c.args.elements.now in
    let why = c.in_err-list.field-0.0 in
    let fails = subst (λ value. FailsSo why (list_with limits value elements)) c.as_text.ensures c.in_err-list.ensures in
    rw (p.1, p.2) (list_unmade limits elements c.args.value.now why fails, refl)
