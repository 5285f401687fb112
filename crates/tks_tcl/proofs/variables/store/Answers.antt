use Rattle.std.proofs.lemmas.Result.{err_from_is_err_and}
use Rattle.tks_tcl.specs.Variables.{stores}
use Rattle.tks_tcl.proofs.Leaving.{whole_fails}
use Rattle.tks_tcl.proofs.variables.store.Goals as goal

pub returns-in_err-store_quietly-clause-value : goal.returns-in_err-store_quietly-clause-value
returns-in_err-store_quietly-clause-value c =
    let p = err_from_is_err_and c.from_residual.result c.from_residual.ensures.1 in
    rw (p.1, p.2) (whole_fails (stores c.args.limits.now c.args.name.now c.args.variables.now c.args.value) c.in_err-store_quietly.field-0.0 c.in_err-store_quietly.ensures.value)
