use Rattle.std.proofs.Common.{Ok, sym, ap, subst, ◌∙◌}
use Rattle.tks_cmd.specs.Meets.{KeepsSo}
use Rattle.tks_cmd.proofs.Results.{err_is}
use Rattle.tks_cmd.proofs.Packs.{Came, never_refused}
use Rattle.tks_cmd.proofs.packing.pack_all.Goals as goal

pub returns-in_err-pack_each-clause-kept : goal.returns-in_err-pack_each-clause-kept
returns-in_err-pack_each-clause-kept c =
    let is = err_is c.from_residual-in_err-pack_each.result c.in_err-pack_each.field-0.0 c.from_residual-in_err-pack_each.ensures.1 in
    subst (λ r. KeepsSo r c.args.world.now c.pack_each.new.world) (sym is)
    (never_refused c.args.world.now c.args.paths.now c.args.options.now c.as_slice.result.now c.pack_each.new.world c.in_err-pack_each.field-0.0
    (c.in_ok-windows.ensures ∙ ap Ok (sym c.as_slice.ensures.value)) (subst Came (sym c.in_ok-check_options.ensures) tt) c.in_err-pack_each.ensures)
