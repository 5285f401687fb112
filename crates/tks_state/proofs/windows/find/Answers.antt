use Rattle.std.proofs.Common.{◌==◌, position, ap, sym, ◌∙◌}
use Rattle.tks_state.specs.declared.kept.Kept.{Kept}
use Rattle.tks_state.proofs.Places.{got, nowhere}
use Rattle.tks_state.proofs.windows.find.Goals as goal

pub returns-in-Some : goal.returns-in-Some
returns-in-Some c =
    c.get.ensures
    ∙ got c.args.window c.args.kept.now c.in-Some.place (c.in-Some.ensures ∙ ap (λ n. position (λ (k : Kept). k.window == n) c.args.kept.now) c.number.ensures)

pub returns-in-None : goal.returns-in-None
returns-in-None c =
    sym (nowhere c.args.window c.args.kept.now (c.in-None.ensures ∙ ap (λ n. position (λ (k : Kept). k.window == n) c.args.kept.now) c.number.ensures))
