use Rattle.std.proofs.Common.{◌==◌, position, sym, ap, ◌∙◌}
use Rattle.std.specs.Prelude.{map}
use Rattle.std.proofs.lemmas.List.Quantifiers.{position-Some}
use Rattle.tks_state.specs.WellFormed.{mark_of}
use Rattle.tks_state.specs.declared.kept.Kept.{Kept}
use Rattle.tks_state.proofs.Places.{is, put_there, none_replaced, nowhere, same_marks}
use Rattle.tks_state.proofs.windows.replace.Goals as goal

pub set-requires : goal.set-requires
set-requires c = (position-Some (is c.args.window) c.args.kept.now c.in-Some.place c.args.one (sym (c.in-Some.ensures ∙ ap (λ n. position (λ (k : Kept). k.window == n) c.args.kept.now) c.number.ensures))).0

pub returns-in_default-clause-value : goal.returns-in_default-clause-value
returns-in_default-clause-value c = sym (none_replaced c.args.window c.args.one c.args.kept.now (nowhere c.args.window c.args.kept.now (c.in_default.ensures ∙ ap (λ n. position (λ (k : Kept). k.window == n) c.args.kept.now) c.number.ensures)))

pub returns-clause-value : goal.returns-clause-value
returns-clause-value c = c.in_ok-set.ensures.ok ∙ put_there c.args.window c.args.one c.args.kept.now c.in-Some.place (c.in-Some.ensures ∙ ap (λ n. position (λ (k : Kept). k.window == n) c.args.kept.now) c.number.ensures)

pub returns-clause-marks : goal.returns-clause-marks
returns-clause-marks c =
    ap (map mark_of) (c.in_ok-set.ensures.ok ∙ put_there c.args.window c.args.one c.args.kept.now c.in-Some.place (c.in-Some.ensures ∙ ap (λ n. position (λ (k : Kept). k.window == n) c.args.kept.now) c.number.ensures))
    ∙ same_marks c.args.window c.args.one c.args.kept.now c.requires.mark
