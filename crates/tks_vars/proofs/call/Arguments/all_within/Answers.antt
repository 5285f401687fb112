use Rattle.std.proofs.Common.{nat_le, length, sym, ap, ◌∙◌}
use Rattle.std.specs.List.{list_all}
use Rattle.std.proofs.lemmas.List.Folds.{list_all-map}
use Rattle.tks_vars.specs.Few.{argument_of}
use Rattle.tks_vars.specs.declared.procedure.Argument.{Argument}
use Rattle.tks_vars.proofs.call.Arguments.all_within.Goals as goal

pub returns : goal.returns
returns c =
    let short = λ (x : Argument). nat_le (length x.value) c.args.most in
    c.are_within.ensures ∙ ap (list_all _) c.as_slice.ensures ∙ sym (list_all-map short argument_of c.self.inside.entries) ∙ ap (list_all short) c.self.view_is
