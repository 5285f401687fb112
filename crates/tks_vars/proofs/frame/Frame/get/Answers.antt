use Rattle.std.proofs.Common.{Some, sym, ap, ◌∙◌}
use Rattle.std.specs.FinMap as fin
use Rattle.tks_vars.proofs.Firsts.{found_at, lacks, found_behind}
use Rattle.tks_vars.proofs.frame.Frame.get.Goals as goal

pub returns-in-Some : goal.returns-in-Some
returns-in-Some c =
    let name = c.args.name.now in
    let rest = c.self.inside.rest in
    let first = c.self.inside.first in
    ap (λ e. Some e.1) c.at.ensures
    ∙ sym (found_at name rest first c.in-Some.place c.at.result.now (sym c.place.ensures.value ∙ c.in-Some.is))
    ∙ ap (λ m. fin.get m name) c.self.view_is

pub returns-in-None : goal.returns-in-None
returns-in-None c =
    let name = c.args.name.now in
    let rest = c.self.inside.rest in
    let first = c.self.inside.first in
    c.get.ensures ∙ sym (found_behind name rest first (lacks name first (sym c.place.ensures.value ∙ c.in-None.is)))
    ∙ ap (λ m. fin.get m name) c.self.view_is
