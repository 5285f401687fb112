use Rattle.std.proofs.Common.{Some, subst}
use Rattle.tks_vars.specs.declared.content.Content.{Content}
use Rattle.tks_vars.specs.Changing.{LeadsSo, GivenSo}
use Rattle.tks_vars.specs.Variables.{updated}
use Rattle.tks_vars.specs.View.{name_seen}
use Rattle.tks_vars.proofs.Standing.{all_kept}
use Rattle.tks_vars.proofs.vars.Vars.set_list.Goals as goal

pub returns-in-Changed-clause-err : goal.returns-in-Changed-clause-err
returns-in-Changed-clause-err c =
    let v = c.args.self.now in
    let w = c.change_under.new.self in
    let text = c.args.name.now in
    let name = name_seen c.in-Some.part in
    let given = λ (before : Content). updated (Some before) name.index c.args.value in
    all_kept text given name.variable v w c.in-Changed.given
    (subst (LeadsSo (λ before. GivenSo text (given before) before) name.variable v w) c.in-Changed.is c.in_ok-given.ensures.reached)
