use Rattle.std.proofs.Common.{Some}
use Rattle.tks_share.specs.Maps.{IsChangedIn}
use Rattle.tks_vars.specs.declared.content.Content.{Content}
use Rattle.tks_vars.specs.Changing.{GivenSo}
use Rattle.tks_vars.specs.Meets.{index_seen}
use Rattle.tks_vars.specs.Variables.{updated}
use Rattle.tks_vars.proofs.Standing.{told, global_kept}
use Rattle.tks_vars.proofs.writing.write_global.Goals as goal

pub returns-in-Some-clause-err : goal.returns-in-Some-clause-err
returns-in-Some-clause-err c =
    let given = λ (before : Content). updated (Some before) (index_seen c.args.part.index) c.args.value in
    let new = c.change.new.self in
    global_kept c.args.name.now given c.args.part.variable.now c.args.globals.now new c.in-Some.answer
    (told (λ answer. IsChangedIn (λ before. GivenSo c.args.name.now (given before) before) c.args.part.variable.now c.args.globals.now new answer) c.in_ok-answer.field-0 c.in-Some.answer c.in-Some.is c.in_ok-answer.ensures.some)
