use Rattle.std.proofs.Common.{sym, subst, ap, ◌∙◌}
use Rattle.tks_vars.specs.Names.{named}
use Rattle.tks_vars.specs.Changing.{LeadsSo, ChangesInside}
use Rattle.tks_vars.specs.View.{name_seen}
use Rattle.tks_vars.proofs.Standing.{under}
use Rattle.tks_vars.proofs.vars.Vars.change.Goals as goal

pub returns-in-Changed : goal.returns-in-Changed
returns-in-Changed g c =
    let gives = g.C.Change.gives c.args.change in
    let v = c.args.self.now in
    let w = c.change_under.new.self in
    let text = c.args.name.now in
    let name = name_seen c.in-Some.part in
    let is = ap named (sym c.as_bytes.ensures.value) ∙ sym c.in-Some.ensures in
    under v text name is gives w c.in-Changed.answer
    (subst (LeadsSo (ChangesInside gives text name.index) name.variable v w) c.in-Changed.is c.in_ok-answer.ensures.reached)
