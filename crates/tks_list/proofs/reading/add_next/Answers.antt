use Rattle.std.proofs.Common.{◌+◌, ◌<◌, length, drop, refl, sym, ap, ◌∙◌}
use Rattle.std.proofs.lemmas.Result.{err_from_is_err_and}
use Rattle.tks_list.specs.Gives.{element_found, behind_list}
use Rattle.tks_list.proofs.Loops.{list_go, list_stop, list_err}
use Rattle.tks_list.specs.Reading.{list_of}
use Rattle.tks_list.specs.Cuts.{CutSoFar}
use Rattle.tks_list.proofs.reading.add_next.Goals as goal

pub returns-in_err-element-clause-gives : goal.returns-in_err-element-clause-gives
returns-in_err-element-clause-gives c =
    let p = err_from_is_err_and c.from_residual.result c.from_residual.ensures.1 in
    rw (p.1, p.2, sym c.split_at.ensures.back) (list_err c.args.list.now.list c.split_at.result.1.now _ c.in_err-element.field-0.0 refl c.in_err-element.ensures.gives)

pub returns-in_ok-add_found-in-Some-clause-gives : goal.returns-in_ok-add_found-in-Some-clause-gives
returns-in_ok-add_found-in-Some-clause-gives c =
    let rest = c.split_at.result.1.now in
    let read = rw c.in-Some.is at c.in_ok-element.ensures.gives in
    let lt : c.in-Some.more < length rest = rw c.in-Some.is at c.in_ok-element.ensures.bound in
    let added = rw (sym c.split_at.ensures.back) at c.in_ok-add_found-in-Some.ensures in
    rw (sym c.split_at.ensures.back) (
    ap (λ (s : CutSoFar). behind_list s.list (list_of (drop (1 + c.in-Some.more) rest))) added
    ∙ list_go c.args.list.now.list (element_found c.read_element.new.made rest c.in-Some.element) c.in-Some.more rest _ refl read lt)

pub returns-in-None-clause-gives : goal.returns-in-None-clause-gives
returns-in-None-clause-gives c =
    let read = rw c.in-None.is at c.in_ok-element.ensures.gives in
    rw (sym c.split_at.ensures.back) (list_stop c.args.list.now.list c.split_at.result.1.now _ refl read)
