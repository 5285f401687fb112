use Rattle.std.proofs.Common.{◌<◌, length, arith}
use Rattle.std.proofs.lemmas.Result.{err_from_is_err_and}
use Rattle.tks_text.proofs.Texts.{text_drop}
use Rattle.tks_list.specs.Gives.{element_found}
use Rattle.tks_list.proofs.Loops.{list_go, list_stop, list_err}
use Rattle.tks_list.proofs.reading.split_list.Goals as goal

pub elements-preserved : goal.elements-preserved
elements-preserved c =
    let read = rw c.in-Some.is at c.in_ok-element.ensures.gives in
    let lt : c.in-Some.more < length c.elements.rest.now = rw c.in-Some.is at c.in_ok-element.ensures.bound in
    record {
      so_far = rw (c.in_ok-add_text.ensures, c.split_at.ensures.back) (list_go c.elements.list (element_found c.read_element.new.made c.elements.rest.now c.in-Some.element) c.in-Some.more c.elements.rest.now _ c.elements.invariant.so_far read lt);
      len = omega arith;
      is_text = rw c.split_at.ensures.back (text_drop _ _ c.elements.invariant.is_text);
    }

pub returns : goal.returns
returns c =
    let read = rw c.in_default.is at c.in_ok-element.ensures.gives in
    list_stop c.elements.list c.elements.rest.now _ c.elements.invariant.so_far read

pub returns-in_err-element : goal.returns-in_err-element
returns-in_err-element c =
    let p = err_from_is_err_and c.from_residual.result c.from_residual.ensures.1 in
    rw (p.1, p.2) (list_err c.elements.list c.elements.rest.now _ c.in_err-element.field-0.0 c.elements.invariant.so_far c.in_err-element.ensures.gives)
