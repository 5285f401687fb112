use Rattle.std.proofs.Common.{◌≡◌, IfOk, subst, arith}
use Rattle.tks_text.proofs.Texts.{text_drop}
use Rattle.tks_parse.specs.Gives.{text_of_verbatim}
use Rattle.tks_parse.proofs.Loops.{verbatim_goes, verbatim_stops}
use Rattle.tks_parse.proofs.braces.braced_value.Goals as goal

pub verbatim-preserved : goal.verbatim-preserved
verbatim-preserved c =
    record {
      so_far = rw (c.in_ok-add_to.ensures, c.split_at.ensures.back) (verbatim_goes c.verbatim.value (text_of_verbatim c.in-Some.next) c.in-Some.more c.verbatim.rest.now _ c.verbatim.invariant.so_far c.in-Some.ensures.gives c.in-Some.ensures.bound);
      len = omega arith;
      is_text = rw c.split_at.ensures.back (text_drop _ _ c.verbatim.invariant.is_text);
    }

pub returns : goal.returns
returns c =
    let whole = verbatim_stops c.verbatim.value c.verbatim.rest.now _ c.verbatim.invariant.so_far c.in_default.ensures.gives in
    subst (λ value. IfOk c.into_text.result (λ t. t ≡ value)) whole c.into_text.ensures
