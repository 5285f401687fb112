use Rattle.std.proofs.Common.{◌≡◌, ◌+◌, ◌<◌, ◌≤◌, ◌^◌, ◌++◌, ◌∷◌, [], length, ap, ◌∙◌, arith}
use Rattle.std.specs.Prelude.{map}
use Rattle.std.proofs.lemmas.Bool.Decides.{nat_tests}
use Rattle.std.proofs.lemmas.List.{length-append}
use Rattle.std.proofs.lemmas.Result.{err_from_is_err_and}
use Rattle.tks_text.proofs.Texts.{text_append}
use Rattle.tks_list.specs.Cuts.{cut}
use Rattle.tks_list.proofs.Cuts.{cuts_more, ends_more, last_span, pushed, ends_pushed}
use Rattle.tks_list.proofs.elements.Elements.push.Goals as goal

pub invariant_of-self-in_err-push : goal.invariant_of-self-in_err-push
invariant_of-self-in_err-push c =
    let bytes = c.self.inside.bytes.items in
    let element = c.args.element.now in
    let more : length bytes ≤ length (bytes ++ element) = omega (arith, length-append bytes element) in
    rw (c.in_err-push.ensures.items, c.in_ok-extend_from_slice.ensures.items)
    (text_append bytes element c.self.invariant.0 c.requires, (ends_more (length bytes) (length (bytes ++ element)) c.self.inside.spans.items more c.self.invariant.1.0, c.self.invariant.1.1))

pub returns-in_err-push-clause-err : goal.returns-in_err-push-clause-err
returns-in_err-push-clause-err c =
    let bytes = c.self.inside.bytes.items in
    let p = err_from_is_err_and c.from_residual-in_err-push.result c.from_residual-in_err-push.ensures.1 in
    let same : map (cut c.extend_from_slice.new.self.items) c.push.new.self.items ≡ map (cut bytes) c.self.inside.spans.items =
    rw (c.in_err-push.ensures.items, c.in_ok-extend_from_slice.ensures.items) (cuts_more bytes c.args.element.now c.self.inside.spans.items c.self.invariant.1.0) in
    rw p.1 (same ∙ c.self.view_is)

pub invariant_of-self-2 : goal.invariant_of-self-2
invariant_of-self-2 c =
    let bytes = c.self.inside.bytes.items in
    let element = c.args.element.now in
    let spans = c.self.inside.spans.items in
    let room : length spans + 1 < 2 ^ 32 = grind (arith, nat_tests, c.if-len-ge-MAX_LEN.false, c.len.ensures, c.self.inside.spans.ok.0) in
    let short : length (spans ++ last_span bytes element ∷ []) < 2 ^ 32 = omega (arith, room, length-append spans (last_span bytes element ∷ [])) in
    rw (c.in_ok-push.ensures.items, c.len-start.ensures, c.self.inside.bytes.ok.0, c.len-end.ensures, c.extend_from_slice.new.self.ok.0, c.in_ok-extend_from_slice.ensures.items)
    (text_append bytes element c.self.invariant.0 c.requires, (ends_pushed bytes element spans c.self.invariant.1.0, short))

pub returns-clause-ok : goal.returns-clause-ok
returns-clause-ok c =
    let bytes = c.self.inside.bytes.items in
    let element = c.args.element.now in
    let view : map (cut c.extend_from_slice.new.self.items) c.push.new.self.items ≡ map (cut bytes) c.self.inside.spans.items ++ element ∷ [] =
    rw (c.in_ok-push.ensures.items, c.len-start.ensures, c.self.inside.bytes.ok.0, c.len-end.ensures, c.extend_from_slice.new.self.ok.0, c.in_ok-extend_from_slice.ensures.items) (pushed bytes element c.self.inside.spans.items c.self.invariant.1.0) in
    view ∙ ap (λ l. l ++ element ∷ []) c.self.view_is
