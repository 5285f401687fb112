use Rattle.std.proofs.Common.{◌+◌, ◌<◌, ◌≤◌, ◌^◌, ◌++◌, ◌∷◌, [], length, take, List, ℕ, ap, ◌∙◌, arith}
use Rattle.std.specs.Prelude.{map}
use Rattle.std.proofs.lemmas.Bool.Decides.{nat_tests}
use Rattle.std.proofs.lemmas.List.{length-append, take-append-le}
use Rattle.tks_text.proofs.Texts.{text_append}
use Rattle.tks_list.specs.Cuts.{cut, CutSoFar}
use Rattle.tks_list.proofs.Cuts.{ends_more, last_span, pushed, ends_pushed}
use Rattle.tks_list.proofs.cutting.CutText.add_chars.Goals as goal

pub invariant_of-self-in_err-push : goal.invariant_of-self-in_err-push
invariant_of-self-in_err-push c =
    let bytes = c.self.inside.bytes.items in
    let chars = c.args.chars.now in
    let more : length bytes ≤ length (bytes ++ chars) = omega (arith, length-append bytes chars) in
    rw (c.in_err-push.ensures.items, c.in_ok-extend_from_slice.ensures.items)
    (text_append bytes chars c.self.invariant.0 c.requires, (omega (arith, more, c.self.invariant.1.0), (ends_more (length bytes) (length (bytes ++ chars)) c.self.inside.spans.items more c.self.invariant.1.1.0, c.self.invariant.1.1.1)))

pub invariant_of-self-2 : goal.invariant_of-self-2
invariant_of-self-2 c =
    let bytes = c.self.inside.bytes.items in
    let chars = c.args.chars.now in
    let spans = c.self.inside.spans.items in
    let more : length bytes ≤ length (bytes ++ chars) = omega (arith, length-append bytes chars) in
    let room : length spans + 1 < 2 ^ 32 = grind (arith, nat_tests, c.if-len-ge-MAX_LEN.false, c.len.ensures, c.self.inside.spans.ok.0) in
    let short : length (spans ++ last_span bytes chars ∷ []) < 2 ^ 32 = omega (arith, room, length-append spans (last_span bytes chars ∷ [])) in
    rw (c.in_ok-push.ensures.items, c.len-start.ensures, c.self.inside.bytes.ok.0, c.len-end.ensures, c.extend_from_slice.new.self.ok.0, c.in_ok-extend_from_slice.ensures.items)
    (text_append bytes chars c.self.invariant.0 c.requires, (omega (arith, more, c.self.invariant.1.0), (ends_pushed bytes chars spans c.self.invariant.1.1.0, short)))

pub returns : goal.returns
returns c =
    let bytes = c.self.inside.bytes.items in
    let chars = c.args.chars.now in
    let len = c.self.inside.len in
    rw (c.in_ok-push.ensures.items, c.len-start.ensures, c.self.inside.bytes.ok.0, c.len-end.ensures, c.extend_from_slice.new.self.ok.0, c.in_ok-extend_from_slice.ensures.items)
    (ap (λ (t : List ℕ). record { text = t; list = map (cut (bytes ++ chars)) (c.self.inside.spans.items ++ last_span bytes chars ∷ []) }) (take-append-le len bytes chars c.self.invariant.1.0)
    ∙ ap (λ (l : List (List ℕ)). record { text = take len bytes; list = l }) (pushed bytes chars c.self.inside.spans.items c.self.invariant.1.1.0)
    ∙ ap (λ (s : CutSoFar). record { text = s.text; list = s.list ++ chars ∷ [] }) c.self.view_is)
