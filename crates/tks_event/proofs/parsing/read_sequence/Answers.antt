use Rattle.std.proofs.Common.{sym, ap, ◌∙◌, Ok}
use Rattle.std.specs.Option.{option_map}
use Rattle.tks_text.specs.Fault.{fault_about}
use Rattle.tks_text.specs.declared.fault.ErrorNumber.TheVariants as number
use Rattle.tks_event.specs.Reading.{is_blank_text, sequence_of}
use Rattle.tks_event.specs.View.{kept}
use Rattle.tks_event.proofs.Answering.{found_name, virtual_at_behind, events_at, finished, long_answer, empty_answer, full_answer, tells, answer_legal}
use Rattle.tks_event.proofs.parsing.read_sequence.Goals as goal

pub virtual_sequence-requires : goal.virtual_sequence-requires
virtual_sequence-requires c = found_name c.behind_spaces.result.now c.in-Some.name.now is_blank_text (sym c.in-Some.ensures)

pub returns-in-Some : goal.returns-in-Some
returns-in-Some c =
    virtual_at_behind c.args.text.now c.as_bytes-bytes.result.now c.behind_spaces.result.now c.in-Some.name.now c.as_bytes-bytes.ensures.value c.behind_spaces.ensures (sym c.in-Some.ensures)
    ∙ ap (λ s. Ok s) (sym c.in_ok-sequence.ensures)

pub returns-in_default-2 : goal.returns-in_default-2
returns-in_default-2 c =
    tells (λ s. s) (fault_about number.BadSequence c.args.text.now) c.about.result (sequence_of c.args.text.now) c.about.ensures
    (events_at c.args.text.now c.as_bytes-bytes.result.now c.behind_spaces.result.now (option_map kept c.in_ok-found.field-0) c.as_bytes-bytes.ensures.value c.behind_spaces.ensures (sym c.in_default.ensures) c.in_ok-found.ensures
    ∙ ap (λ o. finished c.args.text.now (option_map kept o)) c.in_default-2.is)

pub returns-then-found : goal.returns-then-found
returns-then-found c =
    tells (λ s. s) (fault_about number.TooManyEvents c.args.text.now) c.about-then-found.result (sequence_of c.args.text.now) c.about-then-found.ensures
    (events_at c.args.text.now c.as_bytes-bytes.result.now c.behind_spaces.result.now (option_map kept c.in_ok-found.field-0) c.as_bytes-bytes.ensures.value c.behind_spaces.ensures (sym c.in_default.ensures) c.in_ok-found.ensures
    ∙ ap (λ o. finished c.args.text.now (option_map kept o)) c.in-Some-2.is
    ∙ long_answer c.args.text.now (kept c.in-Some-2.found) c.if-found.true)

pub returns-then-is_empty : goal.returns-then-is_empty
returns-then-is_empty c =
    tells (λ s. s) (fault_about number.BadSequence c.args.text.now) c.about-then-is_empty.result (sequence_of c.args.text.now) c.about-then-is_empty.ensures
    (events_at c.args.text.now c.as_bytes-bytes.result.now c.behind_spaces.result.now (option_map kept c.in_ok-found.field-0) c.as_bytes-bytes.ensures.value c.behind_spaces.ensures (sym c.in_default.ensures) c.in_ok-found.ensures
    ∙ ap (λ o. finished c.args.text.now (option_map kept o)) c.in-Some-2.is
    ∙ empty_answer c.args.text.now (kept c.in-Some-2.found) c.if-found.false (sym c.is_empty.ensures ∙ c.if-is_empty.true))

pub returns : goal.returns
returns c =
    events_at c.args.text.now c.as_bytes-bytes.result.now c.behind_spaces.result.now (option_map kept c.in_ok-found.field-0) c.as_bytes-bytes.ensures.value c.behind_spaces.ensures (sym c.in_default.ensures) c.in_ok-found.ensures
    ∙ ap (λ o. finished c.args.text.now (option_map kept o)) c.in-Some-2.is
    ∙ full_answer c.args.text.now (kept c.in-Some-2.found) c.if-found.false (sym c.is_empty.ensures ∙ c.if-is_empty.false)

pub invariant_of-result : goal.invariant_of-result
invariant_of-result c = answer_legal c.args.text.now c.in-Some-2.found.patterns.items (returns c)
