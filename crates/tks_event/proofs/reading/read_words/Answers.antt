use Rattle.std.proofs.Common.{◌∙◌, sym, ap, arith}
use Rattle.tks_event.specs.Reading.{words_at, in_words}
use Rattle.tks_event.specs.View.{led}
use Rattle.tks_event.proofs.Leads.{led_start, led_longer, led_last, led_typed}
use Rattle.tks_event.proofs.reading.read_words.Goals as goal

pub words-init : goal.words-init
words-init c = record {
  so_far = ap (λ l. led l (in_words (words_at c.args.text.now))) c.none-lead.ensures ∙ led_start (in_words (words_at c.args.text.now));
  len = omega arith;
  is_text = c.requires;
}

pub returns-then-is_last-clause-value : goal.returns-then-is_last-clause-value
returns-then-is_last-clause-value c =
    let h = rw c.if-is_last.true at c.in-Some.ensures.words in
    c.ended_by.ensures.value
    ∙ led_last c.words.lead c.in-Some.field-0.text.now c.in-Some.field-0.rest.now
    ∙ ap (λ x. led c.words.lead (in_words x)) (sym h)
    ∙ c.words.invariant.so_far

pub returns-in_default-with_word-clause-value : goal.returns-in_default-with_word-clause-value
returns-in_default-with_word-clause-value c =
    let h = rw c.if-is_last.false at c.in-Some.ensures.words in
    c.typed.ensures.value
    ∙ led_typed c.words.lead c.in-Some.field-0.text.now (words_at c.in-Some.field-0.rest.now) (sym c.with_word.ensures ∙ c.in_default-with_word.is)
    ∙ ap (λ x. led c.words.lead (in_words x)) (sym h)
    ∙ c.words.invariant.so_far

pub words-preserved : goal.words-preserved
words-preserved c =
    let h = rw c.if-is_last.false at c.in-Some.ensures.words in
    record {
      so_far = sym (led_longer c.words.lead c.in-Some-with_word.longer c.in-Some.field-0.text.now (words_at c.in-Some.field-0.rest.now) (sym c.with_word.ensures ∙ c.in-Some-with_word.is))
          ∙ ap (λ x. led c.words.lead (in_words x)) (sym h)
          ∙ c.words.invariant.so_far;
      len = omega (arith, c.in-Some.ensures.shorter);
      is_text = c.in-Some.ensures.text.1;
    }
