use Rattle.std.proofs.Common.{◌+◌, ◌-◌, [], ◌∷◌, take, ap, sym, ◌∙◌, arith}
use Rattle.tks_text.specs.Run.{takes}
use Rattle.tks_parse.specs.Tree.{join_words}
use Rattle.tks_parse.specs.View.{ready_words}
use Rattle.tks_parse.proofs.Readied.{ready_behind, blank_behind, word_there, blank_steps, end_stops, nothing_stops, word_steps}
use Rattle.tks_parse.proofs.ready.ready_word.Goals as goal

pub returns-then-is_blank-clause-gives : goal.returns-then-is_blank-clause-gives
returns-then-is_blank-clause-gives c = λ nest index. blank_steps c.args.place nest index c.args.text.now c.in-len1-up.len_at_least (sym c.is_blank.ensures ∙ c.if-is_blank.true)

pub returns-then-is_blank-clause-behind : goal.returns-then-is_blank-clause-behind
returns-then-is_blank-clause-behind c = blank_behind c.args.place c.args.text.now c.requires.ready c.in-len1-up.len_at_least (sym c.is_blank.ensures ∙ c.if-is_blank.true)

pub returns-then-ends_word-clause-gives : goal.returns-then-ends_word-clause-gives
returns-then-ends_word-clause-gives c = λ nest index. end_stops c.args.place nest index c.args.text.now (sym c.is_blank.ensures ∙ c.if-is_blank.false) (sym c.ends_word.ensures ∙ c.if-ends_word.true)

pub returns-in-empty-clause-gives : goal.returns-in-empty-clause-gives
returns-in-empty-clause-gives c = λ nest index. nothing_stops c.args.place nest index c.args.text.now c.in-empty.len_below

pub returns-else-ends_word-clause-gives : goal.returns-else-ends_word-clause-gives
returns-else-ends_word-clause-gives c = λ nest index.
    let t = c.args.text.now in
    let front = c.split_at.ensures.front ∙ ap (λ n. take n t) c.word_len-len.ensures.value in
    let less = c.saturating_sub.ensures ∙ ap (λ n. n - 1) c.word_len-len.ensures.value in
    word_steps c.args.place nest index t c.requires.ready c.in-len1-up.len_at_least (sym c.is_blank.ensures ∙ c.if-is_blank.false) (sym c.ends_word.ensures ∙ c.if-ends_word.false)
    ∙ (λ i. takes (join_words (ready_words (sym front i ∷ []))) (sym less i))

pub returns-else-ends_word-clause-behind : goal.returns-else-ends_word-clause-behind
returns-else-ends_word-clause-behind c =
    let t = c.args.text.now in
    let there = word_there c.args.place t c.in-len1-up.len_at_least (sym c.ends_word.ensures ∙ c.if-ends_word.false) in
    ready_behind c.args.place t (1 + c.saturating_sub.result) c.requires.ready (omega (arith, there, c.saturating_sub.ensures, c.word_len-len.ensures.value))
