use Rattle.std.proofs.Common.{rules, ◌≡◌, false, [], ◌∷◌, ◌++◌, length, sym, ap, ◌∙◌}
use Rattle.tks_parse.specs.Tree.{chars, no_part, word, join_words}
use Rattle.tks_parse.specs.View.{words_of, ready_words}
use Rattle.tks_parse.proofs.Joins.{ready_push, words_end}
use Rattle.tks_parse.proofs.tree.ready.Goals as goal

pub word-preserved : goal.word-preserved
word-preserved c =
    let w = c.in-Some.word.now in
    let behind = c.in-Some.behind.now in
    let text = c.in-Some-literal.text.now in
    let here : c.word.rest.now ≡ w ∷ behind = search rules in
    let grown : c.push.new.self.items ≡ c.word.texts.items ++ text ∷ [] = search rules in
    let is_plain : w.expand ≡ false = c.in-Some-literal.ensures.literal.0 in
    let is_text : w.parts ≡ chars text no_part = c.in-Some-literal.ensures.literal.1 in
    let same : word false (chars text no_part) (words_of behind) ≡ words_of (w ∷ behind) = rw (is_plain, is_text) search rules in
    ap (λ ts. join_words (ready_words ts) (words_of behind)) grown
    ∙ ready_push c.word.texts.items text (words_of behind)
    ∙ ap (join_words (ready_words c.word.texts.items)) (same ∙ ap words_of (sym here))
    ∙ c.word.invariant

pub returns : goal.returns
returns c =
    let none : length c.word.rest.now ≡ 0 = search rules in
    sym (words_end (ready_words c.word.texts.items) c.word.rest.now none) ∙ c.word.invariant
