use Rattle.std.proofs.Common.{◌≡◌, true, [], ◌∷◌, rules, sym, ap, ◌∙◌}
use Rattle.tks_parse.specs.Tree.{no_part, chars}
use Rattle.tks_parse.specs.View.{parts_of}
use Rattle.tks_text.specs.Limits.{fits}
use Rattle.tks_eval.specs.Filling.{filled}
use Rattle.tks_eval.proofs.Lent.{filled_one}
use Rattle.tks_eval.proofs.Runs.{one_of}
use Rattle.tks_eval.proofs.words.lent.Goals as goal

pub returns-in-Text : goal.returns-in-Text
returns-in-Text c =
    let limits = c.args.limits.now in
    let variables = c.args.variables.now in
    let text = c.in-Text.text in
    let one = one_of c.as_slice.result.now c.part-item.result c.in-len1.len_at_least c.in-len1.len_below c.part-item.is in
    let parts : c.args.word.now.parts ≡ chars text no_part
    = sym c.as_slice.ensures ∙ ap parts_of one ∙ ap (λ p. parts_of (p ∷ [])) c.in-Text.is in
    let fit : fits limits text ≡ true = search rules in
    (search rules, ap (λ ps. filled limits variables ps []) parts ∙ filled_one limits variables text fit)
