use Rattle.std.proofs.Common.{◌≡◌, ◌==◌, ◌<◌, suc, false, ◌∷◌, length, drop, get_or, option_copied, rules, sym, ap, ◌∙◌}
use Rattle.std.proofs.Math.Seq.{drop-cons}
use Rattle.tks_parse.specs.View.{parts_of}
use Rattle.tks_parse.specs.declared.tree.Part.TheVariants.{Text}
use Rattle.tks_expr.proofs.Compiled.{leaf_behind, text_behind}
use Rattle.tks_expr.proofs.items.scalar_in.Goals as goal

pub returns-then-not-is_empty : goal.returns-then-not-is_empty
returns-then-not-is_empty c =
    let parts = c.args.parts.now in
    let i = c.part.part-index in
    let text = c.in-Text.text in
    let scalar = option_copied c.part.scalar in
    let within : i < length parts = search rules in
    let part : get_or parts i (Text text) ≡ Text text = search rules in
    let here = drop-cons parts i (Text text) within ∙ ap (λ p. p ∷ drop (suc i) parts) part in
    let some : (length text == 0) ≡ false = search rules in
    sym (c.part.invariant ∙ ap (λ ps. leaf_behind scalar (parts_of ps)) here ∙ text_behind scalar text (parts_of (drop (suc i) parts)) some)
