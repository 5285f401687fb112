use Rattle.std.proofs.Common.{◌≡◌, [], ◌∷◌, ◌++◌, Some, sym, ap, ◌∙◌, rules}
use Rattle.std.specs.Prelude.{slice_get}
use Rattle.tks_share.proofs.InRow.{take_on}
use Rattle.tks_share.proofs.line.tree_of.Goals as goal

pub loop-index-preserved : goal.loop-index-preserved
loop-index-preserved g c =
    let row = c.args.row.now in
    let there : slice_get row c.loop-index.index ≡ Some c.in-Some.item.now = search rules in
    c.in_ok-put_behind.ensures.ok
    ∙ ap (λ l. c.loop-index.tree ++ c.in_ok-share.field-0 ∷ l) c.new.ensures
    ∙ ap (λ x. c.loop-index.tree ++ x ∷ []) c.in_ok-share.ensures
    ∙ ap (λ t. t ++ c.in-Some.item.now ∷ []) c.loop-index.invariant
    ∙ sym (take_on row c.loop-index.index c.in-Some.item.now there)
