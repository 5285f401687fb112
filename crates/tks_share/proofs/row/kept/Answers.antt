use Rattle.std.proofs.Common.{◌≡◌, ◌+◌, [], ◌∷◌, ◌++◌, length, Some, sym, ap, ◌∙◌, rules, arith, length-append}
use Rattle.std.specs.Prelude.{slice_get, drop}
use Rattle.std.specs.List.{insert, filter}
use Rattle.std.proofs.lemmas.List.Edits.{insert_end}
use Rattle.tks_share.proofs.InRow.{keeps_on, leaves_out}
use Rattle.tks_share.proofs.row.kept.Goals as goal
use Rattle.tks_share.proofs.row.kept.Goals.{then-keep+in_ok-share+in_ok-insert, else-keep}

pub loop-index-preserved : goal.loop-index-preserved
loop-index-preserved g c =
    let row = c.args.row.now in
    let i = c.loop-index.index in
    let left = c.loop-index.left in
    let item = c.in-Some.item.now in
    let there : slice_get row i ≡ Some item = search rules in
    elim c.if-keep.branch [
      | then-keep+in_ok-share+in_ok-insert w ↦
          let put : c.if-keep.left ≡ left ++ item ∷ [] =
          w.left-is ∙ w.in_ok-insert.ensures.ok ∙ ap (λ n. insert left n w.in_ok-share.field-0) w.count-end.ensures
          ∙ insert_end left w.in_ok-share.field-0 ∙ ap (λ x. left ++ x ∷ []) w.in_ok-share.ensures in
          record {
            few = omega (arith, ap length put, length-append left (item ∷ []), c.loop-index.invariant.few);
            all = λ p says.
                keeps_on p row i left (c.loop-index.invariant.all p says) item there
                (ap p (sym c.get.ensures) ∙ sym (says c.get.result c.keep.result c.keep.ensures) ∙ w.if-keep.true)
                ∙ ap (λ t. t ++ filter p (drop (i + 1) row)) (sym put);
          }
      | else-keep w ↦
          record {
            few = omega (arith, ap length w.left-is, c.loop-index.invariant.few);
            all = λ p says.
                leaves_out p row i left (c.loop-index.invariant.all p says) item there
                (ap p (sym c.get.ensures) ∙ sym (says c.get.result c.keep.result c.keep.ensures) ∙ w.if-keep.false)
                ∙ ap (λ t. t ++ filter p (drop (i + 1) row)) (sym w.left-is);
          }
    ]
