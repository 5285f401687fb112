use Rattle.std.proofs.Common.{◌∙◌, ap, rules}
use Rattle.std.specs.Prelude.{IsOk}
use Rattle.tks_share.specs.Tree.{items_at}
use Rattle.tks_share.proofs.AtFork.{owned}
use Rattle.tks_share.proofs.AtPlace.{fits_left, fits_right, inserted_left, inserted_right}
use Rattle.tks_share.proofs.places.+insert.Goals as goal
use Rattle.tks_share.proofs.places.+insert.Goals.{then-index-place+in_ok-insert-in-Some, else-index-place+in_ok-insert-in-Some-2}

pub returns-after-index-place-clause-ok : goal.returns-after-index-place-clause-ok
returns-after-index-place-clause-ok g t c =
    let es = c.args.tree.now in
    let f = c.in_ok-fork-in-Some.fork.now in
    let is = owned c.tree.inside.root c.in-Some.root f es c.tree.view_is c.in-Some.is c.in_ok-fork-in-Some.ensures.value in
    let came : IsOk c.make_mut.result = search rules in
    elim c.if-index-place.branch [
      | then-index-place+in_ok-insert-in-Some w ↦ rw (w.tree-inside-is, w.result-is) (λ fits.
          ap items_at (c.make_mut.follows.holds w.balance.new.fork came) ∙ w.balance.ensures.items
          ∙ inserted_left f.left f.item f.right es is fits c.args.index _ c.count-place.ensures c.args.item w.if-index-place.true _ (w.in_ok-insert-in-Some.ensures.ok (fits_left f.left f.item f.right es is fits)))
      | else-index-place+in_ok-insert-in-Some-2 w ↦ rw (w.tree-inside-is, w.result-is) (λ fits.
          ap items_at (c.make_mut.follows.holds w.balance-else-index-place.new.fork came) ∙ w.balance-else-index-place.ensures.items
          ∙ inserted_right f.left f.item f.right es is fits c.args.index _ c.count-place.ensures c.args.item w.if-index-place.false _ (w.in_ok-insert-in-Some-2.ensures.ok (fits_right f.left f.item f.right es is fits)))
    ]
