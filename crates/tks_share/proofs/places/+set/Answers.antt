use Rattle.std.proofs.Common.{◌∙◌, ap, rules}
use Rattle.std.specs.Prelude.{IsOk}
use Rattle.tks_share.specs.Tree.{items_at}
use Rattle.tks_share.proofs.AtFork.{owned, ok_through}
use Rattle.tks_share.proofs.AtPlace.{fits_left, fits_right, set_left, set_here, set_right}
use Rattle.tks_share.proofs.places.+set.Goals as goal
use Rattle.tks_share.proofs.places.+set.Goals.{then-index-place, else-index-place+then-index-place-2, else-index-place+else-index-place-2}

pub returns-clause-ok : goal.returns-clause-ok
returns-clause-ok g t c =
    let es = c.args.tree.now in
    let f = c.in_ok-fork.fork.now in
    let is = owned c.tree.inside.root c.in-Some.root f es c.tree.view_is c.in-Some.is c.in_ok-fork.ensures.value in
    let came : IsOk c.make_mut.result = search rules in
    elim c.if-index-place.branch [
      | then-index-place w ↦ rw (w.tree-inside-is, w.result-is) (ok_through _ _ w.set.result (λ told fits.
          ap items_at (c.make_mut.follows.holds _ came)
          ∙ set_left f.left f.item f.right es is fits c.args.index _ c.count-place.ensures c.args.item w.if-index-place.true _ (told (fits_left f.left f.item f.right es is fits))) w.set.ensures.ok)
      | else-index-place+then-index-place-2 w ↦ rw (w.tree-inside-is, w.result-is) (λ fits.
          ap items_at (c.make_mut.follows.holds _ came)
          ∙ set_here f.left f.item f.right es is fits c.args.index _ c.count-place.ensures c.args.item w.if-index-place-2.true)
      | else-index-place+else-index-place-2 w ↦ rw (w.tree-inside-is, w.result-is) (ok_through _ _ w.set-else-index-place-2.result (λ told fits.
          ap items_at (c.make_mut.follows.holds _ came)
          ∙ set_right f.left f.item f.right es is fits c.args.index _ c.count-place.ensures c.args.item w.if-index-place.false w.if-index-place-2.false _ (told (fits_right f.left f.item f.right es is fits))) w.set-else-index-place-2.ensures.ok)
    ]
