use Rattle.std.proofs.Common.{ap, ◌∙◌, rules}
use Rattle.std.specs.Prelude.{IsOk}
use Rattle.tks_share.specs.Tree.{items_at}
use Rattle.tks_share.proofs.AtFork.{owned, side, sorted_left, sorted_right, put_in_left, put_in_here, put_in_right}
use Rattle.tks_share.proofs.names.+insert.Goals as goal
use Rattle.tks_share.proofs.names.+insert.Goals.{in-Less+in_ok-insert-in-Less, in-Equal, in-Greater+in_ok-insert-in-Greater}

pub returns-after-stands-clause-ok : goal.returns-after-stands-clause-ok
returns-after-stands-clause-ok g t c =
    let name = c.args.name.now in
    let f = c.in_ok-fork-in-Some.fork.now in
    let is = owned c.tree.inside.root c.in-Some.root f c.args.tree.now c.tree.view_is c.in-Some.is c.in_ok-fork-in-Some.ensures.value in
    let came : IsOk c.make_mut.result = search rules in
    elim c.match-stands.branch [
      | in-Less+in_ok-insert-in-Less w ↦ rw (w.tree-inside-is, w.result-is) (λ sorted.
          ap items_at (c.make_mut.follows.holds w.balance.new.fork came) ∙ w.balance.ensures.items
          ∙ put_in_left f c.args.tree.now is name (side name f.item.0 c.get.result.now _ _ w.in-Less.is c.stands.ensures c.get.ensures) sorted _ _ (w.in_ok-insert-in-Less.ensures.ok (sorted_left f _ is name sorted)))
      | in-Equal w ↦ rw (w.tree-inside-is, w.result-is) (λ sorted.
          ap items_at (c.make_mut.follows.holds _ came)
          ∙ put_in_here f c.args.tree.now is name (side name f.item.0 c.get.result.now _ _ w.in-Equal.is c.stands.ensures c.get.ensures) sorted c.args.value)
      | in-Greater+in_ok-insert-in-Greater w ↦ rw (w.tree-inside-is, w.result-is) (λ sorted.
          ap items_at (c.make_mut.follows.holds w.balance-in-Greater.new.fork came) ∙ w.balance-in-Greater.ensures.items
          ∙ put_in_right f c.args.tree.now is name (side name f.item.0 c.get.result.now _ _ w.in-Greater.is c.stands.ensures c.get.ensures) sorted _ _ (w.in_ok-insert-in-Greater.ensures.ok (sorted_right f _ is name sorted)))
    ]
