use Rattle.std.proofs.Common.{ap, rules}
use Rattle.std.specs.Prelude.{IsOk}
use Rattle.tks_share.specs.Tree.{items_at}
use Rattle.tks_share.proofs.AtFork.{owned, side, sorted_left, sorted_right, some_through, none_through, changed_left, changed_here, changed_right, kept_left, kept_right}
use Rattle.tks_share.proofs.names.+change.Goals as goal
use Rattle.tks_share.proofs.names.+change.Goals.{in-Less, in-Equal+in_ok-value-in-Equal, in-Greater}

pub returns-clause-some : goal.returns-clause-some
returns-clause-some g t c =
    let name = c.args.name.now in
    let es = c.args.tree.now in
    let f = c.in_ok-fork.fork.now in
    let is = owned c.tree.inside.root c.in-Some.root f es c.tree.view_is c.in-Some.is c.in_ok-fork.ensures.value in
    let came : IsOk c.make_mut.result = search rules in
    elim c.match-stands.branch [
      | in-Less w ↦ rw (w.tree-inside-is, w.result-is) (some_through _ _ w.change.result (λ answer told sorted.
          changed_left f es is name (g.C.Change.gives c.args.change.now) answer (side name f.item.0 c.get.result.now _ _ w.in-Less.is c.stands.ensures c.get.ensures) sorted w.change.new.tree _
          (ap items_at (c.make_mut.follows.holds _ came)) (told (sorted_left f es is name sorted))) w.change.ensures.some)
      | in-Equal+in_ok-value-in-Equal w ↦ rw (w.tree-inside-is, w.result-is) (λ sorted.
          changed_here f es is name (g.C.Change.gives c.args.change.now) w.change-answer.result (side name f.item.0 c.get.result.now _ _ w.in-Equal.is c.stands.ensures c.get.ensures) sorted _ _
          w.in_ok-value-in-Equal.ensures.value w.change-answer.ensures _ (ap items_at (c.make_mut.follows.holds _ came)))
      | in-Greater w ↦ rw (w.tree-inside-is, w.result-is) (some_through _ _ w.change-in-Greater.result (λ answer told sorted.
          changed_right f es is name (g.C.Change.gives c.args.change.now) answer (side name f.item.0 c.get.result.now _ _ w.in-Greater.is c.stands.ensures c.get.ensures) sorted w.change-in-Greater.new.tree _
          (ap items_at (c.make_mut.follows.holds _ came)) (told (sorted_right f es is name sorted))) w.change-in-Greater.ensures.some)
    ]

pub returns-clause-none : goal.returns-clause-none
returns-clause-none g t c =
    let name = c.args.name.now in
    let es = c.args.tree.now in
    let f = c.in_ok-fork.fork.now in
    let is = owned c.tree.inside.root c.in-Some.root f es c.tree.view_is c.in-Some.is c.in_ok-fork.ensures.value in
    let came : IsOk c.make_mut.result = search rules in
    elim c.match-stands.branch [
      | in-Less w ↦ rw (w.tree-inside-is, w.result-is) (none_through _ _ w.change.result (λ told.
          kept_left f es is name (side name f.item.0 c.get.result.now _ _ w.in-Less.is c.stands.ensures c.get.ensures) w.change.new.tree _
          (ap items_at (c.make_mut.follows.holds _ came)) told) w.change.ensures.none)
      | in-Equal+in_ok-value-in-Equal w ↦ rw (w.tree-inside-is, w.result-is) tt
      | in-Greater w ↦ rw (w.tree-inside-is, w.result-is) (none_through _ _ w.change-in-Greater.result (λ told.
          kept_right f es is name (side name f.item.0 c.get.result.now _ _ w.in-Greater.is c.stands.ensures c.get.ensures) w.change-in-Greater.new.tree _
          (ap items_at (c.make_mut.follows.holds _ came)) told) w.change-in-Greater.ensures.none)
    ]
