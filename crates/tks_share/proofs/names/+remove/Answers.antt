use Rattle.std.proofs.Common.{◌≡◌, ◌++◌, ap, ◌∙◌, rules}
use Rattle.std.specs.Prelude.{IsOk}
use Rattle.tks_share.specs.Names.{without}
use Rattle.tks_share.specs.Tree.{items_at}
use Rattle.tks_share.proofs.AtFork.{owned, side, sorted_left, sorted_right, left_out, here_out, right_out}
use Rattle.tks_share.proofs.names.+remove.Goals as goal

pub returns-in_ok-remove-in-Less-clause-ok : goal.returns-in_ok-remove-in-Less-clause-ok
returns-in_ok-remove-in-Less-clause-ok g t c = λ sorted.
    let name = c.args.name.now in
    let f = c.in_ok-fork-in-Some.fork.now in
    let is = owned c.tree.inside.root c.in-Some.root f c.args.tree.now c.tree.view_is c.in-Some.is c.in_ok-fork-in-Some.ensures.value in
    let came : IsOk c.make_mut.result = search rules in
    ap items_at (c.make_mut.follows.holds c.balance.new.fork came) ∙ c.balance.ensures.items
    ∙ left_out f c.args.tree.now is name (side name f.item.0 c.get.result.now _ _ c.in-Less.is c.stands.ensures c.get.ensures) sorted _ (c.in_ok-remove-in-Less.ensures.ok (sorted_left f _ is name sorted))

pub returns-in_ok-remove-in-Greater-clause-ok : goal.returns-in_ok-remove-in-Greater-clause-ok
returns-in_ok-remove-in-Greater-clause-ok g t c = λ sorted.
    let name = c.args.name.now in
    let f = c.in_ok-fork-in-Some.fork.now in
    let is = owned c.tree.inside.root c.in-Some.root f c.args.tree.now c.tree.view_is c.in-Some.is c.in_ok-fork-in-Some.ensures.value in
    let came : IsOk c.make_mut.result = search rules in
    ap items_at (c.make_mut.follows.holds c.balance-in-Greater.new.fork came) ∙ c.balance-in-Greater.ensures.items
    ∙ right_out f c.args.tree.now is name (side name f.item.0 c.get.result.now _ _ c.in-Greater.is c.stands.ensures c.get.ensures) sorted _ (c.in_ok-remove-in-Greater.ensures.ok (sorted_right f _ is name sorted))

pub returns-in_default-clause-ok : goal.returns-in_default-clause-ok
returns-in_default-clause-ok g t c = λ sorted.
    let name = c.args.name.now in
    let f = c.in_ok-fork-in-Some.fork.now in
    let is = owned c.tree.inside.root c.in-Some.root f c.args.tree.now c.tree.view_is c.in-Some.is c.in_ok-fork-in-Some.ensures.value in
    let came : IsOk c.make_mut.result = search rules in
    let joined : items_at c.close.new.fork ≡ f.left ++ f.right = search rules in
    ap items_at (c.make_mut.follows.holds c.close.new.fork came) ∙ joined
    ∙ here_out f c.args.tree.now is name (side name f.item.0 c.get.result.now _ _ c.in-Equal.is c.stands.ensures c.get.ensures) sorted

pub returns-in-Some-2-clause-ok : goal.returns-in-Some-2-clause-ok
returns-in-Some-2-clause-ok g t c = λ sorted.
    let name = c.args.name.now in
    let f = c.in_ok-fork-in-Some.fork.now in
    let is = owned c.tree.inside.root c.in-Some.root f c.args.tree.now c.tree.view_is c.in-Some.is c.in_ok-fork-in-Some.ensures.value in
    let joined : c.in-Some-2.left ≡ f.left ++ f.right = search rules in
    let all : c.in-Some-2.left ≡ without name c.args.tree.now =
    joined ∙ here_out f c.args.tree.now is name (side name f.item.0 c.get.result.now _ _ c.in-Equal.is c.stands.ensures c.get.ensures) sorted in
    let whole = c.left.view_is ∙ all in
    search rules
