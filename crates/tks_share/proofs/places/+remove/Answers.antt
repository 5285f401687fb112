use Rattle.std.proofs.Common.{◌≡◌, ◌++◌, ap, ◌∙◌, rules}
use Rattle.std.specs.Prelude.{IsOk}
use Rattle.std.specs.List.{remove}
use Rattle.tks_share.specs.Tree.{items_at}
use Rattle.tks_share.proofs.AtFork.{owned}
use Rattle.tks_share.proofs.AtPlace.{fits_right, removed_here, removed_right}
use Rattle.tks_share.proofs.places.+remove.Goals as goal

pub returns-in-Some-2-clause-ok : goal.returns-in-Some-2-clause-ok
returns-in-Some-2-clause-ok g t c = λ fits.
    let es = c.args.tree.now in
    let f = c.in_ok-fork-in-Some.fork.now in
    let is = owned c.tree.inside.root c.in-Some.root f es c.tree.view_is c.in-Some.is c.in_ok-fork-in-Some.ensures.value in
    let joined : c.in-Some-2.left ≡ f.left ++ f.right = search rules in
    let all : c.in-Some-2.left ≡ remove es c.args.index =
    joined ∙ removed_here f.left f.item f.right es is fits c.args.index _ c.count-place.ensures c.if-index-place-2.true in
    let whole = c.left.view_is ∙ all in
    search rules

pub returns-in_default-clause-ok : goal.returns-in_default-clause-ok
returns-in_default-clause-ok g t c = λ fits.
    let es = c.args.tree.now in
    let f = c.in_ok-fork-in-Some.fork.now in
    let is = owned c.tree.inside.root c.in-Some.root f es c.tree.view_is c.in-Some.is c.in_ok-fork-in-Some.ensures.value in
    let came : IsOk c.make_mut.result = search rules in
    let joined : items_at c.close.new.fork ≡ f.left ++ f.right = search rules in
    ap items_at (c.make_mut.follows.holds c.close.new.fork came) ∙ joined
    ∙ removed_here f.left f.item f.right es is fits c.args.index _ c.count-place.ensures c.if-index-place-2.true

pub returns-in_ok-remove-in-Some-2-clause-ok : goal.returns-in_ok-remove-in-Some-2-clause-ok
returns-in_ok-remove-in-Some-2-clause-ok g t c = λ fits.
    let es = c.args.tree.now in
    let f = c.in_ok-fork-in-Some.fork.now in
    let is = owned c.tree.inside.root c.in-Some.root f es c.tree.view_is c.in-Some.is c.in_ok-fork-in-Some.ensures.value in
    let came : IsOk c.make_mut.result = search rules in
    ap items_at (c.make_mut.follows.holds c.balance-else-index-place-2.new.fork came) ∙ c.balance-else-index-place-2.ensures.items
    ∙ removed_right f.left f.item f.right es is fits c.args.index _ c.count-place.ensures c.if-index-place.false c.if-index-place-2.false _ (c.in_ok-remove-in-Some-2.ensures.ok (fits_right f.left f.item f.right es is fits))
