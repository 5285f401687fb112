use Rattle.std.proofs.Common.{◌∷◌, ◌++◌, ◌∙◌, ap, sym, Some, rules}
use Rattle.std.specs.Prelude.{IsOk}
use Rattle.tks_share.specs.Tree.{items_at}
use Rattle.tks_share.proofs.AtFork.{owned, some_through, none_through}
use Rattle.tks_share.proofs.AtPlace.{fits_left, fits_right, got_left, got_right, got_here, set_left, set_here, set_right}
use Rattle.tks_share.proofs.places.+change.Goals as goal
use Rattle.tks_share.proofs.places.+change.Goals.{then-index-place, else-index-place+then-index-place-2+in_ok-item, else-index-place+else-index-place-2}

pub returns-clause-some : goal.returns-clause-some
returns-clause-some g t c =
    let es = c.args.tree.now in
    let f = c.in_ok-fork.fork.now in
    let i = c.args.index in
    let here = c.count-place.ensures in
    let is = owned c.tree.inside.root c.in-Some.root f es c.tree.view_is c.in-Some.is c.in_ok-fork.ensures.value in
    let came : IsOk c.make_mut.result = search rules in
    elim c.if-index-place.branch [
      | then-index-place w ↦ rw (w.tree-inside-is, w.result-is) (some_through _ _ w.change.result (λ answer told fits.
          let was = told (fits_left f.left f.item f.right es is fits) in
          record {
            before = was.before;
            after = was.after;
            found = got_left f.left f.item f.right es is fits i _ here w.if-index-place.true ∙ was.found;
            given = was.given;
            now = ap items_at (c.make_mut.follows.holds _ came) ∙ set_left f.left f.item f.right es is fits i _ here was.after w.if-index-place.true _ was.now;
          }) w.change.ensures.some)
      | else-index-place+then-index-place-2+in_ok-item w ↦ rw (w.tree-inside-is, w.result-is) (λ fits.
          record {
            before = _;
            after = _;
            found = got_here f.left f.item f.right es is fits i _ here w.if-index-place-2.true ∙ ap (λ x. Some x) (sym w.in_ok-item.ensures.value);
            given = w.change-answer.ensures;
            now = ap items_at (c.make_mut.follows.holds _ came) ∙ set_here f.left f.item f.right es is fits i _ here _ w.if-index-place-2.true;
          })
      | else-index-place+else-index-place-2 w ↦ rw (w.tree-inside-is, w.result-is) (some_through _ _ w.change-else-index-place-2.result (λ answer told fits.
          let was = told (fits_right f.left f.item f.right es is fits) in
          record {
            before = was.before;
            after = was.after;
            found = got_right f.left f.item f.right es is fits i _ here w.if-index-place.false w.if-index-place-2.false ∙ was.found;
            given = was.given;
            now = ap items_at (c.make_mut.follows.holds _ came) ∙ set_right f.left f.item f.right es is fits i _ here was.after w.if-index-place.false w.if-index-place-2.false _ was.now;
          }) w.change-else-index-place-2.ensures.some)
    ]

pub returns-clause-none : goal.returns-clause-none
returns-clause-none g t c =
    let es = c.args.tree.now in
    let f = c.in_ok-fork.fork.now in
    let i = c.args.index in
    let here = c.count-place.ensures in
    let is = owned c.tree.inside.root c.in-Some.root f es c.tree.view_is c.in-Some.is c.in_ok-fork.ensures.value in
    let came : IsOk c.make_mut.result = search rules in
    elim c.if-index-place.branch [
      | then-index-place w ↦ rw (w.tree-inside-is, w.result-is) (none_through _ _ w.change.result (λ told. (
        ap items_at (c.make_mut.follows.holds _ came) ∙ ap (λ l. l ++ f.item ∷ f.right) told.0 ∙ sym is,
        λ fits. got_left f.left f.item f.right es is fits i _ here w.if-index-place.true ∙ told.1 (fits_left f.left f.item f.right es is fits),
      )) w.change.ensures.none)
      | else-index-place+then-index-place-2+in_ok-item w ↦ rw (w.tree-inside-is, w.result-is) tt
      | else-index-place+else-index-place-2 w ↦ rw (w.tree-inside-is, w.result-is) (none_through _ _ w.change-else-index-place-2.result (λ told. (
        ap items_at (c.make_mut.follows.holds _ came) ∙ ap (λ r. f.left ++ f.item ∷ r) told.0 ∙ sym is,
        λ fits. got_right f.left f.item f.right es is fits i _ here w.if-index-place.false w.if-index-place-2.false ∙ told.1 (fits_right f.left f.item f.right es is fits),
      )) w.change-else-index-place-2.ensures.none)
    ]
