use Rattle.std.proofs.Common.{◌-◌, ◌++◌, sym, ap, ◌∙◌, arith}
use Rattle.std.specs.List.{insert}
use Rattle.tks_share.proofs.AtFork.{ok_through}
use Rattle.tks_share.proofs.InLine.{fits_between, between, inserted_between}
use Rattle.tks_share.proofs.line.Line.put_in.Goals as goal

pub returns-then-index-ahead-3-clause-ok : goal.returns-then-index-ahead-3-clause-ok
returns-then-index-ahead-3-clause-ok g c =
    let f = c.self.inside.front in
    let m = c.self.inside.middle in
    let b = c.self.inside.back in
    let is = sym c.self.view_is in
    ok_through _ _ c.insert-then-index-ahead-3.result (λ told.
    ap (λ t. f ++ (t ++ b)) (told (fits_between f m b _ is c.requires.fits) ∙ ap (λ n. insert m (c.args.index - n) c.args.item) c.count-ahead.ensures)
    ∙ inserted_between f m b _ is c.args.index c.args.item (omega (arith, c.if-index-ahead.false, c.count-ahead.ensures))
    (omega (arith, c.if-index-ahead-3.true, c.count-ahead.ensures, c.count-between.ensures, between f m b _ is c.requires.fits))) c.insert-then-index-ahead-3.ensures.ok
