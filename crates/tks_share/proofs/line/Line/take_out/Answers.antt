use Rattle.std.proofs.Common.{◌-◌, ◌++◌, sym, ap, ◌∙◌, arith}
use Rattle.std.specs.List.{remove}
use Rattle.tks_share.proofs.AtFork.{ok_through}
use Rattle.tks_share.proofs.InLine.{fits_between, between, removed_between}
use Rattle.tks_share.proofs.line.Line.take_out.Goals as goal

pub returns-then-index-ahead-2-clause-ok : goal.returns-then-index-ahead-2-clause-ok
returns-then-index-ahead-2-clause-ok g c =
    let f = c.self.inside.front in
    let m = c.self.inside.middle in
    let b = c.self.inside.back in
    let is = sym c.self.view_is in
    ok_through _ _ c.remove-then-index-ahead-2.result (λ told.
    ap (λ t. f ++ (t ++ b)) (told (fits_between f m b _ is c.requires.fits) ∙ ap (λ n. remove m (c.args.index - n)) c.count-ahead.ensures)
    ∙ removed_between f m b _ is c.args.index (omega (arith, c.if-index-ahead.false, c.count-ahead.ensures))
    (omega (arith, c.if-index-ahead-2.true, c.count-ahead.ensures, c.count-between.ensures, between f m b _ is c.requires.fits))) c.remove-then-index-ahead-2.ensures.ok
