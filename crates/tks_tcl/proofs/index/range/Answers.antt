use Rattle.std.proofs.Common.{drop, ap, ◌∙◌}
use Rattle.tks_tcl.specs.View.{index_of}
use Rattle.tks_tcl.proofs.Parts.{range_within}
use Rattle.tks_tcl.proofs.index.range.Goals as goal

pub returns : goal.returns
returns g c =
    let front = c.bounds-front.result.0 in
    let behind = c.bounds-front.result.1 in
    c.split_at-2.ensures.back ∙ ap (λ l. drop front l) c.split_at.ensures.front
    ∙ range_within (index_of c.args.first) (index_of c.args.last) c.args.items.now front behind c.bounds-front.ensures.front c.bounds-front.ensures.behind
