use Rattle.std.proofs.Common.{sym, ap, ◌∙◌}
use Rattle.std.specs.Prelude.{length}
use Rattle.tks_bind.specs.VirtualIndexes.{index_of, or_end}
use Rattle.tks_bind.proofs.virtuals.Virtuals.index_of.Goals as goal

pub returns-in-Some : goal.returns-in-Some
returns-in-Some c =
    let vs = c.self.inside.events in
    ap (λ o. or_end o (length vs)) (sym c.in-Some.is) ∙ c.place_of.ensures vs c.self.invariant.names ∙ ap (index_of c.args.name.now) c.self.view_is

pub returns-in-None : goal.returns-in-None
returns-in-None c =
    let vs = c.self.inside.events in
    c.len.ensures.value ∙ ap (λ o. or_end o (length vs)) (sym c.in-None.is) ∙ c.place_of.ensures vs c.self.invariant.names ∙ ap (index_of c.args.name.now) c.self.view_is
