use Rattle.std.proofs.Common.{◌∙◌, ◌<◌, ◌^◌, ap, subst}
use Rattle.std.specs.FinMap as fin
use Rattle.tks_share.proofs.AtFork.{some_through, none_through}
use Rattle.tks_share.proofs.Mapped.{found, sound, changed_in}
use Rattle.tks_share.proofs.map.SharedMap.change.Goals as goal

pub invariant_of-self : goal.invariant_of-self
invariant_of-self g c =
    let told = rw c.new.ensures at c.change.ensures in
    let kept = sound c.self.inside.tree c.args.self.now c.self.view_is c.self.invariant.0 (g.C.Change.gives c.args.change.now) c.args.name.now c.change.new.tree c.change.result told.some told.none told.err in
    (kept.0, c.self.invariant.1 ∙ kept.1, subst (λ n. n < 2 ^ 32) kept.1 c.self.invariant.2)

pub returns-clause-some : goal.returns-clause-some
returns-clause-some g c =
    some_through _ _ c.change.result (λ answer told.
    changed_in c.self.inside.tree c.args.self.now c.self.view_is c.self.invariant.0 (g.C.Change.gives c.args.change.now) c.args.name.now c.change.new.tree answer (told c.self.invariant.0)) (rw c.new.ensures at c.change.ensures.some)

pub returns-clause-none : goal.returns-clause-none
returns-clause-none g c =
    none_through _ _ c.change.result (λ told.
    (ap (λ es. fin.from_sorted es) told.0 ∙ c.self.view_is, found c.self.inside.tree c.args.self.now c.self.view_is c.self.invariant.0 c.args.name.now ∙ told.1 c.self.invariant.0)) (rw c.new.ensures at c.change.ensures.none)
