use Rattle.std.proofs.Common.{true, ◌<◌, ◌^◌, ◌∙◌, ap, subst, rules}
use Rattle.std.specs.Prelude.{◌≡◌}
use Rattle.std.specs.FinMap as fin
use Rattle.tks_share.proofs.AtPlace.{whole}
use Rattle.tks_share.proofs.Mapped.{sorted_put, inserted, counted_put}
use Rattle.tks_share.proofs.map.SharedMap.insert.Goals as goal

pub invariant_of-self-2 : goal.invariant_of-self-2
invariant_of-self-2 g c =
    let es = c.self.inside.tree in
    let m = c.args.self.now in
    let put = rw c.new-2.ensures at c.in_ok-insert.ensures.ok c.self.invariant.0 in
    let many = counted_put es m c.self.view_is c.self.invariant.0 c.args.name.now c.insert.new.tree c.in_ok-value.value put in
    let room : c.has_room.result ≡ true = search rules in
    let fits = subst (λ n. n < 2 ^ 32) many (c.has_room.ensures room c.in_ok-value.value) in
    (sorted_put es m c.self.view_is c.self.invariant.0 c.args.name.now c.insert.new.tree c.in_ok-value.value put, c.count-self-inside.ensures ∙ whole _ fits, fits)

pub returns-clause-ok : goal.returns-clause-ok
returns-clause-ok g c =
    inserted c.self.inside.tree c.args.self.now c.self.view_is c.self.invariant.0 c.args.name.now c.insert.new.tree c.in_ok-value.value (rw c.new-2.ensures at c.in_ok-insert.ensures.ok c.self.invariant.0)
    ∙ ap (fin.insert c.args.self.now c.args.name.now) c.in_ok-value.ensures
