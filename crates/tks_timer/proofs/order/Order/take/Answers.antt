use Rattle.std.proofs.Common.{◌≡◌, ◌<◌, sym, subst, ap, ◌∙◌, arith, length}
use Rattle.std.specs.List.{remove}
use Rattle.tks_timer.specs.Order.{AreInTurn, place, put}
use Rattle.tks_timer.proofs.Ordering.{taken_there, stands_there, removed_in_turn}
use Rattle.tks_timer.proofs.order.Order.take.Goals as goal

pub invariant_of-self-then-place-len : goal.invariant_of-self-then-place-len
invariant_of-self-then-place-len c = subst AreInTurn (sym c.in_ok-remove.ensures.ok) (removed_in_turn c.self.inside.turns c.place-place.result c.self.invariant)

pub returns-in_ok-remove-clause-ok : goal.returns-in_ok-remove-clause-ok
returns-in_ok-remove-clause-ok c rest was =
    c.in_ok-remove.ensures.ok
    ∙ ap (λ ts. remove ts c.place-place.result) (c.self.view_is ∙ was)
    ∙ ap (remove (put c.args.turn rest)) (c.place-place.ensures.value ∙ ap (place c.args.turn) was)
    ∙ taken_there c.args.turn rest

pub returns-else-place-len-clause-ok : goal.returns-else-place-len-clause-ok
returns-else-place-len-clause-ok c rest was =
    let there : place c.args.turn c.args.self.now < length c.args.self.now = subst (λ ts. place c.args.turn ts < length ts) (sym was) (stands_there c.args.turn rest) in
    let inside : length c.self.inside.turns ≡ length c.args.self.now = ap length c.self.view_is in
    absurd (omega (arith, there, inside, c.place-place.ensures.value, c.len.ensures.value, c.if-place-len.false))
