use Rattle.std.proofs.Common.{◌≡◌, length, get_or, ap, subst, ◌∙◌, arith}
use Rattle.tks_tree.specs.WellFormed.{WellFormed}
use Rattle.tks_tree.proofs.Links.{as_many_firsts, as_many_nexts, place_within, still_within, walked, shorter}
use Rattle.tks_tree.proofs.tree.Tree.walk.Goals as goal

pub index-requires : goal.index-requires
index-requires c =
    let t = c.args.self.now in
    let here =
    place_within t (subst WellFormed c.self.view_is c.self.invariant.0) c.loop-place.pending.items c.pop.new.self.items c.in-Some.place c.in-Some.ensures.items c.loop-place.invariant.within in
    let as_many : length c.args.links.now.next.items ≡ length t.windows = ap length c.requires.next ∙ as_many_nexts t.windows 0 in
    omega (arith, here, as_many, c.args.links.now.next.ok.0)

pub index-requires-in-Some : goal.index-requires-in-Some
index-requires-in-Some c =
    let t = c.args.self.now in
    let here =
    place_within t (subst WellFormed c.self.view_is c.self.invariant.0) c.loop-place.pending.items c.pop.new.self.items c.in-Some.place c.in-Some.ensures.items c.loop-place.invariant.within in
    let as_many : length c.args.links.now.first.items ≡ length t.windows = ap length c.requires.first ∙ as_many_firsts t.windows t.windows 0 in
    omega (arith, here, as_many, c.args.links.now.first.ok.0)

pub loop-place-smaller : goal.loop-place-smaller
loop-place-smaller c =
    let place = c.in-Some.place in
    let next = c.index.result.now in
    let first = c.index-in-Some.result.now in
    shorter c.args.self.now (subst WellFormed c.self.view_is c.self.invariant.0) c.loop-place.pending.items c.pop.new.self.items place c.in-Some.ensures.items c.loop-place.invariant.within
    first next first next (c.index-in-Some.ensures ∙ ap (λ l. get_or l place first) c.requires.first) (c.index.ensures ∙ ap (λ l. get_or l place next) c.requires.next)
    c.push_place.new.places.items c.push_place-in-Some.new.places.items c.in_ok-push_place.ensures c.in_ok-push_place-2.ensures

pub loop-place-preserved : goal.loop-place-preserved
loop-place-preserved c =
    let t = c.args.self.now in
    let w = subst WellFormed c.self.view_is c.self.invariant.0 in
    let before = c.loop-place.pending.items in
    let pending = c.pop.new.self.items in
    let place = c.in-Some.place in
    let next = c.index.result.now in
    let first = c.index-in-Some.result.now in
    let first_is = c.index-in-Some.ensures ∙ ap (λ l. get_or l place first) c.requires.first in
    let next_is = c.index.ensures ∙ ap (λ l. get_or l place next) c.requires.next in
    let with_next = c.push_place.new.places.items in
    let after = c.push_place-in-Some.new.places.items in
    let id = c.index-ids-place.result in
    record {
      all =
          walked t w before pending place c.in-Some.ensures.items c.loop-place.invariant.within first next first next first_is next_is
          with_next after c.in_ok-push_place.ensures c.in_ok-push_place-2.ensures
          id id (c.index-ids-place.is ∙ ap (λ ns. get_or ns place id) c.requires.ids)
          c.loop-place.order.items c.push-in-Some.new.self.items c.in_ok-push-2.ensures.items c.loop-place.invariant.all;
      within =
          still_within t w before pending place c.in-Some.ensures.items c.loop-place.invariant.within first next first next first_is next_is
          with_next after c.in_ok-push_place.ensures c.in_ok-push_place-2.ensures;
    }
