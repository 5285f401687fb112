use Rattle.std.proofs.Common.{rules, ◌≡◌, ◌+◌, ◌==◌, true, not, sym, ap, subst, ◌∙◌}
use Rattle.std.specs.List.{list_all}
use Rattle.std.specs.FinMap as map
use Rattle.tks_bind.specs.Places.{key}
use Rattle.tks_bind.proofs.Counting.{counted_pushed}
use Rattle.tks_bind.proofs.places.Places.push.Goals as goal

pub invariant_of-self-2 : goal.invariant_of-self-2
invariant_of-self-2 c =
    let inside = c.self.inside in
    let new = subst (λ ns. list_all (λ n. not (n == c.args.number)) ns ≡ true) (sym c.self.view_is) c.requires in
    let next : c.in-Some.next ≡ inside.next + 1 = search rules in
    let counts : c.insert.new.self ≡ map.insert inside.counts (key c.args.number) inside.next =
    c.in_ok-insert.ensures.ok ∙ ap (λ m. map.insert m c.to_be_bytes.result inside.next) c.in_ok-counts.ensures ∙ ap (λ k. map.insert inside.counts k inside.next) c.to_be_bytes.ensures in
    rw (next, counts, c.in_ok-push.ensures.ok) (counted_pushed inside.numbers inside.counts inside.next c.self.invariant c.args.number c.ranges.number.fits new)
