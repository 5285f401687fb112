use Rattle.std.proofs.Common.{rules, ◌≡◌, ◌+◌}
use Rattle.std.specs.FinMap as map
use Rattle.tks_bind.proofs.Naming.{next_is_new, placed_pushed}
use Rattle.tks_bind.proofs.name_places.NamePlaces.with.Goals as goal

pub push-requires : goal.push-requires
push-requires c = rw c.in_ok-places.ensures (next_is_new c.args.self.now.next c.args.self.now.places c.requires)

pub returns : goal.returns
returns c vs v placed none is =
    let p = c.args.self.now in
    let next : c.in-Some.next ≡ p.next + 1 = search rules in
    let numbers : c.insert.new.self ≡ map.insert p.numbers c.args.name.now p.next = search rules in
    rw (next, numbers, c.in_ok-push.ensures.ok, c.in_ok-places.ensures) (placed_pushed p vs placed c.args.name.now v none is)
