use Rattle.std.proofs.Common.{◌≡◌, Some, None, sym, ap, ◌∙◌}
use Rattle.std.specs.Prelude.{slice_get, option_copied}
use Rattle.std.specs.FinMap as map
use Rattle.tks_bind.specs.Places.{key}
use Rattle.tks_bind.proofs.Counting.{some_count, place_found}
use Rattle.tks_bind.proofs.places.Places.place_of.Goals as goal

pub returns-in-None : goal.returns-in-None
returns-in-None c place is =
    let inside = c.self.inside in
    let stands = ap (λ ns. slice_get ns place) c.self.view_is ∙ is in
    let none : map.get inside.counts (key c.args.number) ≡ None = ap (map.get inside.counts) (sym c.to_be_bytes.ensures) ∙ sym c.get.ensures ∙ ap option_copied c.in-None.is in
    absurd (some_count inside.numbers inside.counts inside.next c.self.invariant place c.args.number stands none)

pub returns-in-Some : goal.returns-in-Some
returns-in-Some c place is =
    let inside = c.self.inside in
    let stands = ap (λ ns. slice_get ns place) c.self.view_is ∙ is in
    let some : map.get inside.counts (key c.args.number) ≡ Some c.in-Some.count.now = ap (map.get inside.counts) (sym c.to_be_bytes.ensures) ∙ sym c.get.ensures ∙ ap option_copied c.in-Some.is in
    c.place_of.ensures ∙ place_found inside.numbers inside.counts inside.next c.self.invariant place c.args.number stands c.in-Some.count.now some
