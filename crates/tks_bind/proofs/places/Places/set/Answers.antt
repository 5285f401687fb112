use Rattle.std.proofs.Common.{◌≡◌, ◌==◌, true, not, Some, sym, ap, subst, ◌∙◌}
use Rattle.std.specs.Prelude.{slice_get, slice_set, option_copied}
use Rattle.std.specs.List.{list_all}
use Rattle.std.specs.FinMap as map
use Rattle.std.proofs.lemmas.List.{map-set}
use Rattle.tks_bind.specs.declared.places.Counted.{Counted}
use Rattle.tks_bind.specs.Places.{key}
use Rattle.tks_bind.proofs.Counting.{counted_set}
use Rattle.tks_bind.proofs.places.Places.set.Goals as goal

pub invariant_of-self-2 : goal.invariant_of-self-2
invariant_of-self-2 c =
    let inside = c.self.inside in
    let old = c.in-Some.old.now in
    let new = subst (λ ns. list_all (λ n. not (n == c.args.number)) ns ≡ true) (sym c.self.view_is) c.requires.new in
    let there : slice_get inside.numbers c.args.index ≡ Some old = sym c.get.ensures ∙ ap option_copied c.in-Some.is in
    let less : c.remove.new.self ≡ map.remove inside.counts (key old.number) =
    c.in_ok-remove.ensures.ok ∙ ap (λ m. map.remove m c.to_be_bytes.result) c.in_ok-counts.ensures ∙ ap (map.remove inside.counts) c.to_be_bytes.ensures in
    let counts : c.insert.new.self ≡ map.insert (map.remove inside.counts (key old.number)) (key c.args.number) old.count =
    c.in_ok-insert.ensures.ok ∙ ap (λ m. map.insert m c.to_be_bytes-2.result old.count) less
    ∙ ap (λ k. map.insert (map.remove inside.counts (key old.number)) k old.count) c.to_be_bytes-2.ensures in
    rw (counts, c.in_ok-set.ensures.ok) (counted_set inside.numbers inside.counts inside.next c.self.invariant c.args.index old there c.args.number c.ranges.number.fits new)

pub returns-clause-ok : goal.returns-clause-ok
returns-clause-ok c =
    let counted : Counted = record { count = c.in-Some.old.now.count; number = c.args.number } in
    ap (Rattle.std.specs.Prelude.map (λ d. d.number)) c.in_ok-set.ensures.ok
    ∙ map-set (λ (d : Counted). d.number) c.self.inside.numbers c.args.index counted
    ∙ ap (λ ns. slice_set ns c.args.index c.args.number) c.self.view_is
