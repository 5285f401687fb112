use Rattle.std.proofs.Common.{◌≡◌, Some, sym, ap, ◌∙◌}
use Rattle.std.specs.Prelude.{slice_get, option_copied}
use Rattle.std.specs.List.{remove}
use Rattle.std.specs.FinMap as map
use Rattle.tks_bind.specs.Places.{key}
use Rattle.tks_bind.proofs.Counting.{counted_removed, map_removed}
use Rattle.tks_bind.proofs.places.Places.remove.Goals as goal

pub invariant_of-self-2 : goal.invariant_of-self-2
invariant_of-self-2 c =
    let inside = c.self.inside in
    let there : slice_get inside.numbers c.args.index ≡ Some c.in-Some.old.now = sym c.get.ensures ∙ ap option_copied c.in-Some.is in
    let counts : c.remove.new.self ≡ map.remove inside.counts (key c.in-Some.old.now.number) =
    c.in_ok-remove.ensures.ok ∙ ap (λ m. map.remove m c.to_be_bytes.result) c.in_ok-counts.ensures ∙ ap (map.remove inside.counts) c.to_be_bytes.ensures in
    rw (counts, c.in_ok-remove-2.ensures.ok) (counted_removed inside.numbers inside.counts inside.next c.self.invariant c.args.index c.in-Some.old.now there)

pub returns-clause-ok : goal.returns-clause-ok
returns-clause-ok c =
    ap (Rattle.std.specs.Prelude.map (λ d. d.number)) c.in_ok-remove-2.ensures.ok
    ∙ map_removed (λ d. d.number) c.self.inside.numbers c.args.index
    ∙ ap (λ ns. remove ns c.args.index) c.self.view_is
