use Rattle.std.proofs.Common.{◌≡◌, true}
use Rattle.tks_bind.specs.WellFormed.{are_bindings}
use Rattle.tks_bind.proofs.Forming.{apart}
use Rattle.tks_bind.proofs.bindings.Bindings.restore.Goals as goal

pub placed-requires : goal.placed-requires
placed-requires c =
    let formed : are_bindings c.args.next c.in_ok-bindings.bindings ≡ true = rw c.in_ok-bindings.ensures c.requires.formed in
    apart c.args.next c.in_ok-bindings.bindings formed

pub invariant_of-result : goal.invariant_of-result
invariant_of-result c =
    let formed : are_bindings c.args.next c.in_ok-bindings.bindings ≡ true = rw c.in_ok-bindings.ensures c.requires.formed in
    record {
      bindings = record { next = c.requires.small; bindings = formed };
      tags = c.in_ok-tags.ensures (apart c.args.next c.in_ok-bindings.bindings formed);
      places = c.in_ok-places.ensures;
    }
