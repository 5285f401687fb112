use Rattle.std.proofs.Common.{◌≡◌, true}
use Rattle.tks_bind.specs.WellFormed.{are_virtuals, AreVirtuals}
use Rattle.tks_bind.proofs.virtuals.Virtuals.restore.Goals as goal

pub placed-requires : goal.placed-requires
placed-requires c =
    let names : are_virtuals c.in_ok-events.events ≡ true = rw c.in_ok-events.ensures c.requires.names in
    names

pub invariant_of-result : goal.invariant_of-result
invariant_of-result c =
    let formed : AreVirtuals c.in_ok-events.events = rw c.in_ok-events.ensures (record { names = c.requires.names; legal = c.requires.legal }) in
    record { events = formed; groups = c.in_ok-groups.ensures formed.names; names = c.in_ok-names.ensures }
