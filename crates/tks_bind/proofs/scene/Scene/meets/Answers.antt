use Rattle.std.proofs.Common.{rules, ◌≡◌, false}
use Rattle.tks_event.specs.Kinds.{is_virtual}
use Rattle.tks_bind.proofs.Finding.{occurs_so}
use Rattle.tks_bind.proofs.Noting.{same_decided}
use Rattle.tks_bind.proofs.scene.Scene.meets.Goals as goal

pub returns-else-is_virtual : goal.returns-else-is_virtual
returns-else-is_virtual c =
    let physical : is_virtual c.args.self.now.event.now.kind ≡ false = search rules in
    rw (physical, ← c.as_slice.ensures) (same_decided c.occurs.result _ c.occurs.ensures (occurs_so c.as_slice.result.now c.args.self.now.history.now))
