use Rattle.std.proofs.Common.{take}
use Rattle.tks_bind.proofs.Grouped.{none_grouped, placed_next}
use Rattle.tks_bind.proofs.bindings.grouped.Goals as goal

pub loop-index-init : goal.loop-index-init
loop-index-init c = rw c.new-tags.ensures (λ apart. none_grouped)

pub loop-index-preserved : goal.loop-index-preserved
loop-index-preserved c = λ apart.
    let bs = c.args.bindings.now in
    let more = placed_next bs c.loop-index.index c.in_ok-binding.binding apart c.in_ok-binding.ensures in
    rw (← more) (c.in_ok-tags.ensures (take c.loop-index.index bs) (c.loop-index.invariant apart))
