use Rattle.std.proofs.Common.{arith}
use Rattle.tks_codec_events.proofs.Waiting.{read_events}
use Rattle.tks_codec_events.proofs.history.history_of.Goals as goal

pub restore-requires-clause-legal : goal.restore-requires-clause-legal
restore-requires-clause-legal c = rw c.into_items.ensures (read_events c.args.bytes.now c.in_ok-events.events c.in_ok-events.rest.now (λ i. omega (arith, c.type_inv.bytes i)) c.in_ok-events.ensures)
