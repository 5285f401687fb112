use Rattle.std.proofs.Common.{take}
use Rattle.tks_codec_events.specs.Keys.{has_key}
use Rattle.tks_codec_events.proofs.Differing.{AreSeen}
use Rattle.tks_codec_events.proofs.distinct.all_differ.Given as goal

-- those so far differ, and their keys were seen
abbrev pub invariant-loop-member : goal.invariant-loop-member
invariant-loop-member g l = AreSeen (g.K.Key.differ l.key) (g.K.Key.bytes l.key) (g.K.Key.IsTold l.key) (has_key l.seen) (take l.member-index l.members)
