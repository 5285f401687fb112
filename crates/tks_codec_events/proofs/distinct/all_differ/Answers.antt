use Rattle.tks_codec_events.specs.Keys.{has_key}
use Rattle.tks_codec_events.proofs.Differing.{one_more, one_again}
use Rattle.tks_codec_events.proofs.distinct.all_differ.Goals as goal

pub returns-then-not-branch : goal.returns-then-not-branch
returns-then-not-branch g c =
    let key = c.args.key.now in
    one_again (g.K.Key.differ key) (g.K.Key.bytes key) (g.K.Key.IsTold key) c.requires (has_key c.loop-member.seen) c.args.members.now c.loop-member.member-index c.member-item.result c.loop-member-test.true c.member-item.is c.loop-member.invariant
    c.in_ok-add_key.ensures.told c.in_ok-add_key.field-0 c.in_ok-add_key.ensures.is_new c.if-not-branch.true

pub loop-member-preserved : goal.loop-member-preserved
loop-member-preserved g c =
    let key = c.args.key.now in
    one_more (g.K.Key.differ key) (g.K.Key.bytes key) (g.K.Key.IsTold key) c.requires (has_key c.loop-member.seen) c.args.members.now c.loop-member.member-index c.member-item.result c.loop-member-test.true c.member-item.is c.loop-member.invariant
    c.in_ok-add_key.ensures.told c.in_ok-add_key.field-0 (has_key c.add_key.new.seen) c.in_ok-add_key.ensures.is_new c.if-not-branch.false c.in_ok-add_key.ensures.kept
