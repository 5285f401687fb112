use Rattle.std.proofs.Common.{None}
use Rattle.std.proofs.lemmas.Result.{err_from_is_err_and}
use Rattle.tks_spelling.specs.Spelling.{last_of, members_at}
use Rattle.tks_spelling.proofs.Loop.{last_is, goes_on, ends, is_done}
use Rattle.tks_spelling.proofs.member.members_of.Goals as goal

pub returns-in_err-member : goal.returns-in_err-member
returns-in_err-member g c =
    let m = g.F.Following.member c.args.following.now in
    let p = err_from_is_err_and c.from_residual.result c.from_residual.ensures.1 in
    rw (p.1, p.2) (ends m c.in_err-member.field-0.0 (last_of None c.loop.members) c.loop.members c.args.count c.loop.counter c.loop.rest.now (members_at m None c.args.count c.args.bytes.now) c.loop-test.true (rw (← c.as_slice.ensures.value) c.in_err-member.ensures) c.loop.invariant)

pub loop-preserved : goal.loop-preserved
loop-preserved g c =
    let m = g.F.Following.member c.args.following.now in
    rw (c.in_ok-push.ensures.ok, last_is None c.loop.members c.in_ok-member.member) (goes_on m (last_of None c.loop.members) c.loop.members c.args.count c.loop.counter c.loop.rest.now c.in_ok-member.member c.in_ok-member.after.now (members_at m None c.args.count c.args.bytes.now) c.loop-test.true (rw (← c.as_slice.ensures.value) c.in_ok-member.ensures) c.loop.invariant)

pub returns : goal.returns
returns g c =
    let m = g.F.Following.member c.args.following.now in
    is_done m (last_of None c.loop.members) c.loop.members c.args.count c.loop.counter c.loop.rest.now (members_at m None c.args.count c.args.bytes.now) c.loop-test.false c.loop.invariant
