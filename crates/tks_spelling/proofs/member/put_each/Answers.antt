use Rattle.std.proofs.Common.{None, take}
use Rattle.std.proofs.lemmas.Result.{err_from_is_err_and}
use Rattle.tks_spelling.specs.Spelling.{members}
use Rattle.tks_spelling.proofs.Loop.{one_put, one_holds, one_of_all}
use Rattle.tks_spelling.proofs.Puts.{put_refused}
use Rattle.tks_spelling.proofs.member.put_each.Goals as goal

pub returns-in_err-put-clause-puts : goal.returns-in_err-put-clause-puts
returns-in_err-put-clause-puts g c =
    let s = g.M.Members.spelling c.args.members.now in
    let p = err_from_is_err_and c.from_residual.result c.from_residual.ensures.1 in
    rw p.1 (put_refused c.args.out.now.items (members (λ before. s) None (take c.loop-x.x-index c.args.xs.now)) c.loop-x.out.items c.put.new.out.items c.loop-x.invariant.0 c.in_err-put.ensures.puts)

pub put-requires : goal.put-requires
put-requires g c = one_of_all (g.M.Members.IsSound c.args.members.now) c.args.xs.now c.loop-x.x-index c.x-item.result c.loop-x-test.true c.x-item.is c.requires

pub loop-x-preserved : goal.loop-x-preserved
loop-x-preserved g c =
    let s = g.M.Members.spelling c.args.members.now in
    let xs = c.args.xs.now in
    let i = c.loop-x.x-index in
    let x = c.x-item.result in (
      one_put (λ before. s) xs i x c.args.out.now.items c.loop-x.out.items c.put.new.out.items c.loop-x-test.true c.x-item.is c.loop-x.invariant.0 c.in_ok-put.ensures.puts,
      one_holds s.Legal xs i x c.loop-x-test.true c.x-item.is c.loop-x.invariant.1 c.in_ok-put.ensures.legal,
    )
