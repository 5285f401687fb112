use Rattle.std.proofs.Common.{◌++◌, None, sym, subst}
use Rattle.std.specs.List.{AllByRecursion}
use Rattle.tks_spelling.specs.Spelling.{members}
use Rattle.tks_spelling.proofs.Loop.{one_given, stays_there}
use Rattle.tks_spelling.proofs.items.put_each_item.Goals as goal

pub loop-x-preserved : goal.loop-x-preserved
loop-x-preserved g c =
    let s = g.M.Members.spelling c.args.members.now in
    let old = c.args.out.now.items in
    let x = c.in-Some.x.now in
    let rest = c.next.new.self in
    let is = c.in-Some.ensures.steps in
    record {
      sound = (subst (AllByRecursion (g.M.Members.IsSound c.args.members.now)) is c.loop-x.invariant.sound).1;
      there = stays_there old c.loop-x.out.items (s.write x) c.put.new.out.items c.loop-x.invariant.there c.in_ok-put.ensures.puts;
      all = one_given s c.loop-x.out.items c.put.new.out.items (old ++ members (λ before. s) None c.args.items) c.loop-x.x-iterator x rest is c.in_ok-put.ensures.puts c.loop-x.invariant.all;
      legal = λ h. c.loop-x.invariant.legal (subst (AllByRecursion s.Legal) (sym is) (c.in_ok-put.ensures.legal, h));
    }

pub put-requires : goal.put-requires
put-requires g c = (subst (AllByRecursion (g.M.Members.IsSound c.args.members.now)) c.in-Some.ensures.steps c.loop-x.invariant.sound).0
