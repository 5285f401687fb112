use Rattle.std.proofs.Common.{◌++◌, ℕ, List, None, sym, subst}
use Rattle.std.specs.List.{AllByRecursion}
use Rattle.tks_vars.specs.Table.{HasName}
use Rattle.tks_spelling.specs.Spelling.{members}
use Rattle.tks_spelling.proofs.Loop.{one_given, stays_there}
use Rattle.tks_codec_variables.specs.Table.{entry}
use Rattle.tks_codec_variables.proofs.table.put_each.Goals as goal

pub loop-name-preserved : goal.loop-name-preserved
loop-name-preserved g c =
    let s = entry (g.M.Members.spelling c.args.values.now) in
    let old = c.args.out.now.items in
    let now = c.loop-name.out.items in
    let new = c.put_entry.new.out.items in
    let value = c.in-Some.value.now in
    let e : List ℕ × g.row.X.Denot = (c.in-Some.name.now, value) in
    let rest = c.next.new.self in
    let is = c.in-Some.ensures.steps in
    let puts = c.in_ok-put_entry.ensures.puts in
    let legal = c.in_ok-put_entry.ensures.legal in
    record {
      names = (subst (AllByRecursion HasName) is c.loop-name.invariant.names).1;
      there = stays_there old now (s.write e) new c.loop-name.invariant.there puts;
      all = one_given s now new (old ++ members (λ before. s) None c.args.entries) c.loop-name.name-iterator e rest is puts c.loop-name.invariant.all;
      legal = λ h. c.loop-name.invariant.legal (subst (AllByRecursion s.Legal) (sym is) (legal, h));
    }
