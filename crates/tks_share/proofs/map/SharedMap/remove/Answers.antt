use Rattle.std.proofs.Common.{◌≡◌, true, false, rules, arith}
use Rattle.std.specs.FinMap as fin
use Rattle.tks_share.proofs.Mapped.{sorted_out, removed, one_fewer, nothing_out}
use Rattle.tks_share.proofs.map.SharedMap.remove.Goals as goal

pub returns-then-not-contains-clause-ok : goal.returns-then-not-contains-clause-ok
returns-then-not-contains-clause-ok g c =
    let out : fin.contains_key c.args.self.now c.args.name.now ≡ false = search rules in
    nothing_out c.self.inside.tree c.args.self.now c.self.view_is c.self.invariant.0 c.args.name.now out

pub overflow_sub-self : goal.overflow_sub-self
overflow_sub-self g c =
    let there : fin.contains_key c.args.self.now c.args.name.now ≡ true = search rules in
    let fewer = one_fewer c.self.inside.tree c.args.self.now c.self.view_is c.self.invariant.0 c.args.name.now c.remove.new.tree c.self.inside.len c.self.invariant.1 there (rw c.new.ensures at c.in_ok-remove.ensures.ok c.self.invariant.0) in
    omega (arith, fewer.0)

pub invariant_of-self-2 : goal.invariant_of-self-2
invariant_of-self-2 g c =
    let there : fin.contains_key c.args.self.now c.args.name.now ≡ true = search rules in
    let out = rw c.new.ensures at c.in_ok-remove.ensures.ok c.self.invariant.0 in
    let fewer = one_fewer c.self.inside.tree c.args.self.now c.self.view_is c.self.invariant.0 c.args.name.now c.remove.new.tree c.self.inside.len c.self.invariant.1 there out in (
      sorted_out c.self.inside.tree c.args.self.now c.self.view_is c.self.invariant.0 c.args.name.now c.remove.new.tree out,
      fewer.1,
      omega (arith, fewer.0, fewer.1, c.self.invariant.1, c.self.invariant.2),
    )

pub returns-clause-ok : goal.returns-clause-ok
returns-clause-ok g c =
    removed c.self.inside.tree c.args.self.now c.self.view_is c.self.invariant.0 c.args.name.now c.remove.new.tree (rw c.new.ensures at c.in_ok-remove.ensures.ok c.self.invariant.0)
