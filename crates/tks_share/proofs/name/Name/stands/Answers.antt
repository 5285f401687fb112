use Rattle.std.proofs.Common.{rules, ◌<◌, subst}
use Rattle.tks_share.specs.Names.{IsBytes, head_of}
use Rattle.tks_share.proofs.Heads.{comes_before, comes_behind}
use Rattle.tks_share.proofs.name.Name.stands.Goals as goal

pub returns-then-sought-self : goal.returns-then-sought-self
returns-then-sought-self c =
    let xs = c.args.sought.now in
    let ys = c.args.self.now in
    let sought = subst IsBytes c.sought.view_is c.sought.invariant.1 in
    let own = subst IsBytes c.self.view_is c.self.invariant.1 in
    let less : head_of xs < head_of ys = search rules in
    comes_before xs ys sought own less

pub returns-then-sought-self-2 : goal.returns-then-sought-self-2
returns-then-sought-self-2 c =
    let xs = c.args.sought.now in
    let ys = c.args.self.now in
    let sought = subst IsBytes c.sought.view_is c.sought.invariant.1 in
    let own = subst IsBytes c.self.view_is c.self.invariant.1 in
    let more : head_of ys < head_of xs = search rules in
    comes_behind xs ys sought own more
