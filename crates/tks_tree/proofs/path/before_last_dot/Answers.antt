use Rattle.std.proofs.Common.{rules, ◌≡◌, false, ap, sym, ◌∙◌}
use borrow.Author.Tests.{tests}
use Rattle.tks_tree.specs.Path.{is_dot}
use Rattle.tks_tree.proofs.Paths.{dot_last, no_dot_last}
use Rattle.tks_tree.proofs.path.before_last_dot.Goals as goal

pub returns-then-byte-eq46 : goal.returns-then-byte-eq46
returns-then-byte-eq46 c =
    sym (dot_last c.loop-byte.front.now c.in-Some.before.now c.in-Some.byte.now c.in-Some.ensures.cases.0 (ap is_dot c.if-byte-eq46.true)) ∙ c.loop-byte.invariant

pub loop-byte-preserved : goal.loop-byte-preserved
loop-byte-preserved c =
    let other : is_dot c.in-Some.byte.now ≡ false = search (rules, tests) in
    sym (no_dot_last c.loop-byte.front.now c.in-Some.before.now c.in-Some.byte.now c.in-Some.ensures.cases.0 other) ∙ c.loop-byte.invariant
