use Rattle.std.proofs.Common.{◌≡◌, ◌+◌, ◌≤◌, ◌++◌, length, take, drop, map, ap, ◌∙◌, append_assoc, arith}
use Rattle.std.proofs.lemmas.List.{length-take-le}
use Rattle.tks_lines.specs.Ranges.{moved}
use Rattle.tks_lines.proofs.Apart.{front_back}
use Rattle.tks_lines.proofs.range_list.put_and_move.Goals as goal

pub returns-clause-ok : goal.returns-clause-ok
returns-clause-ok c =
    let old = c.args.ranges.now.items in
    let more = c.unless_empty-more.result.now in
    let n = c.args.from + length more in
    let inside : c.args.from ≤ length old = omega arith in
    let counts : n ≡ length (take c.args.from old) + length more = omega (arith, length-take-le c.args.from old inside) in
    let parts = front_back n (take c.args.from old) more c.put.new.ranges.items (drop c.args.to old) c.in_ok-put.ensures.ok counts in
    let move = map (moved c.args.place c.args.behind) in
    c.move_behind.ensures
    ∙ ap (λ rs. rs ++ move (drop n c.put.new.ranges.items)) parts.0
    ∙ ap (λ rs. (take c.args.from old ++ more) ++ move rs) parts.1
    ∙ append_assoc (take c.args.from old) more (move (drop c.args.to old))
    ∙ ap (λ rs. take c.args.from old ++ (rs ++ move (drop c.args.to old))) c.unless_empty-more.ensures
