use Rattle.std.proofs.Common.{ap, sym, ◌∙◌, Some}
use Rattle.tks_share.proofs.AtFork.{opened, side, sorted_left, sorted_right, found_left, found_here, found_right}
use Rattle.tks_share.proofs.names.get.Goals as goal

pub loop-part-preserved-in-Less : goal.loop-part-preserved-in-Less
loop-part-preserved-in-Less g c = λ all_sorted.
    let f = c.as_ref-fork.result.now in
    let is = opened c.part.inside.root c.in-Some.root f c.loop-part.part.now c.part.view_is c.in-Some.is c.as_ref-fork.ensures in
    let at = side c.args.name.now f.item.0 c.get.result.now _ _ c.in-Less.is c.stands.ensures c.get.ensures in
    let so_far = c.loop-part.invariant all_sorted in
    (sorted_left f _ is c.args.name.now so_far.0, so_far.1 ∙ found_left f _ is c.args.name.now at so_far.0)

pub returns-in-Equal : goal.returns-in-Equal
returns-in-Equal g c = λ all_sorted.
    let f = c.as_ref-fork.result.now in
    let is = opened c.part.inside.root c.in-Some.root f c.loop-part.part.now c.part.view_is c.in-Some.is c.as_ref-fork.ensures in
    let at = side c.args.name.now f.item.0 c.get.result.now _ _ c.in-Equal.is c.stands.ensures c.get.ensures in
    let so_far = c.loop-part.invariant all_sorted in
    ap (λ v. Some v) c.get-in-Equal.ensures ∙ sym (so_far.1 ∙ found_here f _ is c.args.name.now at so_far.0)

pub loop-part-preserved : goal.loop-part-preserved
loop-part-preserved g c = λ all_sorted.
    let f = c.as_ref-fork.result.now in
    let is = opened c.part.inside.root c.in-Some.root f c.loop-part.part.now c.part.view_is c.in-Some.is c.as_ref-fork.ensures in
    let at = side c.args.name.now f.item.0 c.get.result.now _ _ c.in-Greater.is c.stands.ensures c.get.ensures in
    let so_far = c.loop-part.invariant all_sorted in
    (sorted_right f _ is c.args.name.now so_far.0, so_far.1 ∙ found_right f _ is c.args.name.now at so_far.0)
