use Rattle.std.proofs.Common.{◌++◌, ap, ◌∙◌, option_copied, option_to_list}
use Rattle.tks_share.specs.Names.{order, behind}
use Rattle.tks_share.specs.Tree.{front}
use Rattle.tks_share.proofs.AtFork.{opened, side, sorted_left, sorted_right, behind_left, behind_right, front_before}
use Rattle.tks_share.proofs.names.after.Goals as goal

pub loop-part-preserved-in-Less : goal.loop-part-preserved-in-Less
loop-part-preserved-in-Less g c = λ all_sorted.
    let name = c.args.name.now in
    let f = c.as_ref-fork.result.now in
    let is = opened c.part.inside.root c.in-Some.root f c.loop-part.part.now c.part.view_is c.in-Some.is c.as_ref-fork.ensures in
    let at = side name f.item.0 c.get.result.now _ _ c.in-Less.is c.stands.ensures c.get.ensures in
    let so_far = c.loop-part.invariant all_sorted in
    let nearest = option_to_list (option_copied c.loop-part.nearest) in (
      sorted_left f _ is name so_far.0,
      so_far.1 ∙ ap (λ es. front (es ++ nearest)) (behind_left f _ is name at so_far.0) ∙ front_before (behind name f.left) f.right nearest f.item,
    )

pub loop-part-preserved : goal.loop-part-preserved
loop-part-preserved g c = λ all_sorted.
    let name = c.args.name.now in
    let f = c.as_ref-fork.result.now in
    let is = opened c.part.inside.root c.in-Some.root f c.loop-part.part.now c.part.view_is c.in-Some.is c.as_ref-fork.ensures in
    let so_far = c.loop-part.invariant all_sorted in
    let nearest = option_to_list (option_copied c.loop-part.nearest) in
    (sorted_right f _ is name so_far.0, so_far.1 ∙ ap (λ es. front (es ++ nearest)) (behind_right f _ is name (λ less. c.in_default-stands.not-Less (c.stands.ensures ∙ ap (order name) c.get.ensures ∙ less)) so_far.0))
