use Rattle.std.proofs.Common.{rules, ◌≡◌, ◌-◌, ◌<◌, [], length, drop, set, get_or, replicate, Some, None, sym, ap, subst, ◌∙◌, suc, arith}
use Rattle.std.proofs.Math.ListN.{drop_of_length-le}
use Rattle.tks_tree.specs.WellFormed.{WellFormed}
use Rattle.tks_tree.specs.Links.{firsts_from}
use Rattle.tks_tree.proofs.Links.{nexts_known, none_known, none_first, as_many_parents, as_many_firsts, parent_inside, as_before, none_beside, now_first, now_beside}
use Rattle.tks_tree.proofs.tree.Tree.links.Goals.{In-Some}
use Rattle.tks_tree.proofs.tree.Tree.links.Goals as goal

pub loop-left-init : goal.loop-left-init
loop-left-init c =
    let ws = c.args.self.now.windows in
    let n = length c.args.parents.now in
    let as_many : n ≡ length ws = ap length c.requires ∙ as_many_parents ws in
    let none : drop n ws ≡ [] = drop_of_length-le ws (omega (arith, as_many)) in
    record {
      first = c.in_ok-first.ensures ∙ ap (λ k. replicate k None) as_many ∙ sym (none_first ws n) ∙ ap (λ l. firsts_from ws l n) (sym none);
      next = c.in_ok-next.ensures ∙ sym (none_known n) ∙ ap (λ l. nexts_known l n) (sym none);
      within = omega (arith, as_many);
    }

-- a parent is one of the windows
parent_stands : (c : In-Some) → c.in-Some.parent < length c.loop-left.first.items
parent_stands c =
    let ws = c.args.self.now.windows in
    let left = c.loop-left.left in
    let k = left - 1 in
    let below : k < length ws = omega (arith, c.loop-left.invariant.within, c.loop-left-test.true) in
    let some : get_or c.args.parents.now k None ≡ Some c.in-Some.parent = search rules in
    let there =
    parent_inside ws (subst WellFormed c.self.view_is c.self.invariant.0).founded k below (get_or c.args.parents.now k None) None (ap (λ l. get_or l k None) c.requires) c.in-Some.parent some in
    omega (arith, there, ap length c.loop-left.invariant.first ∙ as_many_firsts ws (drop left ws) left)

pub index-requires : goal.index-requires
index-requires c = omega (arith, parent_stands (goal.at.index-requires c).In-Some, c.loop-left.first.ok.0)

pub index_mut-requires-in-Some : goal.index_mut-requires-in-Some
index_mut-requires-in-Some c = omega (arith, parent_stands (goal.at.index_mut-requires-in-Some c).In-Some, c.loop-left.first.ok.0)

pub loop-left-preserved-in-Some : goal.loop-left-preserved-in-Some
loop-left-preserved-in-Some c =
    let t = c.args.self.now in
    let ws = t.windows in
    let founded = (subst WellFormed c.self.view_is c.self.invariant.0).founded in
    let left = c.loop-left.left in
    let k = left - 1 in
    let parent = c.in-Some.parent in
    let beside = c.index.result.now in
    let below : k < length ws = omega (arith, c.loop-left.invariant.within, c.loop-left-test.true) in
    let last : left ≡ suc k = omega (arith, c.loop-left-test.true) in
    let is = ap (λ l. get_or l k None) c.requires in
    let some : get_or c.args.parents.now k None ≡ Some parent = search rules in
    let first = c.loop-left.invariant.first ∙ ap (λ n. firsts_from ws (drop n ws) n) last in
    let next = c.loop-left.invariant.next ∙ ap (λ n. nexts_known (drop n ws) n) last in
    record {
      first = ap (λ l. set l parent (Some k)) first ∙ now_first ws founded k below (get_or c.args.parents.now k None) None is parent some;
      next =
          ap (λ l. set l k beside) next
          ∙ now_beside ws founded k below (get_or c.args.parents.now k None) None is parent some beside beside (c.index.ensures ∙ ap (λ l. get_or l parent beside) first);
      within = omega (arith, c.loop-left.invariant.within);
    }

pub loop-left-preserved : goal.loop-left-preserved
loop-left-preserved c =
    let t = c.args.self.now in
    let ws = t.windows in
    let founded = (subst WellFormed c.self.view_is c.self.invariant.0).founded in
    let left = c.loop-left.left in
    let k = left - 1 in
    let below : k < length ws = omega (arith, c.loop-left.invariant.within, c.loop-left-test.true) in
    let last : left ≡ suc k = omega (arith, c.loop-left-test.true) in
    let is = ap (λ l. get_or l k None) c.requires in
    let none : get_or c.args.parents.now k None ≡ None = search rules in
    record {
      first =
          c.loop-left.invariant.first ∙ ap (λ n. firsts_from ws (drop n ws) n) last
          ∙ as_before ws founded k below (get_or c.args.parents.now k None) None is none;
      next =
          c.loop-left.invariant.next ∙ ap (λ n. nexts_known (drop n ws) n) last
          ∙ none_beside ws founded k below (get_or c.args.parents.now k None) None is none;
      within = omega (arith, c.loop-left.invariant.within);
    }
