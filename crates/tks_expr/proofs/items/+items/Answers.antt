use Rattle.std.proofs.Common.{◌≡◌, ◌∷◌, ◌++◌, ◌-◌, ◌+◌, [], length, reverse, rules, ap, sym, ◌∙◌, arith}
use Rattle.tks_expr.specs.Compiled.{passed, compiled}
use Rattle.tks_expr.specs.declared.items.Item.TheVariants as item
use Rattle.tks_expr.proofs.Compiled.{put_count, put_more, put_one_more}
use Rattle.tks_expr.proofs.items.+items.Goals as goal

pub put_truth-overflow_sub-result : goal.put_truth-overflow_sub-result
put_truth-overflow_sub-result t c =
    let old = c.args.items.now.items in
    let more = c.push.new.self.items in
    let new = c.put.new.items.items in
    let before : c.len-before.result ≡ length old = search rules in
    let behind : c.len.result ≡ length new = search rules in
    let one : more ≡ old ++ item.Truth ∷ [] = search rules in
    omega (arith, before, behind, put_one_more c.args.right.now item.Truth old more new one (search rules))

pub put_truth-returns-clause-count : goal.put_truth-returns-clause-count
put_truth-returns-clause-count t c =
    let old = c.args.items.now.items in
    let more = c.push.new.self.items in
    let new = c.put.new.items.items in
    let before : c.len-before.result ≡ length old = search rules in
    let behind : c.len.result ≡ length new = search rules in
    let one : more ≡ old ++ item.Truth ∷ [] = search rules in
    omega (arith, before, behind, put_one_more c.args.right.now item.Truth old more new one (search rules))

pub put_branches-overflow_sub-between : goal.put_branches-overflow_sub-between
put_branches-overflow_sub-between t c =
    let old = c.args.items.now.items in
    let last = c.put.new.items.items in
    let before : c.len-before.result ≡ length old = search rules in
    let between : c.len-between.result ≡ length last = search rules in
    omega (arith, before, between, put_count c.args.if_false.now old last (search rules))

pub put_branches-overflow_sub-len : goal.put_branches-overflow_sub-len
put_branches-overflow_sub-len t c =
    let last = c.put.new.items.items in
    let more = c.push.new.self.items in
    let first = c.put-2.new.items.items in
    let skip = item.Skip (c.len-between.result - c.len-before.result) in
    let between : c.len-between.result ≡ length last = search rules in
    let behind : c.len.result ≡ length first = search rules in
    let one : more ≡ last ++ skip ∷ [] = search rules in
    omega (arith, between, behind, put_one_more c.args.if_true.now skip last more first one (search rules))

pub put_branches-returns : goal.put_branches-returns
put_branches-returns t c =
    let old = c.args.items.now.items in
    let last = c.put.new.items.items in
    let more = c.push.new.self.items in
    let first = c.put-2.new.items.items in
    let a = c.args.if_true.now in
    let b = c.args.if_false.now in
    let skip = item.Skip (c.len-between.result - c.len-before.result) in
    let before : c.len-before.result ≡ length old = search rules in
    let between : c.len-between.result ≡ length last = search rules in
    let behind : c.len.result ≡ length first = search rules in
    let one : more ≡ last ++ skip ∷ [] = search rules in
    let last_is : reverse last ≡ compiled b (reverse old) = search rules in
    let first_is : reverse first ≡ compiled a (reverse more) = search rules in
    let skipped : c.len-between.result - c.len-before.result ≡ passed b 0 = omega (arith, before, between, put_count b old last last_is) in
    let passed_over : c.len.result - c.len-between.result ≡ passed a 1 = omega (arith, between, behind, put_one_more a skip last more first one first_is) in
    put_more (item.If (c.len.result - c.len-between.result)) first c.push-2.new.self.items (search rules)
    ∙ ap (λ n. item.If n ∷ reverse first) passed_over
    ∙ ap (λ l. item.If (passed a 1) ∷ l) (first_is ∙ ap (compiled a) (put_more skip last more one ∙ ap (λ n. item.Skip n ∷ reverse last) skipped ∙ ap (λ l. item.Skip (passed b 0) ∷ l) last_is))
