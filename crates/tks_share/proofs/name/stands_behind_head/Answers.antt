use Rattle.std.proofs.Common.{rules, ◌≡◌, sym, ◌∙◌, true, nat_eq}
use Rattle.std.proofs.lemmas.Map.Text.{is_eq-slice_cmp}
use Rattle.std.specs.Cmp.{Equal-is}
use Rattle.std.specs.Cmp.Lexicographic.{pointwise}
use Rattle.tks_share.specs.Names.{order, IsBytes}
use Rattle.tks_share.proofs.Heads.{ends_first, ends_last}
use Rattle.tks_share.proofs.name.stands_behind_head.Goals as goal
use Rattle.tks_share.proofs.name.stands_behind_head.Goals.{then-sought-le-HEAD_LEN-via-then-sought-le-HEAD_LEN, then-sought-le-HEAD_LEN-via-else-sought-le-HEAD_LEN+then-name-le-HEAD_LEN}

pub returns-then-sought-le-HEAD_LEN : goal.returns-then-sought-le-HEAD_LEN
returns-then-sought-le-HEAD_LEN c =
    let xs = c.args.sought.now in
    let ys = c.args.name.now in
    let sought : IsBytes xs = search rules in
    let own : IsBytes ys = search rules in
    c.cmp.ensures ∙ elim c.then-sought-le-HEAD_LEN.branch [
      | then-sought-le-HEAD_LEN-via-then-sought-le-HEAD_LEN w ↦ ends_first xs ys sought own c.requires w.if-sought-le-HEAD_LEN.true
      | then-sought-le-HEAD_LEN-via-else-sought-le-HEAD_LEN+then-name-le-HEAD_LEN w ↦ ends_last xs ys sought own c.requires w.if-name-le-HEAD_LEN.true
    ]

pub returns-then-eq : goal.returns-then-eq
returns-then-eq c =
    let same : pointwise nat_eq c.args.sought.now c.args.name.now ≡ true = search rules in
    sym ((Equal-is (order c.args.sought.now c.args.name.now)).0 (is_eq-slice_cmp c.args.sought.now c.args.name.now ∙ same))
