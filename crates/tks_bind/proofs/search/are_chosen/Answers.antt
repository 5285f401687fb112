use Rattle.std.proofs.Common.{rules, ◌≡◌, ◌-◌, ◌+◌, length, drop, Some, sym, subst, ◌∙◌, arith}
use Rattle.tks_bind.specs.Search.{Tells}
use Rattle.tks_bind.proofs.Members.{drop_next}
use Rattle.tks_bind.proofs.Noting.{stands_at, past_end, row_told, occurs_by}
use Rattle.tks_bind.proofs.search.are_chosen.Goals as goal

pub loop-at-init : goal.loop-at-init
loop-at-init c =
    let p = c.index-sequence-at.result in
    let at = length c.args.sequence.now - 1 in (
      p,
      stands_at c.args.sequence.now at p (omega (arith, c.requires.patterns)) c.index-sequence-at.is,
      omega (arith, c.requires.patterns),
      subst (λ rest. Tells c.last_row-row.result p rest c.args.history.now) (sym (past_end c.args.sequence.now (at + 1) (omega arith))) c.last_row-row.ensures,
    )

pub loop-at-preserved : goal.loop-at-preserved
loop-at-preserved c =
    let at = c.loop-at.at in
    let p = c.loop-at.invariant.0 in
    let q = c.index-sequence-at-in-loop-at-2.result in
    let later = c.index-sequence-at-in-loop-at.result in
    let within = c.loop-at.invariant.2 in
    let stands = stands_at c.args.sequence.now at later within c.index-sequence-at-in-loop-at.is in
    let same : p ≡ later = (let g : Some p ≡ Some later = sym c.loop-at.invariant.1 ∙ stands in cc) in
    let told = subst (λ x. Tells c.loop-at.row x (drop (at + 1) c.args.sequence.now) c.args.history.now) same c.loop-at.invariant.3 in
    let next = row_told q later c.args.history.now c.loop-at.row c.row_before-row.result (drop (at + 1) c.args.sequence.now) told c.row_before-row.ensures in
    let rest = drop_next c.args.sequence.now at later within c.index-sequence-at-in-loop-at.is in
    let back : at - 1 + 1 ≡ at = omega arith in (
      q,
      stands_at c.args.sequence.now (at - 1) q (omega (arith, within)) c.index-sequence-at-in-loop-at-2.is,
      omega (arith, within),
      subst (λ n. Tells c.row_before-row.result q (drop n c.args.sequence.now) c.args.history.now) (sym back) (subst (λ ps. Tells c.row_before-row.result q ps c.args.history.now) (sym rest) next),
    )

pub returns : goal.returns
returns c =
    let first : c.loop-at.at ≡ 0 = search rules in
    let inv = c.loop-at.invariant in
    let told = subst (λ n. Tells c.loop-at.row inv.0 (drop (n + 1) c.args.sequence.now) c.args.history.now) first inv.3 in
    occurs_by c.loop-at.row c.args.sequence.now inv.0 c.args.history.now c.is_any.result (rw (← first) inv.1) told c.is_any.ensures
