use Rattle.std.proofs.Common.{rules, ◌≡◌, ◌-◌, ◌||◌, false, get_or, slice_set, subst, arith}
use Rattle.tks_bind.specs.Search.{Joins}
use Rattle.tks_bind.proofs.Noting.{PrecedesFrom, none_yet, clear_yet, note_back, clear_back, stopped, all_noted}
use Rattle.tks_bind.proofs.search.note_before.Goals as goal

pub loop-from-init : goal.loop-from-init
loop-from-init c = record {
  within = omega arith;
  noted = none_yet c.args.earlier.now c.args.later.now c.args.history.now c.args.place c.at-event.result.now c.at-event.ensures c.args.row.now;
  clear = clear_yet c.args.earlier.now c.args.later.now c.args.history.now c.args.place c.at-event.result.now c.at-event.ensures;
  size = search rules;
}

pub returns-then-not-may_lie_before : goal.returns-then-not-may_lie_before
returns-then-not-may_lie_before c =
    let from = c.loop-from.from in
    let row = c.loop-from.row in
    let back = note_back c.args.earlier.now c.args.later.now c.args.history.now c.args.place c.at-event.result.now c.at-event.ensures row c.args.row.now from (from - 1) c.at-before.result.now (omega arith) (omega arith) (omega arith) c.at-before.ensures c.loop-from.invariant.clear c.loop-from.invariant.noted c.is_chosen.result c.is_chosen.ensures in
    stopped c.args.earlier.now c.args.later.now c.args.history.now c.args.place c.at-event.result.now c.at-event.ensures (slice_set row (from - 1) (get_or row (from - 1) false || c.is_chosen.result)) c.args.row.now (from - 1) c.at-before.result.now (omega arith) c.at-before.ensures (search rules) back

pub loop-from-preserved : goal.loop-from-preserved
loop-from-preserved c =
    let from = c.loop-from.from in
    let row = c.loop-from.row in
    record {
      within = omega arith;
      noted = note_back c.args.earlier.now c.args.later.now c.args.history.now c.args.place c.at-event.result.now c.at-event.ensures row c.args.row.now from (from - 1) c.at-before.result.now (omega arith) (omega arith) (omega arith) c.at-before.ensures c.loop-from.invariant.clear c.loop-from.invariant.noted c.is_chosen.result c.is_chosen.ensures;
      clear = clear_back c.args.earlier.now c.args.later.now c.args.history.now c.args.place c.at-event.result.now c.at-event.ensures from (from - 1) c.at-before.result.now (omega arith) c.at-before.ensures (search rules) c.loop-from.invariant.clear;
      size = search rules;
    }

pub returns : goal.returns
returns c =
    let first : c.loop-from.from ≡ 0 = search rules in
    let noted = subst (λ from. Joins c.args.row.now c.loop-from.row (λ n. PrecedesFrom c.args.earlier.now c.args.later.now c.args.history.now c.args.place from n)) first c.loop-from.invariant.noted in
    all_noted c.args.earlier.now c.args.later.now c.args.history.now c.args.place c.at-event.result.now c.at-event.ensures c.loop-from.row c.args.row.now noted
