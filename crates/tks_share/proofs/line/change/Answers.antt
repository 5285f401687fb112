use Rattle.std.proofs.Common.{◌≡◌, ◌-◌, ◌<◌, ◌≤◌, ◌++◌, length, sym, ap, ◌∙◌, arith}
use Rattle.std.specs.Prelude.{slice_get, slice_set}
use Rattle.tks_share.proofs.AtFork.{some_through, none_through}
use Rattle.tks_share.proofs.InLine.{fits_between, between, got_ahead, got_between, got_behind, set_ahead, set_between, set_behind}
use Rattle.tks_share.proofs.line.change.Goals as goal

pub returns-then-index-ahead-clause-some : goal.returns-then-index-ahead-clause-some
returns-then-index-ahead-clause-some g c =
    let f = c.line.inside.front in
    let m = c.line.inside.middle in
    let b = c.line.inside.back in
    let is = sym c.line.view_is in
    let i = c.args.index in
    let h : c.args.index < length f = omega (arith, c.if-index-ahead.true, c.count-ahead.ensures) in
    some_through _ _ c.change.result (λ answer was.
    record {
      before = was.before;
      after = was.after;
      found = got_ahead f m b _ is i h ∙ was.found;
      given = was.given;
      now = ap (λ t. t ++ (m ++ b)) was.now ∙ set_ahead f m b _ is i was.after h;
    }) c.change.ensures.some

pub returns-then-index-ahead-clause-none : goal.returns-then-index-ahead-clause-none
returns-then-index-ahead-clause-none g c =
    let f = c.line.inside.front in
    let m = c.line.inside.middle in
    let b = c.line.inside.back in
    let is = sym c.line.view_is in
    let h : c.args.index < length f = omega (arith, c.if-index-ahead.true, c.count-ahead.ensures) in
    none_through _ _ c.change.result (λ told.
    (ap (λ t. t ++ (m ++ b)) told.0 ∙ c.line.view_is, got_ahead f m b _ is c.args.index h ∙ told.1)) c.change.ensures.none

pub returns-then-index-ahead-2-clause-some : goal.returns-then-index-ahead-2-clause-some
returns-then-index-ahead-2-clause-some g c =
    let f = c.line.inside.front in
    let m = c.line.inside.middle in
    let b = c.line.inside.back in
    let is = sym c.line.view_is in
    let i = c.args.index in
    let h : length f ≤ c.args.index = omega (arith, c.if-index-ahead.false, c.count-ahead.ensures) in
    let k : c.args.index - length f < length m = omega (arith, c.if-index-ahead-2.true, c.count-ahead.ensures, c.count-between.ensures, between f m b _ is c.requires) in
    some_through _ _ c.change-then-index-ahead-2.result (λ answer told.
    let was = told (fits_between f m b _ is c.requires) in
    record {
      before = was.before;
      after = was.after;
      found = got_between f m b _ is i h k ∙ ap (λ n. slice_get m (i - n)) (sym c.count-ahead.ensures) ∙ was.found;
      given = was.given;
      now = ap (λ t. f ++ (t ++ b)) (was.now ∙ ap (λ n. slice_set m (i - n) was.after) c.count-ahead.ensures) ∙ set_between f m b _ is i was.after h k;
    }) c.change-then-index-ahead-2.ensures.some

pub returns-then-index-ahead-2-clause-none : goal.returns-then-index-ahead-2-clause-none
returns-then-index-ahead-2-clause-none g c =
    let f = c.line.inside.front in
    let m = c.line.inside.middle in
    let b = c.line.inside.back in
    let is = sym c.line.view_is in
    let i = c.args.index in
    let h : length f ≤ c.args.index = omega (arith, c.if-index-ahead.false, c.count-ahead.ensures) in
    let k : c.args.index - length f < length m = omega (arith, c.if-index-ahead-2.true, c.count-ahead.ensures, c.count-between.ensures, between f m b _ is c.requires) in
    none_through _ _ c.change-then-index-ahead-2.result (λ told. (
      ap (λ t. f ++ (t ++ b)) told.0 ∙ c.line.view_is,
      got_between f m b _ is i h k ∙ ap (λ n. slice_get m (i - n)) (sym c.count-ahead.ensures) ∙ told.1 (fits_between f m b _ is c.requires),
    )) c.change-then-index-ahead-2.ensures.none

pub returns-clause-some : goal.returns-clause-some
returns-clause-some g c =
    let f = c.line.inside.front in
    let m = c.line.inside.middle in
    let b = c.line.inside.back in
    let is = sym c.line.view_is in
    let i = c.args.index in
    let h : length f ≤ c.args.index = omega (arith, c.if-index-ahead.false, c.count-ahead.ensures) in
    let many = between f m b _ is c.requires in
    let k : length m ≤ c.args.index - length f = omega (arith, c.if-index-ahead-2.false, c.count-ahead.ensures, c.count-between.ensures, many) in
    let e : c.args.index - c.count-ahead.result - c.count-between.result ≡ c.args.index - length f - length m = omega (arith, c.count-ahead.ensures, c.count-between.ensures, many) in
    some_through _ _ c.change-2.result (λ answer was.
    record {
      before = was.before;
      after = was.after;
      found = got_behind f m b _ is i h k ∙ ap (slice_get b) (sym e) ∙ was.found;
      given = was.given;
      now = ap (λ t. f ++ (m ++ t)) (was.now ∙ ap (λ n. slice_set b n was.after) e) ∙ set_behind f m b _ is i was.after h k;
    }) c.change-2.ensures.some

pub returns-clause-none : goal.returns-clause-none
returns-clause-none g c =
    let f = c.line.inside.front in
    let m = c.line.inside.middle in
    let b = c.line.inside.back in
    let is = sym c.line.view_is in
    let h : length f ≤ c.args.index = omega (arith, c.if-index-ahead.false, c.count-ahead.ensures) in
    let many = between f m b _ is c.requires in
    let k : length m ≤ c.args.index - length f = omega (arith, c.if-index-ahead-2.false, c.count-ahead.ensures, c.count-between.ensures, many) in
    let e : c.args.index - c.count-ahead.result - c.count-between.result ≡ c.args.index - length f - length m = omega (arith, c.count-ahead.ensures, c.count-between.ensures, many) in
    none_through _ _ c.change-2.result (λ told.
    (ap (λ t. f ++ (m ++ t)) told.0 ∙ c.line.view_is, got_behind f m b _ is c.args.index h k ∙ ap (slice_get b) (sym e) ∙ told.1)) c.change-2.ensures.none
