use Rattle.std.proofs.Common.{◌++◌, sym, ap, subst, ◌∙◌, arith}
use Rattle.tks_share.specs.Lists.{IsParted, leading}
use Rattle.tks_share.proofs.InLine.{between, ends_ahead, goes_behind, none_behind, parted_behind, parted_ahead, all_ahead}
use Rattle.tks_share.proofs.line.partition_point.Goals as goal

pub returns-then-ahead-count-clause-place : goal.returns-then-ahead-count-clause-place
returns-then-ahead-count-clause-place g c = λ p says parted.
    let f = c.line.inside.front in
    let m = c.line.inside.middle in
    let b = c.line.inside.back in
    let ahead = c.accepted-ahead.ensures.place p says in
    ahead ∙ sym (ends_ahead p f (m ++ b) (omega (arith, c.if-ahead-count.true, ahead, c.count.ensures))) ∙ ap (leading p) c.line.view_is

pub returns-then-behind-gt0-clause-place : goal.returns-then-behind-gt0-clause-place
returns-then-behind-gt0-clause-place g c = λ p says parted.
    let f = c.line.inside.front in
    let m = c.line.inside.middle in
    let b = c.line.inside.back in
    let is = sym c.line.view_is in
    let ahead = c.accepted-ahead.ensures.place p says in
    let behind = c.accepted-behind.ensures.place p says in
    let rest = parted_behind p f (m ++ b) (subst (IsParted p) is parted) in
    let first = goes_behind p f (m ++ b) (omega (arith, c.if-ahead-count.false, ahead, c.count.ensures)) in
    let second = goes_behind p m b (all_ahead p m b rest (omega (arith, c.if-behind-gt0.true, behind))) in
    omega (arith, ap (leading p) is, first, second, ahead, behind, c.accepted-ahead.ensures.within, c.if-ahead-count.false, c.count.ensures, c.count-then-behind-gt0.ensures, between f m b _ is c.requires.fits)

pub returns-clause-place : goal.returns-clause-place
returns-clause-place g c = λ p says parted.
    let f = c.line.inside.front in
    let m = c.line.inside.middle in
    let b = c.line.inside.back in
    let is = sym c.line.view_is in
    let ahead = c.accepted-ahead.ensures.place p says in
    let behind = c.accepted-behind.ensures.place p says in
    let rest = parted_behind p f (m ++ b) (subst (IsParted p) is parted) in
    let first = goes_behind p f (m ++ b) (omega (arith, c.if-ahead-count.false, ahead, c.count.ensures)) in
    let second = none_behind p m b (omega (arith, c.if-behind-gt0.false, behind)) in
    let middle = c.partition_point.ensures.place p says (parted_ahead p m b rest) in
    omega (arith, ap (leading p) is, first, second, ahead, middle, c.accepted-ahead.ensures.within, c.if-ahead-count.false, c.count.ensures)
