use Rattle.std.proofs.Common.{◌≡◌, ◌+◌, ◌≤◌, ◌∷◌, [], ◌++◌, take, length, ap, subst, ◌∙◌, arith, length-take-le}
use Rattle.std.proofs.lemmas.List.{take_more}
use Rattle.std.specs.Io.KnownBytes.{Consumes}
use Rattle.std.specs.Io.BufRead.{FillKeeps}
use Rattle.std.proofs.BufReadLemmas.{Consumes_shown}
use Rattle.tks_desk.specs.Reading.{LineGrows}
use Rattle.tks_desk.proofs.input.take_piece.Goals as goal

-- the part and its newline
pub returns-then-is_ended-clause-taken : goal.returns-then-is_ended-clause-taken
returns-then-is_ended-clause-taken g c =
    let shown = c.in-Ok.shown.now in
    let n = c.front_of_line-length.result.0 in
    let front = c.front_of_line-length.ensures in
    let newline = front.newline c.if-is_ended.true in
    let within : n + 1 ≤ length shown = omega (arith, newline.0) in
    let filled = subst (FillKeeps _ _ _) c.in-Ok.is c.fill_buf.follows.holds-at-none in
    let moved = Consumes_shown _ _ _ _ shown (n + 1) within c.in-Ok.ensures.front c.in-Ok.ensures.end filled.0 filled.1 c.consume.ensures.bytes in
    let whole : take (n + 1) shown ≡ take n shown ++ 10 ∷ [] = take_more shown n 0 newline.0 ∙ ap (λ b. take n shown ++ b ∷ []) newline.2 in
    let grows : LineGrows c.args.line.now c.grow.new.self (take n shown) = grind (arith, c.in_ok-grow.ensures.grows) in (
      take n shown,
      grows,
      front.before,
      subst (Consumes _ _) whole moved.0,
      omega (arith, length-take-le n shown front.within, newline.1),
    )

pub returns-clause-taken : goal.returns-clause-taken
returns-clause-taken g c =
    let shown = c.in-Ok.shown.now in
    let n = c.front_of_line-length.result.0 in
    let front = c.front_of_line-length.ensures in
    let filled = subst (FillKeeps _ _ _) c.in-Ok.is c.fill_buf.follows.holds-at-none in
    let moved = Consumes_shown _ _ _ _ shown n front.within c.in-Ok.ensures.front c.in-Ok.ensures.end filled.0 filled.1 c.consume-2.ensures.bytes in
    let grows : LineGrows c.args.line.now c.grow.new.self (take n shown) = grind (arith, c.in_ok-grow.ensures.grows) in (
      take n shown,
      grows,
      front.before,
      moved.0,
      omega (arith, length-take-le n shown front.within),
    )
