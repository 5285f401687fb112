use Rattle.std.proofs.Common.{rules, ◌≤◌, take, length, subst, arith, length-take-le}
use Rattle.std.specs.Io.BufRead.{FillKeeps}
use Rattle.std.proofs.BufReadLemmas.{Consumes_shown}
use Rattle.tks_desk.proofs.loading.try_newline.Goals as goal

pub returns-then-eq-2-clause-pays : goal.returns-then-eq-2-clause-pays
returns-then-eq-2-clause-pays g c =
    let shown = c.in-Ok.shown.now in
    let within : 1 ≤ length shown = search rules in
    let filled = subst (FillKeeps _ _ _) c.in-Ok.is c.fill_buf.follows.holds-at-none in
    let moved = Consumes_shown _ _ _ _ shown 1 within c.in-Ok.ensures.front c.in-Ok.ensures.end filled.0 filled.1 c.consume.ensures.bytes in
    (take 1 shown, moved.0, omega (arith, length-take-le 1 shown within, c.requires))
