use Rattle.std.proofs.Common.{◌≡◌, get_or, sym, ◌∙◌, ap, arith}
use Rattle.tks_disk.specs.DiskModel.{Images, on}
use Rattle.tks_spelling.specs.Format.{of_byte}
use Rattle.tks_journal.proofs.Openings.{short_face, shut_face, unknown_face}
use Rattle.tks_journal.proofs.front.front_of.Goals as goal

pub returns-then-len-lt2-clause-front : goal.returns-then-len-lt2-clause-front
returns-then-len-lt2-clause-front g c h = short_face (on c.args.side (g.D.Disk.view c.args.disk.now).reads) (omega (arith, c.in_ok-len.ensures.len h))

pub returns-then-gate-ne1-clause-front : goal.returns-then-gate-ne1-clause-front
returns-then-gate-ne1-clause-front g c h =
    let x = on c.args.side (g.D.Disk.view c.args.disk.now).reads in
    let h1 = c.len.ensures.honesty.0 h in
    let same = (c.len.ensures.rests h).same in
    let is : c.in_ok-gate.gate ≡ get_or x 0 0 = c.in_ok-gate.ensures.byte h1 ∙ ap (λ (i : Images). get_or (on c.args.side i) 0 0) same in
    shut_face x (omega (arith, c.in_ok-len.ensures.len h)) (λ e. c.if-gate-ne1.true (is ∙ e))

pub returns-in_default-clause-front : goal.returns-in_default-clause-front
returns-in_default-clause-front g c h =
    let x = on c.args.side (g.D.Disk.view c.args.disk.now).reads in
    let h1 = c.len.ensures.honesty.0 h in
    let h2 = c.byte_at.ensures.honesty.0 h1 in
    let same = (c.len.ensures.rests h).same in
    let same2 = (c.byte_at.ensures.rests h1).same in
    let is : c.in_ok-gate.gate ≡ get_or x 0 0 = c.in_ok-gate.ensures.byte h1 ∙ ap (λ (i : Images). get_or (on c.args.side i) 0 0) same in
    let is2 : c.in_ok-byte.byte ≡ get_or x 1 0 = c.in_ok-byte.ensures.byte h2 ∙ ap (λ (i : Images). get_or (on c.args.side i) 1 0) (same2 ∙ same) in
    unknown_face x (omega (arith, c.in_ok-len.ensures.len h)) (sym is ∙ c.if-gate-ne1.false) (ap of_byte (sym is2) ∙ sym c.of_byte.ensures ∙ c.in_default.is)
