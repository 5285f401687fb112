use Rattle.std.proofs.Common.{ℕ, rules, refl, sym, ◌∙◌}
use Rattle.tks_desk.specs.Answers.{drain_ended}
use Rattle.tks_desk.specs.Draining.{WritesOn}
use Rattle.tks_desk.proofs.Drained.{drained_part, failed_part, kept, on_from}
use Rattle.tks_desk.proofs.running.answer_drain.Goals as goal

pub returns-then-has_failed : goal.returns-then-has_failed
returns-then-has_failed g c =
    failed_part g.T.AppMeaning.meaning g.D.Disk.honest g.D.Disk.view g.D.Disk.failures c.args.turns c.args.session.now (g.W.Write.contents c.args.writer.now) (sym c.has_failed.ensures ∙ c.if-has_failed.true)

pub returns : goal.returns
returns g c =
    let told = c.drain-drained.new.tell in
    let drained = c.drain-drained.ensures.drained in
    let writer_name = kept g.T.AppMeaning.meaning g.D.Disk.honest g.D.Disk.view g.D.Disk.failures c.args.turns {N = ℕ} (λ p. p.0.ghost_name) (λ p reply q is. search rules) drained in
    let writing_name = kept g.T.AppMeaning.meaning g.D.Disk.honest g.D.Disk.view g.D.Disk.failures c.args.turns {N = ℕ} (λ p. p.1.ghost_name) (λ p reply q is. search rules) drained in
    let writes : WritesOn told.1.now c.end_drain.result (g.W.Write.contents told.0.now) (g.W.Write.contents c.end_drain.new.writer) (drain_ended c.drain-drained.result.ended c.drain-drained.result.turns) =
    on_from g.W.Write.contents _ _ _ (c.writing-2-1.given.1 (sym writing_name)) (c.writer-1.given.1 (sym writer_name)) c.end_drain.ensures in
    drained_part g.T.AppMeaning.meaning g.D.Disk.honest g.D.Disk.view g.D.Disk.failures c.args.turns c.args.session.now c.drain-drained.new.self (g.W.Write.contents c.args.writer.now) _ _
    _ (λ p. (p.1.now, g.W.Write.contents p.0.now)) _ told _ _ _ c.end_drain.result (sym c.has_failed.ensures ∙ c.if-has_failed.false) c.stands.ensures.images g.met.D.Disk.only_now
    (λ p reply q is. search rules) refl refl c.drain-drained.ensures.drained writes
