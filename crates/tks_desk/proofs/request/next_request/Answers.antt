use Rattle.std.proofs.Common.{◌∙◌, sym}
use Rattle.tks_desk.specs.Reading.{unread}
use Rattle.tks_desk.proofs.Lines.{pays_on}
use Rattle.tks_desk.proofs.Asked.{alone_next, load_next}
use Rattle.tks_desk.proofs.request.next_request.Goals as goal

pub returns-in_err-line-clause-pays : goal.returns-in_err-line-clause-pays
returns-in_err-line-clause-pays g c = pays_on _ _ _ _ _ _ c.in_ok-pass_newline.ensures.pays c.in_err-line.ensures.pays

pub returns-in_err-request-clause-pays : goal.returns-in_err-request-clause-pays
returns-in_err-request-clause-pays g c = pays_on _ _ _ _ _ _ c.in_ok-pass_newline.ensures.pays c.in_ok-line.ensures.pays

pub returns-in-Alone-clause-pays : goal.returns-in-Alone-clause-pays
returns-in-Alone-clause-pays g c = pays_on _ _ _ _ _ _ c.in_ok-pass_newline.ensures.pays c.in_ok-line.ensures.pays

pub returns-in_err-request-in-Load-clause-pays : goal.returns-in_err-request-in-Load-clause-pays
returns-in_err-request-in-Load-clause-pays g c =
    pays_on _ _ _ _ _ _ (pays_on _ _ _ _ _ _ c.in_ok-pass_newline.ensures.pays c.in_ok-line.ensures.pays) c.in_err-request-in-Load.ensures.pays

pub returns-clause-pays : goal.returns-clause-pays
returns-clause-pays g c =
    pays_on _ _ _ _ _ _ (pays_on _ _ _ _ _ _ c.in_ok-pass_newline.ensures.pays c.in_ok-line.ensures.pays) c.in_ok-request-in-Load.ensures.pays

pub returns-in-Alone-clause-request : goal.returns-in-Alone-clause-request
returns-in-Alone-clause-request g c =
    let before = unread c.args.intake.now.skips_newline (g.R.Read.remaining c.args.reader.now) in
    let reads = rw c.in-Some.is at c.in_ok-line.ensures.line in
    rw c.in_ok-pass_newline.ensures.done
    (alone_next before (g.R.Read.remaining c.pass_newline.new.reader) (g.R.Read.remaining c.next_line.new.reader) c.in-Some.line c.in-Alone.request c.in_ok-pass_newline.ensures.passed reads
    (λ xs is. sym c.in-Alone.is ∙ c.in_ok-request.ensures.asked xs is))

pub returns-clause-request : goal.returns-clause-request
returns-clause-request g c =
    let before = unread c.args.intake.now.skips_newline (g.R.Read.remaining c.args.reader.now) in
    let rest = unread c.load.new.intake.skips_newline (g.R.Read.remaining c.load.new.reader) in
    let reads = rw c.in-Some.is at c.in_ok-line.ensures.line in
    load_next before (g.R.Read.remaining c.pass_newline.new.reader) (g.R.Read.remaining c.next_line.new.reader) rest c.in-Some.line c.in-Load.length c.in_ok-request-in-Load.request c.in_ok-pass_newline.ensures.passed
    reads (λ xs is. sym c.in-Load.is ∙ c.in_ok-request.ensures.asked xs is) c.in_ok-request-in-Load.ensures.request
