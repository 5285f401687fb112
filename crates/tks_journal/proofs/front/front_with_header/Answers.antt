use Rattle.std.proofs.Common.{◌≡◌, take, drop, sym, ◌∙◌, ap, subst, arith}
use Rattle.tks_disk.specs.DiskModel.{Images, on}
use Rattle.tks_journal.specs.Fronts.{FrontIs, AttemptIs}
use Rattle.tks_journal.specs.declared.front.Attempt.{Attempt}
use Rattle.tks_journal.specs.declared.front.Attempt.TheVariants.{Read, Wrong, Short}
use Rattle.tks_journal.specs.declared.front.Front.{Front}
use Rattle.tks_journal.proofs.Openings.{read_front, wrong_front, short_front}
use Rattle.tks_journal.proofs.front.front_with_header.Goals as goal

pub returns-in-Read-clause-front : goal.returns-in-Read-clause-front
returns-in-Read-clause-front g c h =
    let h1 = c.loop-bytes.invariant.honesty.0 h in
    let side = c.args.side in
    let x = on side (g.D.Disk.view c.args.disk.now).reads in
    let same = (c.loop-bytes.invariant.rests h).same in
    let bytes = c.deref.result.now in
    let is : bytes ≡ take c.loop-bytes.count (drop 2 x) = c.deref.ensures.value ∙ c.in_ok-bytes.ensures.bytes h1 ∙ ap (λ (i : Images). take c.loop-bytes.count (drop 2 (on side i))) same in
    let read : AttemptIs (Read c.in-Read.header c.in-Read.end) bytes = subst (λ (a : Attempt). AttemptIs a bytes) c.in-Read.is c.in_ok-header.ensures.read in
    subst (λ (f : Front). FrontIs f x) (sym c.headed.ensures) (read_front c.args.format c.args.len c.loop-bytes.count c.in-Read.end x bytes c.in-Read.header c.requires.some (c.requires.side h) is read)

pub returns-in-Wrong-clause-front : goal.returns-in-Wrong-clause-front
returns-in-Wrong-clause-front g c h =
    let h1 = c.loop-bytes.invariant.honesty.0 h in
    let side = c.args.side in
    let x = on side (g.D.Disk.view c.args.disk.now).reads in
    let same = (c.loop-bytes.invariant.rests h).same in
    let bytes = c.deref.result.now in
    let is : bytes ≡ take c.loop-bytes.count (drop 2 x) = c.deref.ensures.value ∙ c.in_ok-bytes.ensures.bytes h1 ∙ ap (λ (i : Images). take c.loop-bytes.count (drop 2 (on side i))) same in
    let wrong : AttemptIs Wrong bytes = subst (λ (a : Attempt). AttemptIs a bytes) c.in-Wrong.is c.in_ok-header.ensures.read in
    wrong_front c.args.format c.args.len c.loop-bytes.count x bytes (c.requires.side h) is wrong

pub returns-then-count-all-clause-front : goal.returns-then-count-all-clause-front
returns-then-count-all-clause-front g c h =
    let h1 = c.loop-bytes.invariant.honesty.0 h in
    let side = c.args.side in
    let x = on side (g.D.Disk.view c.args.disk.now).reads in
    let same = (c.loop-bytes.invariant.rests h).same in
    let bytes = c.deref.result.now in
    let is : bytes ≡ take c.loop-bytes.count (drop 2 x) = c.deref.ensures.value ∙ c.in_ok-bytes.ensures.bytes h1 ∙ ap (λ (i : Images). take c.loop-bytes.count (drop 2 (on side i))) same in
    let short : AttemptIs Short bytes = subst (λ (a : Attempt). AttemptIs a bytes) c.in-Short.is c.in_ok-header.ensures.read in
    short_front c.args.format c.args.len c.loop-bytes.count x bytes (c.requires.side h) is (omega arith) short
