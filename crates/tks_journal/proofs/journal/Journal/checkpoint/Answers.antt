use Rattle.std.proofs.Common.{rules, ◌≡◌, false, ap, subst, sym, ◌∙◌, arith}
use Rattle.tks_disk.specs.declared.disk.Side.{Side}
use Rattle.tks_journal.specs.Resting.{Vacant}
use Rattle.tks_journal.proofs.Vacancies.{other_vacant}
use Rattle.tks_journal.proofs.journal.Journal.checkpoint.Goals as goal

pub start_side-requires-clause-vacant : goal.start_side-requires-clause-vacant
start_side-requires-clause-vacant g c h =
    let reads = (g.D.Disk.view c.self.inside.disk).reads in
    let works : c.self.inside.failed ≡ false = ap (λ j. j.failed) c.self.view_is ∙ c.requires.working in
    let same : c.self.inside.generation ≡ c.args.self.now.generation = ap (λ j. j.generation) c.self.view_is in
    let next = c.args.header.now.generation in
    subst (λ (s : Side). Vacant s next reads) (sym c.other-side.ensures)
    (other_vacant c.self.inside.live reads c.self.inside.format c.self.inside.generation next (c.self.invariant works h).is_live (omega (arith, same, c.requires.next)))

pub invariant_of-self-2 : goal.invariant_of-self-2
invariant_of-self-2 = search rules

pub returns-clause-ok : goal.returns-clause-ok
returns-clause-ok = search rules
