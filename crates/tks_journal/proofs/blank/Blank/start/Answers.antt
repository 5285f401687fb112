use Rattle.std.proofs.Common.{rules}
use Rattle.tks_journal.proofs.Vacancies.{first_vacant}
use Rattle.tks_journal.proofs.blank.Blank.start.Goals as goal

pub start_side-requires-clause-vacant : goal.start_side-requires-clause-vacant
start_side-requires-clause-vacant g c h = first_vacant (g.D.Disk.view c.self.inside.disk).reads c.args.header.now.generation (c.self.invariant h).nothing

pub at-requires : goal.at-requires
at-requires = search rules

pub returns-in-Ok-clause-ok : goal.returns-in-Ok-clause-ok
returns-in-Ok-clause-ok = search rules
