use Rattle.tks_tcl.proofs.Listing.{character_back, each_back}
use Rattle.tks_tcl.proofs.laws.fields_join_back.Goals as goal

pub returns-clause-character : goal.returns-clause-character
returns-clause-character c = character_back

pub returns-clause-each : goal.returns-clause-each
returns-clause-each c = each_back
