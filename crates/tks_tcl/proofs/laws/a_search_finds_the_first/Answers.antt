use Rattle.tks_tcl.proofs.Listing.{finds_first, misses_none}
use Rattle.tks_tcl.proofs.laws.a_search_finds_the_first.Goals as goal

pub returns-clause-found : goal.returns-clause-found
returns-clause-found c = finds_first

pub returns-clause-missing : goal.returns-clause-missing
returns-clause-missing c = misses_none
