use Rattle.tks_vars.proofs.Linking.{link_reads, link_writes}
use Rattle.tks_vars.proofs.laws.a_link_is_the_global.Goals as goal

pub returns-clause-reads : goal.returns-clause-reads
returns-clause-reads c = link_reads

pub returns-clause-writes : goal.returns-clause-writes
returns-clause-writes c = link_writes
