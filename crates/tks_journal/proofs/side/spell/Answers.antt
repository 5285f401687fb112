use Rattle.std.proofs.Common.{◌≡◌, rules}
use Rattle.tks_spelling.specs.Header as headers
use Rattle.tks_journal.proofs.Heads.{spelled_as}
use Rattle.tks_journal.proofs.side.spell.Goals as goal

pub returns-clause-reads : goal.returns-clause-reads
returns-clause-reads c =
    let is : c.write_header.new.out.items ≡ headers.header.write c.args.header.now = search rules in
    spelled_as c.args.header.now c.write_header.new.out.items c.requires.legal is
