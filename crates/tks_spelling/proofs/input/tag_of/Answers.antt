use Rattle.std.proofs.Common.{rules}
use Rattle.tks_spelling.proofs.input.tag_of.Goals as goal

pub returns-clause-value : goal.returns-clause-value
returns-clause-value = search rules

pub returns-clause-tag : goal.returns-clause-tag
returns-clause-tag = search rules
