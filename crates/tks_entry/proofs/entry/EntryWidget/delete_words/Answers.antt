use Rattle.std.proofs.Common.{rules}
use Rattle.tks_entry.proofs.entry.EntryWidget.delete_words.Goals as goal

pub returns-in_ok-delete-in-len2-clause-value : goal.returns-in_ok-delete-in-len2-clause-value
returns-in_ok-delete-in-len2-clause-value = search rules
