use Rattle.tks_lines.proofs.Restored.{kept_restored, restored_has}
use Rattle.tks_lines.proofs.laws.texts_are_restored.Goals as goal

pub returns-clause-kept : goal.returns-clause-kept
returns-clause-kept c = kept_restored

pub returns-clause-made : goal.returns-clause-made
returns-clause-made c = restored_has
