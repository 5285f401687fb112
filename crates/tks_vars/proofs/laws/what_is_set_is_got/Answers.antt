use Rattle.tks_vars.proofs.Scripting.{set_is_got, set_leaves_others}
use Rattle.tks_vars.proofs.laws.what_is_set_is_got.Goals as goal

pub returns-clause-got : goal.returns-clause-got
returns-clause-got c = set_is_got

pub returns-clause-others : goal.returns-clause-others
returns-clause-others c = set_leaves_others
