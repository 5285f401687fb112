use Rattle.tks_vars.proofs.Scripting.{unset_is_gone, unset_leaves_others}
use Rattle.tks_vars.proofs.laws.what_is_unset_is_gone.Goals as goal

pub returns-clause-gone : goal.returns-clause-gone
returns-clause-gone c = unset_is_gone

pub returns-clause-others : goal.returns-clause-others
returns-clause-others c = unset_leaves_others
