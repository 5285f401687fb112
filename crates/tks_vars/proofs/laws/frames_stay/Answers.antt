use Rattle.tks_vars.proofs.Framing.{given_stays, global_given_stays, without_stays, link_stays, defined_stays}
use Rattle.tks_vars.proofs.laws.frames_stay.Goals as goal

pub returns-clause-given : goal.returns-clause-given
returns-clause-given c = given_stays

pub returns-clause-given_to_global : goal.returns-clause-given_to_global
returns-clause-given_to_global c = global_given_stays

pub returns-clause-taken : goal.returns-clause-taken
returns-clause-taken c = without_stays

pub returns-clause-made_link : goal.returns-clause-made_link
returns-clause-made_link c = link_stays

pub returns-clause-defined : goal.returns-clause-defined
returns-clause-defined c = defined_stays
