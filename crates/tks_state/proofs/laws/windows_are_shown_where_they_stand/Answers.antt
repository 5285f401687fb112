use Rattle.tks_state.proofs.Standing.{lays_out, stays_within}
use Rattle.tks_state.proofs.laws.windows_are_shown_where_they_stand.Goals as goal

pub returns-clause-cells : goal.returns-clause-cells
returns-clause-cells c = lays_out

pub returns-clause-within : goal.returns-clause-within
returns-clause-within c = stays_within
