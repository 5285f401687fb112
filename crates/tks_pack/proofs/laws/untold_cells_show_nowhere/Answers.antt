use Rattle.tks_pack.proofs.Told.{contents_told, requests_told, places_told}
use Rattle.tks_pack.proofs.laws.untold_cells_show_nowhere.Goals as goal

pub returns-clause-told : goal.returns-clause-told
returns-clause-told c = contents_told

pub returns-clause-requests : goal.returns-clause-requests
returns-clause-requests c = requests_told

pub returns-clause-places : goal.returns-clause-places
returns-clause-places c = places_told
