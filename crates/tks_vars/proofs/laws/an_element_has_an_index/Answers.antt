use Rattle.tks_vars.proofs.Spelled.{spelled, spells}
use Rattle.tks_vars.proofs.laws.an_element_has_an_index.Goals as goal

pub returns : goal.returns
returns c = λ t v i. (spelled t v i, spells t v i)
