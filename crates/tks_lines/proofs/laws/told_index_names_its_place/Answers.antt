use Rattle.tks_lines.proofs.Spelling.{spelled_names}
use Rattle.tks_lines.proofs.laws.told_index_names_its_place.Goals as goal

pub returns : goal.returns
returns c = spelled_names
