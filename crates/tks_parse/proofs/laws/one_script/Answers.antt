use Rattle.tks_parse.proofs.Faults.{spells_script_of}
use Rattle.tks_parse.proofs.laws.one_script.Goals as goal

pub returns : goal.returns
returns c = spells_script_of
