use Rattle.tks_spelling.specs.Spelling.{text}
use Rattle.tks_spelling.proofs.EachKind.{text_lawful}
use Rattle.tks_codec_variables.proofs.OfTables.{table_lawful}
use Rattle.tks_codec_variables.proofs.OfVariables.{globals_lawful, procedures_lawful, variables_lawful}
use Rattle.tks_codec_variables.proofs.laws.spellings_are_lawful.Goals as goal

pub returns-clause-texts : goal.returns-clause-texts
returns-clause-texts c = table_lawful text text_lawful

pub returns-clause-globals : goal.returns-clause-globals
returns-clause-globals c = globals_lawful

pub returns-clause-procedures : goal.returns-clause-procedures
returns-clause-procedures c = procedures_lawful

pub returns-clause-variables : goal.returns-clause-variables
returns-clause-variables c = variables_lawful
