use Rattle.std.proofs.Common.{refl}
use Rattle.tks_codec.proofs.Formats.{read_in_second, read_by_first}
use Rattle.tks_codec.proofs.laws.second_format_reads_the_first.Goals as goal

pub returns-clause-read : goal.returns-clause-read
returns-clause-read c = read_in_second

pub returns-clause-rules : goal.returns-clause-rules
returns-clause-rules c = read_by_first

pub returns-clause-bytes : goal.returns-clause-bytes
returns-clause-bytes c = λ format grid w. refl
