use Rattle.std.proofs.Common.{sym}
use Rattle.tks_event.specs.Reading.{is_end}
use Rattle.tks_event.proofs.Answering.{found_name, name_text}
use Rattle.tks_event.proofs.parsing.read_one.Goals as goal

pub virtual_one-requires : goal.virtual_one-requires
virtual_one-requires c = name_text c.in-Some.name.now (found_name c.args.text.now c.in-Some.name.now is_end (sym c.in-Some.ensures))
