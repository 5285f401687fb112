use Rattle.tks_codec_events.proofs.Sequencing.{kind_legal}
use Rattle.tks_codec_events.proofs.Holding.{held_legal}
use Rattle.tks_codec_events.proofs.laws.all_are_spelled.Goals as goal

pub returns-clause-kinds : goal.returns-clause-kinds
returns-clause-kinds c = kind_legal

pub returns-clause-held : goal.returns-clause-held
returns-clause-held c = held_legal
