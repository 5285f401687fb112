use Rattle.tks_codec_events.proofs.Sequencing.{kind_lawful, sequence_lawful}
use Rattle.tks_codec_events.proofs.Eventful.{event_lawful}
use Rattle.tks_codec_events.proofs.Tables.{bindings_lawful, virtuals_lawful}
use Rattle.tks_codec_events.proofs.Waiting.{history_lawful, queue_lawful, waiting_lawful}
use Rattle.tks_codec_events.proofs.Holding.{held_lawful}
use Rattle.tks_codec_events.proofs.laws.spellings_are_lawful.Goals as goal

pub returns-clause-kinds : goal.returns-clause-kinds
returns-clause-kinds c = kind_lawful

pub returns-clause-sequences : goal.returns-clause-sequences
returns-clause-sequences c = sequence_lawful

pub returns-clause-events : goal.returns-clause-events
returns-clause-events c = event_lawful

pub returns-clause-bindings : goal.returns-clause-bindings
returns-clause-bindings c = bindings_lawful

pub returns-clause-virtuals : goal.returns-clause-virtuals
returns-clause-virtuals c = virtuals_lawful

pub returns-clause-histories : goal.returns-clause-histories
returns-clause-histories c = history_lawful

pub returns-clause-queues : goal.returns-clause-queues
returns-clause-queues c = queue_lawful

pub returns-clause-waiting : goal.returns-clause-waiting
returns-clause-waiting c = waiting_lawful

pub returns-clause-held : goal.returns-clause-held
returns-clause-held c = held_lawful
