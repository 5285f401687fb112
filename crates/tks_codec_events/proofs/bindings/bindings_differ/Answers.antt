use Rattle.tks_codec_events.specs.Bindings.{numbers_differ, tags_or_sequences_differ}
use Rattle.tks_codec_events.proofs.Differing.{second_decides, first_decides}
use Rattle.tks_codec_events.proofs.Telling.{numbers_tell, tags_and_sequences_tell}
use Rattle.tks_codec_events.proofs.bindings.bindings_differ.Goals as goal

pub all_differ-requires : goal.all_differ-requires
all_differ-requires c = numbers_tell

pub all_differ-requires-then-branch : goal.all_differ-requires-then-branch
all_differ-requires-then-branch c = tags_and_sequences_tell

pub returns-in_ok-all_differ-2 : goal.returns-in_ok-all_differ-2
returns-in_ok-all_differ-2 c =
    second_decides numbers_differ tags_or_sequences_differ c.args.bindings.now c.in_ok-all_differ.field-0 c.in_ok-all_differ.ensures c.in_ok-all_differ-2.field-0 c.if-branch.true c.in_ok-all_differ-2.ensures

pub returns-else-branch : goal.returns-else-branch
returns-else-branch c =
    first_decides numbers_differ tags_or_sequences_differ c.args.bindings.now c.in_ok-all_differ.field-0 c.in_ok-all_differ.ensures c.if-branch.false
