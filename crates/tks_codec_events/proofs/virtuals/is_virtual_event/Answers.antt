use Rattle.tks_codec_events.proofs.Telling.{sequences_tell}
use Rattle.tks_codec_events.proofs.virtuals.is_virtual_event.Goals as goal

pub all_differ-requires : goal.all_differ-requires
all_differ-requires c = sequences_tell
