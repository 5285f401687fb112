use Rattle.tks_codec_events.proofs.Telling.{names_tell}
use Rattle.tks_codec_events.proofs.virtuals.are_virtuals.Goals as goal

pub all_differ-requires : goal.all_differ-requires
all_differ-requires c = names_tell
