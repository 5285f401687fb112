use Rattle.std.proofs.Common.{sym}
use Rattle.tks_event.specs.View.{pattern_seen}
use Rattle.tks_event.proofs.Collecting.{detail_is_text}
use Rattle.tks_event.proofs.parsing.pattern_alone.Goals as goal

pub pattern_of-requires : goal.pattern_of-requires
pattern_of-requires c = detail_is_text (pattern_seen c.in-Some.written) c.args.text.now c.in-Some.behind.now (sym c.in-Some.ensures.value)
