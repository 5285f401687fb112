use Rattle.std.proofs.Common.{rules}
use Rattle.tks_codec_windows.specs.Lines.{lines_at}
use Rattle.tks_codec_windows.proofs.lines.lines_of.Goals as goal

pub returns-in-None : goal.returns-in-None
unfolding lines_at
returns-in-None = search rules
