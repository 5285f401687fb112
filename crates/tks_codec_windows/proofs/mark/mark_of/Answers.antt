use Rattle.std.proofs.Common.{rules}
use Rattle.tks_codec_windows.specs.Lines.{mark_at}
use Rattle.tks_codec_windows.proofs.mark.mark_of.Goals as goal

pub returns : goal.returns
unfolding mark_at
returns = search rules
