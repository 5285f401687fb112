use Rattle.std.proofs.Common.{ap, ◌∙◌}
use Rattle.tks_vars.specs.Variables.{frame_of}
use Rattle.tks_vars.proofs.Calling.{put_is_frame}
use Rattle.tks_vars.proofs.call.Arguments.into_entries.Goals as goal

pub returns : goal.returns
returns c = put_is_frame c.self.inside.entries c.self.invariant ∙ ap frame_of c.self.view_is
