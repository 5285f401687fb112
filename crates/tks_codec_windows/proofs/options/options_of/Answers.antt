use Rattle.std.proofs.Common.{sym, ◌∙◌}
use Rattle.tks_codec_windows.specs.Options.{options_at}
use Rattle.tks_codec_windows.proofs.OfOptions.{read_some}
use Rattle.tks_codec_windows.proofs.options.options_of.Goals as goal

pub returns-in-Some : goal.returns-in-Some
unfolding options_at
returns-in-Some c = read_some c.args.class c.args.bytes.now c.in_ok-values.values c.in_ok-values.rest.now c.in-Some.options c.in_ok-values.ensures (sym c.in_ok-options.ensures ∙ c.in-Some.is)
