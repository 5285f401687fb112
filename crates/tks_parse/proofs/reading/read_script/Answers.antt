use Rattle.std.proofs.Common.{◌∙◌}
use Rattle.tks_parse.proofs.Closings.{script_closed}
use Rattle.tks_parse.proofs.reading.read_script.Goals as goal

pub returns : goal.returns
returns c = c.in_ok-script.ensures ∙ script_closed c.args.text.now c.in_ok-found.found.commands.items c.in_ok-found.found.fault c.in_ok-found.found.taken c.in_ok-found.ensures.gives
