use Rattle.std.proofs.Common.{sym, ◌∙◌}
use Rattle.tks_codec.proofs.OfWorlds.{possible_read, impossible_read}
use Rattle.tks_codec.proofs.world.world_of.Goals as goal

pub returns-in-Some : goal.returns-in-Some
returns-in-Some c =
    possible_read c.args.format c.args.grid c.args.bytes.now c.in_ok-parts.rest.now c.in_ok-parts.parts c.in-Some.world c.in_ok-parts.ensures (sym c.in-Some.is ∙ c.in_ok-world.ensures)

pub returns-in-None : goal.returns-in-None
returns-in-None c =
    impossible_read c.args.format c.args.grid c.args.bytes.now c.in_ok-parts.rest.now c.in_ok-parts.parts c.in_ok-parts.ensures (sym c.in-None.is ∙ c.in_ok-world.ensures)
