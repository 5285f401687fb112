use Rattle.std.proofs.Common.{sym, ◌∙◌}
use Rattle.tks_disk.specs.declared.disk.Side.TheVariants.{A}
use Rattle.tks_durable.proofs.first.first_side.Goals as goal

pub returns-in-Ok-clause-opens : goal.returns-in-Ok-clause-opens
returns-in-Ok-clause-opens g c = c.in-Ok.ensures.opens (c.in_ok-world.ensures.own (sym c.is_within.ensures.value ∙ c.if-not-is_within.false)) A
