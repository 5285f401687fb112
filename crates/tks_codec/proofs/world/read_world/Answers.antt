use Rattle.std.proofs.Common.{arith}
use Rattle.tks_spelling.proofs.Found.{found, only, stops}
use Rattle.tks_codec.specs.World.{world, world_at}
use Rattle.tks_codec.proofs.OfWorlds.{world_lawful}
use Rattle.tks_codec.proofs.world.read_world.Goals as goal

pub returns-clause-found : goal.returns-clause-found
unfolding world_at
returns-clause-found c = found (world c.args.format c.args.grid) (world_lawful c.args.format c.args.grid) c.world_found.result c.args.bytes.now (λ i. omega (arith, c.type_inv.bytes i)) c.world_found.ensures

pub returns-clause-only : goal.returns-clause-only
unfolding world_at
returns-clause-only c = only (world c.args.format c.args.grid) (world_lawful c.args.format c.args.grid) c.world_found.result c.args.bytes.now c.world_found.ensures

pub returns-clause-bad : goal.returns-clause-bad
unfolding world_at
returns-clause-bad c = stops (world c.args.format c.args.grid) (world_lawful c.args.format c.args.grid) c.world_found.result c.args.bytes.now (λ i. omega (arith, c.type_inv.bytes i)) c.world_found.ensures
