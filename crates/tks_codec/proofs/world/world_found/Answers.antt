use Rattle.std.proofs.Common.{arith}
use Rattle.tks_spelling.proofs.Found.{left_fails, no_longer, length_found, fault_found}
use Rattle.tks_codec.specs.World.{world, world_at}
use Rattle.tks_codec.proofs.OfWorlds.{world_lawful}
use Rattle.tks_codec.proofs.world.world_found.Goals as goal

pub overflow_sub-result : goal.overflow_sub-result
unfolding world_at
overflow_sub-result c = no_longer (world c.args.format c.args.grid) (world_lawful c.args.format c.args.grid) c.args.bytes.now c.in-Ok.world c.in-Ok.rest.now (λ i. omega (arith, c.type_inv.bytes i)) c.in-Ok.ensures

pub overflow_sub-result-in-Err-Left : goal.overflow_sub-result-in-Err-Left
unfolding world_at
overflow_sub-result-in-Err-Left c = (world_lawful c.args.format c.args.grid).within c.args.bytes.now c.in-Err-Left.left (λ i. omega (arith, c.type_inv.bytes i)) (left_fails c.in-Err-Left.field-0 c.in-Err-Left.left (world_at c.args.format c.args.grid c.args.bytes.now) c.in-Err-Left.field-0-is c.in-Err-Left.ensures)

pub returns-in-Ok : goal.returns-in-Ok
unfolding world_at
returns-in-Ok c = length_found (world c.args.format c.args.grid) (world_lawful c.args.format c.args.grid) c.args.bytes.now c.in-Ok.world c.in-Ok.rest.now (λ i. omega (arith, c.type_inv.bytes i)) c.in-Ok.ensures

pub returns-in-Err-Left : goal.returns-in-Err-Left
unfolding world_at
returns-in-Err-Left c = fault_found (world c.args.format c.args.grid) (world_lawful c.args.format c.args.grid) c.args.bytes.now c.in-Err-Left.left (λ i. omega (arith, c.type_inv.bytes i)) (left_fails c.in-Err-Left.field-0 c.in-Err-Left.left (world_at c.args.format c.args.grid c.args.bytes.now) c.in-Err-Left.field-0-is c.in-Err-Left.ensures)
