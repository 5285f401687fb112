use Rattle.tks_spelling.proofs.EachKind.{one_front}
use Rattle.tks_codec.specs.World.{world}
use Rattle.tks_codec.proofs.OfWorlds.{world_lawful}
use Rattle.tks_codec.proofs.laws.one_world.Goals as goal

pub returns-clause-one : goal.returns-clause-one
returns-clause-one c = λ format grid. one_front (world format grid) (world_lawful format grid)

pub returns-clause-lawful : goal.returns-clause-lawful
returns-clause-lawful c = world_lawful
