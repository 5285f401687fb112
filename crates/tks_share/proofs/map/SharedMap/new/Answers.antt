use Rattle.tks_share.proofs.Mapped.{empty_is}
use Rattle.tks_share.proofs.map.SharedMap.new.Goals as goal

pub returns : goal.returns
returns g c = empty_is c.new.result c.new.ensures
