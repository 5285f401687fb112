use Rattle.tks_bind.proofs.Naming.{none_so_far}
use Rattle.tks_bind.proofs.name_places.NamePlaces.new.Goals as goal

pub returns : goal.returns
returns c = none_so_far _ c.new.ensures c.new-2.ensures
