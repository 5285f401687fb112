-- What contracts see of the host of scripts, to which the world is lent.
use Rattle.tks_world.specs.Hosting.{Setting}
use Rattle.tks_world.specs.declared.host.WorldHost.{WorldHost}

-- what scripts change and look at beside variables
abbrev pub setting_of : {T B : Type 0} → WorldHost T B → Setting
setting_of h = record { world = h.world.now; memories = h.memories.now; limits = h.limits; names = h.apps.now }
