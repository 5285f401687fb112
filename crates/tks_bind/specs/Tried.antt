-- What the code tries.
use Rattle.std.specs.Prelude.{List}
use Rattle.tks_bind.specs.declared.passes.Passes.{Passes as Held}
use Rattle.tks_bind.specs.Choosing.{scene_of}
use Rattle.tks_bind.specs.Ends.{ends_of}
use Rattle.tks_bind.specs.Passes.{Trial, trials}

-- all that ends in the event that the code looks at
abbrev pub all_tried : Held → List Trial
all_tried p = trials (scene_of p.scene) (ends_of p.full) (ends_of p.bare)
