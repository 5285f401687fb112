-- Lists that only contracts and proofs see.
use Rattle.std.specs.Prelude.{List, [], ◌∷◌}
use Rattle.tks_disk.specs.declared.trail.End.{End}
use Rattle.tks_disk.specs.declared.trail.End.TheVariants.{Nothing, Newest}

-- the newest, and those before it
abbrev pub items : {T : Type 0} → End T → List T
items Nothing = []
items (Newest item before) = item.value ∷ before.value
