-- Parts of a tree.
use Rattle.std.specs.Prelude.{◌≡◌, ℕ, ◌+◌, ◌<◌, List, slice_get}
use Rattle.tks_share.specs.Lists.{Fits}
use Rattle.tks_share.specs.declared.places.Part.{Part}

-- from its place on the part has the items that the tree has from the index on, as many as are left
pub record Follows {E : Type 0} (p : Part E) (index : ℕ) (all : List E) : Type 0 where
  pub fits : Fits p.tree.now
  pub alike : (k : ℕ) → k < p.left → slice_get p.tree.now (p.place + k) ≡ slice_get all (index + k)
