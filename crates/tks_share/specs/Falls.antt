-- Each tree inside a tree has fewer entries.
use Rattle.std.specs.Prelude.{◌≤◌, ◌∷◌, length, Some, None}
use Rattle.std.proofs.Common.{arith, length-append}
use Rattle.tks_share.specs.declared.tree.Tree.TheInside.{Inside}
use Rattle.tks_share.specs.declared.tree.Tree.TheDeep.{deep-Tree}
use Rattle.tks_share.specs.Tree.{items_of}

module _ {E : Type 0} where
  pub depth_falls : (t : Inside E) → deep-Tree E t ≤ length (items_of t.root)
  depth_falls t =
      elim t.root as (λ r. deep-Tree E (record { root = r }) ≤ length (items_of r)) [
        | None ↦ omega arith
        | Some root ↦ omega (arith, length-append root.value.left (root.value.item ∷ root.value.right))
      ]
