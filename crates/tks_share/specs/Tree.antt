-- A tree as data: its items in order.
use Rattle.std.specs.Prelude.{◌≡◌, ⊤, ℕ, ◌-◌, ◌^◌, min, List, [], ◌∷◌, ◌++◌, length, Option, Some, None}
use Rattle.std.specs.declared.rc.Rc.{Rc}
use Rattle.tks_share.specs.declared.tree.Fork.{Fork}

module _ {X : Type 0} where
  -- how many there are, as a number of 64 bits tells it
  abbrev pub counted : List X → ℕ
  counted xs = min (length xs) (2 ^ 64 - 1)

  -- the first of them, if there is one
  abbrev pub front : List X → Option X
  front [] = None
  front (x ∷ xs) = Some x

module _ {E : Type 0} where
  -- those before the fork's item, that item, and those behind it
  abbrev pub items_at : Fork E → List E
  items_at fork = fork.left ++ fork.item ∷ fork.right

  -- the fork tells how many items it has
  abbrev pub Weighed : Fork E → Type 0
  Weighed fork = fork.count ≡ counted (items_at fork)

module _ {E Z : Type 0} where
  abbrev pub items_of : Option (Rc (Fork E) Z) → List E
  items_of None = []
  items_of (Some root) = items_at root.value

  abbrev pub RootWeighed : Option (Rc (Fork E) Z) → Type 0
  RootWeighed None = ⊤
  RootWeighed (Some root) = Weighed root.value
