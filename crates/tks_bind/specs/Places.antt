-- Numbers in a row, and where each stands (this project's own).
use Rattle.std.specs.Prelude.{ℕ, suc, zero, ◌≡◌, ◌<◌, ◌^◌, List, [], ◌∷◌, Some}
use Rattle.std.specs.List.{AllByRecursion}
use Rattle.std.specs.FinMap as map
use Rattle.std.specs.Int.{w64, to_be_bytes}
use Rattle.tks_share.specs.Lists.{Rises}
use Rattle.tks_share.specs.Maps.{Map}
use Rattle.tks_bind.specs.declared.binding.Binding.{Binding}
use Rattle.tks_bind.specs.declared.places.Counted.{Counted}
use Rattle.tks_bind.specs.Binding.{Content}
use Rattle.tks_bind.specs.Groups.{Groups}
use Rattle.tks_bind.specs.WellFormed.{AreBindings}

-- what a number's count is found under
abbrev pub key : ℕ → List ℕ
key number = to_be_bytes w64 number

-- its count is below the next one, and is found under its number
pub record IsCounted (counts : Map ℕ) (next : ℕ) (c : Counted) : Type 0 where
  pub below : c.count < next
  pub small : c.number < 2 ^ 64
  pub found : map.get counts (key c.number) ≡ Some c.count

-- counts rise along the row, and each is found
pub record AreCounted (numbers : List Counted) (counts : Map ℕ) (next : ℕ) : Type 0 where
  pub rising : Rises (λ (c : Counted). c.count) 0 numbers
  pub counted : AllByRecursion (IsCounted counts next) numbers

-- a number takes the place of the one at an index, or comes in at the end
abbrev pub put_at : ℕ → ℕ → List ℕ → List ℕ
put_at index number [] = number ∷ []
put_at zero number (n ∷ ns) = number ∷ ns
put_at (suc index) number (n ∷ ns) = n ∷ put_at index number ns

-- the numbers of bindings
abbrev pub numbers_of : List Binding → List ℕ
numbers_of bs = Rattle.std.specs.Prelude.map (λ b. b.number) bs

-- what holds of bindings and of what finds them
pub record AreIndexed (c : Content) (groups : Map (Map (Map (List Binding)))) (numbers : List ℕ) : Type 0 where
  pub bindings : AreBindings c
  pub tags : Groups groups c.bindings
  pub places : numbers ≡ numbers_of c.bindings
