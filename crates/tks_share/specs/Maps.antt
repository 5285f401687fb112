-- Maps from names to values, as contracts see them.
use Rattle.std.specs.Prelude.{◌≡◌, ℕ, List, Some}
use Rattle.std.specs.Borrow.{Bor}
use Rattle.std.specs.FinMap as map
use Rattle.tks_share.specs.Names.{order}

-- finite maps from names to values
abbrev pub Map : Type 0 → Type 0
Map V = map.FinMap order V

-- the value under a name was changed, the change gave this answer, and nothing else is new
pub record IsChangedIn {V A : Type 0} (gives : V → V → A → Type 0) (name : List ℕ) (old new : Map V) (answer : A) : Type 0 where
  pub before : V
  pub after : V
  pub found : map.get old name ≡ Some before
  pub given : gives before after answer
  pub now : new ≡ map.insert old name after

module _ {V : Type 0} where
  -- an entry that is given, as it is seen
  abbrev pub entry_seen : Bor (List ℕ) × Bor V → List ℕ × V
  entry_seen e = (e.0.now, e.1.now)
