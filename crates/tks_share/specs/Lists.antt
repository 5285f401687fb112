-- Lists of items, as contracts see them.
use Rattle.std.specs.Prelude.{◌≡◌, ⊤, ℕ, suc, ◌+◌, ◌^◌, ◌<◌, ◌≤◌, Bool, false, if◌then◌else◌, List, [], ◌∷◌, length, slice_get, slice_set, Some}
use Rattle.std.specs.List.{AllByRecursion}
use Rattle.std.specs.Borrow.{Bor}

-- no list or map that is kept is longer
abbrev pub Fits : {X : Type 0} → List X → Type 0
Fits xs = length xs < 2 ^ 32

-- the numbers of items rise, from one on
abbrev pub Rises : {X : Type 0} → (X → ℕ) → ℕ → List X → Type 0
Rises number low [] = ⊤
Rises number low (x ∷ xs) = (low ≤ number x) × Rises number (number x + 1) xs

-- behind an item that fails a test all fail it
abbrev pub IsParted : {X : Type 0} → (X → Bool) → List X → Type 0
IsParted p [] = ⊤
IsParted p (x ∷ xs) = (p x ≡ false → AllByRecursion (λ y. p y ≡ false) xs) × IsParted p xs

-- how many at the front pass it
abbrev pub leading : {X : Type 0} → (X → Bool) → List X → ℕ
leading p [] = 0
leading p (x ∷ xs) = if p x then suc (leading p xs) else 0

-- what is said of each item is this of it
abbrev pub Says : {X : Type 0} → (Bor X → Bool → Type 0) → (X → Bool) → Type 0
Says says p = (x : Bor _) (b : Bool) → says x b → b ≡ p x.now

-- what is said of each item is decided by a test
pub record Decides {X : Type 0} (says : Bor X → Bool → Type 0) : Type 0 where
  pub test : X → Bool
  pub so : Says says test

-- the item at an index was changed, the change gave this answer, and nothing else is new
pub record IsChangedAt {X A : Type 0} (gives : X → X → A → Type 0) (index : ℕ) (old new : List X) (answer : A) : Type 0 where
  pub before : X
  pub after : X
  pub found : slice_get old index ≡ Some before
  pub given : gives before after answer
  pub now : new ≡ slice_set old index after
