-- The order in which timers are due (this project's own).
use Rattle.std.specs.Prelude.{ℕ, ◌≡◌, ⊤, false, nat_le, if◌then◌else◌, List, [], ◌∷◌, Option, Some, None}
use Rattle.std.specs.List.{AllByRecursion}
use Rattle.tks_share.specs.Lists.{leading}
use Rattle.tks_timer.specs.declared.entry.Timer.{Timer}
use Rattle.tks_timer.specs.After.{Content, is_sooner}
use Rattle.tks_timer.specs.WellFormed.{AreWaiting}

-- a turn is the time at which a timer is due, and its id

-- none is sooner than one before it
abbrev pub AreInTurn : List (ℕ × ℕ) → Type 0
AreInTurn [] = ⊤
AreInTurn (t ∷ ts) = AllByRecursion (λ later. is_sooner later t ≡ false) ts × AreInTurn ts

-- how many at the front are sooner than a turn
abbrev pub place : ℕ × ℕ → List (ℕ × ℕ) → ℕ
place turn turns = leading (λ t. is_sooner t turn) turns

-- a turn comes in behind those that are sooner
abbrev pub put : ℕ × ℕ → List (ℕ × ℕ) → List (ℕ × ℕ)
put turn [] = turn ∷ []
put turn (t ∷ ts) = if is_sooner t turn then t ∷ put turn ts else turn ∷ t ∷ ts

-- the turns of timers, the soonest first
abbrev pub in_turn : List Timer → List (ℕ × ℕ)
in_turn [] = []
in_turn (t ∷ ts) = put (t.due, t.id) (in_turn ts)

-- the id of the soonest, if it is due at a time
abbrev pub due_front : ℕ → List (ℕ × ℕ) → Option ℕ
due_front now [] = None
due_front now (t ∷ ts) = if nat_le t.0 now then Some t.1 else None

-- what holds of what waits and of the order in which timers are due
pub record AreInOrder (c : Content) (turns : List (ℕ × ℕ)) : Type 0 where
  pub waiting : AreWaiting c
  pub order : turns ≡ in_turn c.timers
