-- The ids that are given out (this project's own).
use Rattle.std.specs.Prelude.{ℕ, ◌+◌, ◌≤◌, List, [], ◌∷◌}
use Rattle.tks_timer.specs.After.{Content, with_timer, with_idle, without}

-- what is done to what is kept
pub data Act : Type 0 where
  KeepTimer : ℕ → List ℕ → Act
  KeepIdle : List ℕ → Act
  TakeOut : ℕ → Act

-- the ids that a list of acts gives out, in turn
abbrev pub given_out : List Act → Content → List ℕ
given_out [] c = []
given_out (KeepTimer due script ∷ acts) c = c.next ∷ given_out acts (with_timer due script c)
given_out (KeepIdle script ∷ acts) c = c.next ∷ given_out acts (with_idle script c)
given_out (TakeOut id ∷ acts) c = given_out acts (without id c)

-- each is greater than those before it, and the first is at least the number
abbrev pub RiseFrom : ℕ → List ℕ → Type 0
RiseFrom low [] = Unit {0}
RiseFrom low (n ∷ ns) = (low ≤ n) × RiseFrom (n + 1) ns
