-- Which of several bindings that an event meets is the more specific one (bind(n), "Multiple matches"; the order of the
-- tests is this project's own rule).
use Rattle.std.specs.Prelude.{◌≡◌, ◌≢◌, ◌⊎◌, ℕ, ◌<◌, Bool, true, false, bit_and, List, [], ◌∷◌, length}
use Rattle.tks_event.specs.Sequences.{is_some_text}
use Rattle.tks_event.specs.declared.pattern.Pattern.{Pattern}
use Rattle.tks_bind.specs.Occurs.{turned}

-- a way by which an event meets a binding: by a sequence, its own or one of the virtual event that it is made for
pub record Way : Type 0 where
  pub sequence : List Pattern
  pub is_virtual : Bool

-- whether the first of some patterns has a detail
abbrev pub has_detail : List Pattern → Bool
has_detail [] = false
has_detail (p ∷ patterns) = is_some_text p.detail

abbrev pub last_has_detail : List Pattern → Bool
last_has_detail sequence = has_detail (turned sequence [])

-- a set of modifiers has each of another, and more
pub record HasMore (more less : ℕ) : Type 0 where
  pub all : bit_and more less ≡ less
  pub others : more ≢ less

-- from the first one on, the first two sets that differ are a proper superset and its subset
abbrev pub Overrides : List Pattern → List Pattern → Type 0
Overrides [] qs = ⊥
Overrides (p ∷ ps) [] = ⊥
Overrides (p ∷ ps) (q ∷ qs) = HasMore p.modifiers q.modifiers ⊎ ((p.modifiers ≡ q.modifiers) × Overrides ps qs)

-- one way is more specific than another: of the tests, in this order, the first that differs is for it
pub data Beats (a b : Way) : Type 0 where
  -- the last event has a detail, that of the other has none
  by_detail : last_has_detail a.sequence ≡ true → last_has_detail b.sequence ≡ false → Beats a b
  -- the sequence is longer
  by_length : last_has_detail a.sequence ≡ last_has_detail b.sequence → length b.sequence < length a.sequence → Beats a b
  -- from the last event backwards, the first set of modifiers that differs has more
  by_modifiers : last_has_detail a.sequence ≡ last_has_detail b.sequence → length a.sequence ≡ length b.sequence
      → Overrides (turned a.sequence []) (turned b.sequence []) → Beats a b
  -- the sequence is the same, and only the other is met through a virtual event
  by_itself : a.sequence ≡ b.sequence → a.is_virtual ≡ false → b.is_virtual ≡ true → Beats a b

-- ---- among several

abbrev pub IsAmong : Way → List Way → Type 0
IsAmong w [] = ⊥
IsAmong w (v ∷ ways) = (w ≡ v) ⊎ IsAmong w ways

-- a way among some that none of them beats
pub record Unbeaten (w : Way) (ways : List Way) : Type 0 where
  pub among : IsAmong w ways
  pub none : (v : Way) → IsAmong v ways → ¬ Beats v w
