-- What becomes of the sequences by which virtual events are met.
use Rattle.std.specs.Prelude.{ℕ, ◌≡◌, ◌⊎◌, List}
use Rattle.tks_share.specs.Maps.{Map}
use Rattle.tks_event.specs.declared.pattern.Pattern.{Pattern}
use Rattle.tks_bind.specs.declared.through.Through.{Through}
use Rattle.tks_bind.specs.Chosen.{IsOneOf}
use Rattle.tks_bind.specs.Groups.{Spot, spot_of, list_at}

-- one of some sequences of a name
abbrev pub IsOf : List ℕ → List (List Pattern) → Through → Type 0
IsOf name qs t = (t.name ≡ name) × IsOneOf t.sequence qs

-- each is in the list of its ending and its name
abbrev pub ArePlaced : Map (Map (Map (List Through))) → Type 0
ArePlaced m = (s : Spot) (t : Through) → IsOneOf t (list_at m s) → spot_of t ≡ s

-- some sequences of a name join, and all others stay
pub record Gains (name : List ℕ) (qs : List (List Pattern)) (before after : Map (Map (Map (List Through)))) : Type 0 where
  pub from : (s : Spot) (t : Through) → IsOneOf t (list_at after s) → IsOneOf t (list_at before s) ⊎ (IsOf name qs t × (spot_of t ≡ s))
  pub stays : (s : Spot) (t : Through) → IsOneOf t (list_at before s) → IsOneOf t (list_at after s)
  pub joins : (t : Through) → IsOf name qs t → IsOneOf t (list_at after (spot_of t))

-- some sequences of a name go, and all others stay
pub record Drops (name : List ℕ) (qs : List (List Pattern)) (before after : Map (Map (Map (List Through)))) : Type 0 where
  pub from : (s : Spot) (t : Through) → IsOneOf t (list_at after s) → IsOneOf t (list_at before s) × (¬ IsOf name qs t)
  pub stays : (s : Spot) (t : Through) → IsOneOf t (list_at before s) → (¬ IsOf name qs t) → IsOneOf t (list_at after s)
