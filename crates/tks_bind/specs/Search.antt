-- How the code finds whether a sequence occurs: from the last pattern back, for each place whether its event may be chosen
-- for a pattern, with events behind it for those that follow.
use Rattle.std.specs.Prelude.{◌≡◌, ◌⊎◌, ℕ, zero, suc, ◌-◌, Bool, true, false, ◌&&◌, ◌||◌, List, [], ◌∷◌, length, get_or, slice_get, Option, Some, None}
use Rattle.std.specs.Bool.{Decides}
use Rattle.tks_event.specs.Event.{Event}
use Rattle.tks_event.specs.declared.pattern.Pattern.{Pattern}
use Rattle.tks_bind.specs.Matching.{fits, may_follow, may_lie_before}
use Rattle.tks_bind.specs.Occurs.{FitsAt, Follows}

-- ---- as a function, from the first pattern on

-- going back from a chosen event: this event is chosen before it, or may lie between
abbrev pub goes_back : Pattern → Event → Bool → Option Event → Bool → Bool
goes_back p e reached None rest = rest
goes_back p e reached (Some d) rest = (reached && may_follow p d e) || (may_lie_before e d && rest)

-- whether the patterns before one end before a place, where it has this event
abbrev pub comes_before : Pattern → Event → (ℕ → Bool) → List Event → ℕ → Bool
comes_before p e reached history zero = false
comes_before p e reached history (suc n) = goes_back p e (reached n) (slice_get history n) (comes_before p e reached history n)

-- whether some patterns end at a place, as the first of all, or behind others
abbrev pub fits_at : Pattern → Option Event → Bool
fits_at p None = false
fits_at p (Some e) = fits p e

abbrev pub goes_on_at : Pattern → (ℕ → Bool) → List Event → ℕ → Option Event → Bool
goes_on_at p reached history place None = false
goes_on_at p reached history place (Some e) = fits p e && comes_before p e reached history place

abbrev pub ends_behind : Pattern → List Pattern → (ℕ → Bool) → List Event → ℕ → Bool
ends_behind p [] reached history place = fits_at p (slice_get history place)
ends_behind p (q ∷ before) reached history place = goes_on_at p reached history place (slice_get history place)

-- whether the patterns, the last one first, end at a place
abbrev pub ends_at : List Pattern → List Event → ℕ → Bool
ends_at [] history place = false
ends_at (p ∷ before) history place = ends_behind p before (λ n. ends_at before history n) history place

-- ---- as the code does it, from the last pattern back

-- the patterns behind one, the next one first, have events behind its own, the last of them the last event
abbrev pub Succeeded : List Pattern → List Event → ℕ → Event → Type 0
Succeeded [] history place e = place ≡ length history - 1
Succeeded (q ∷ later) history place e = (to : ℕ) × (d : Event) × Follows q history place e to d × FitsAt q history to d × Succeeded later history to d

-- an event may be chosen for a pattern, with events behind it for those that follow
abbrev pub MayBegin : Pattern → List Pattern → List Event → ℕ → Type 0
MayBegin p later history n = (e : Event) × FitsAt p history n e × Succeeded later history n e

-- it fits a pattern, and may be chosen before that of a place
abbrev pub Precedes : Pattern → Pattern → List Event → ℕ → ℕ → Type 0
Precedes earlier later history n place = (d : Event) × (e : Event) × FitsAt earlier history n d × (slice_get history place ≡ Some e) × Follows later history n d place e

-- what is noted in a row: what was there, and where this is so
pub record Joins (before after : List Bool) (so : ℕ → Type 0) : Type 0 where
  pub from : (n : ℕ) → get_or after n false ≡ true → (get_or before n false ≡ true) ⊎ so n
  pub stays : (n : ℕ) → get_or before n false ≡ true → get_or after n false ≡ true
  pub joins : (n : ℕ) → so n → get_or after n false ≡ true

-- a row tells where a pattern may begin, with these behind it
abbrev pub Tells : List Bool → Pattern → List Pattern → List Event → Type 0
Tells row p later history = (n : ℕ) → Decides (get_or row n false) (MayBegin p later history n)
