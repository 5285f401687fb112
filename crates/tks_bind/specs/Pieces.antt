-- A script piece by piece, and what is made of each (bind(n), "Binding scripts and substitutions"; that a percent sign at the
-- end stays is this project's own rule).
use Rattle.std.specs.Prelude.{ℕ, ◌≡◌, List, [], ◌∷◌, ◌++◌}
use Rattle.tks_event.specs.Event.{Event}
use Rattle.tks_bind.specs.Percents.{formed}

-- From left to right: a percent sign and the character behind it are a form, which gives way to what it stands for; all
-- else stays.
pub data Replaced (e : Event) (path : List ℕ) : List ℕ → List ℕ → Type 0 where
  nothing : Replaced e path [] []
  other : (c : ℕ) (script made : List ℕ) → ¬ (c ≡ 37) → Replaced e path script made → Replaced e path (c ∷ script) (c ∷ made)
  form : (c : ℕ) (script made : List ℕ) → Replaced e path script made → Replaced e path (37 ∷ c ∷ script) (formed e path c ++ made)
  sign_at_end : Replaced e path (37 ∷ []) (37 ∷ [])
