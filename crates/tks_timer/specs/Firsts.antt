-- Which timer is run, and which script is cancelled, told by all that wait (after(n); which of several it is, is this
-- project's own rule).
use Rattle.std.specs.Prelude.{◌≡◌, ◌<◌, ◌≤◌, ◌⊎◌, ℕ, List, ◌∷◌, ◌++◌, Option, Some, None}
use Rattle.std.specs.List.{AllByRecursion}
use Rattle.tks_timer.specs.declared.entry.Timer.{Timer}
use Rattle.tks_timer.specs.After.{Content}

-- it stands among them
pub record IsAmong {X : Type 0} (xs : List X) (x : X) : Type 0 where
  pub before : List X
  pub behind : List X
  pub there : xs ≡ before ++ x ∷ behind

-- ---- timers that are due

-- a timer comes no sooner than another: it is due later, or together with that one and has no lesser id
abbrev pub NoSooner : Timer → Timer → Type 0
NoSooner t first = (first.due < t.due) ⊎ ((first.due ≡ t.due) × (first.id ≤ t.id))

-- the timer of this id is there, is due, and none that is due comes sooner
pub record IsNextDue (now : ℕ) (timers : List Timer) (id : ℕ) : Type 0 where
  pub timer : Timer
  pub named : timer.id ≡ id
  pub there : IsAmong timers timer
  pub due : timer.due ≤ now
  pub first : AllByRecursion (λ t. t.due ≤ now → NoSooner t timer) timers

-- which timer is run at a time: none is due, or this one is next
abbrev pub RunsNext : ℕ → List Timer → Option ℕ → Type 0
RunsNext now timers None = AllByRecursion (λ t. now < t.due) timers
RunsNext now timers (Some id) = IsNextDue now timers id

-- ---- scripts that are cancelled

module _ {X : Type 0} (id_of : X → ℕ) (script_of : X → List ℕ) (script : List ℕ) where
  -- one of them has this id and the script
  pub record HasScript (xs : List X) (id : ℕ) : Type 0 where
    pub one : X
    pub named : id_of one ≡ id
    pub there : IsAmong xs one
    pub has : script_of one ≡ script

  -- none that has the script has a lesser id
  abbrev pub NoLesser : ℕ → List X → Type 0
  NoLesser id xs = AllByRecursion (λ x. script_of x ≡ script → id ≤ id_of x) xs

  abbrev pub NoneHas : List X → Type 0
  NoneHas xs = AllByRecursion (λ x. ¬ (script_of x ≡ script)) xs

-- a timer or an idle script has this id and the script, and none that has the script has a lesser id
pub record IsLeast (script : List ℕ) (c : Content) (id : ℕ) : Type 0 where
  pub there : HasScript (λ t. t.id) (λ t. t.script) script c.timers id ⊎ HasScript (λ i. i.id) (λ i. i.script) script c.idles id
  pub timers : NoLesser (λ t. t.id) (λ t. t.script) script id c.timers
  pub idles : NoLesser (λ i. i.id) (λ i. i.script) script id c.idles

-- which id a script is cancelled by: none has it, or this is the least
abbrev pub CancelsLeast : List ℕ → Content → Option ℕ → Type 0
CancelsLeast script c None = NoneHas (λ t. t.id) (λ t. t.script) script c.timers × NoneHas (λ i. i.id) (λ i. i.script) script c.idles
CancelsLeast script c (Some id) = IsLeast script c id
