-- Which binding of a tag an event fires (bind(n), "Multiple matches").
use Rattle.std.specs.Prelude.{◌≡◌, ◌⊎◌, ℕ, ◌≤◌, true, false, List, [], ◌∷◌, Option, Some, None}
use Rattle.tks_text.specs.Text.{same_text}
use Rattle.tks_event.specs.Kinds.{is_virtual}
use Rattle.tks_event.specs.Event.{Event}
use Rattle.tks_event.specs.declared.kind.Kind.{Kind}
use Rattle.tks_event.specs.declared.kind.Kind.TheVariants as kind
use Rattle.tks_event.specs.declared.pattern.Pattern.{Pattern}
use Rattle.tks_bind.specs.declared.binding.Binding.{Binding}
use Rattle.tks_bind.specs.declared.virtual_event.VirtualEvent.{VirtualEvent}
use Rattle.tks_bind.specs.VirtualEvents.{sequences_of}
use Rattle.tks_bind.specs.Occurs.{Occurs}
use Rattle.tks_bind.specs.Choice.{Way, Beats}

-- what is looked at: the bindings, the tag, the event, the history up to it, and the virtual events
pub record Scene : Type 0 where
  pub bindings : List Binding
  pub tag : List ℕ
  pub event : Event
  pub history : List Event
  pub virtuals : List VirtualEvent

-- the name of the virtual event that a sequence stands for
abbrev pub name_in : Kind → List ℕ → Option (List ℕ)
name_in kind.Virtual name = Some name
name_in k name = None

abbrev pub name_of : List Pattern → Option (List ℕ)
name_of [] = None
name_of (p ∷ ps) = name_in p.kind p.detail

abbrev pub IsOneOf : {X : Type 0} → X → List X → Type 0
IsOneOf x [] = ⊥
IsOneOf x (y ∷ ys) = (x ≡ y) ⊎ IsOneOf x ys

-- an event meets a binding
pub data Meets (s : Scene) (b : Binding) : Way → Type 0 where
  -- the binding's sequence occurs
  itself : is_virtual s.event.kind ≡ false → name_of b.sequence ≡ None → Occurs b.sequence s.history
      → Meets s b (record { sequence = b.sequence; is_virtual = false })
  -- the binding is for a virtual event, and one of this one's sequences occurs
  through : is_virtual s.event.kind ≡ false → (name : List ℕ) (sequence : List Pattern) → name_of b.sequence ≡ Some name
      → IsOneOf sequence (sequences_of name s.virtuals) → Occurs sequence s.history → Meets s b (record { sequence = sequence; is_virtual = true })
  -- the event is a virtual one, and the binding is for it
  by_name : is_virtual s.event.kind ≡ true → name_of b.sequence ≡ Some s.event.detail → Meets s b (record { sequence = b.sequence; is_virtual = false })

-- a binding of the tag that the event meets so
pub record Candidate (s : Scene) (b : Binding) (w : Way) : Type 0 where
  pub there : IsOneOf b s.bindings
  pub tagged : same_text b.tag s.tag ≡ true
  pub meets : Meets s b w

-- a candidate that no candidate beats
pub record Wins (s : Scene) (b : Binding) (w : Way) : Type 0 where
  pub candidate : Candidate s b w
  pub unbeaten : (c : Binding) (v : Way) → Candidate s c v → ¬ Beats v w

-- of those that none beats, the one that was set last
pub record Chosen (s : Scene) (b : Binding) : Type 0 where
  pub wins : (w : Way) × Wins s b w
  pub last : (c : Binding) (v : Way) → Wins s c v → c.number ≤ b.number

-- the chosen binding, or that there is no candidate
abbrev pub ChosenSo : Scene → Option Binding → Type 0
ChosenSo s None = (b : Binding) (w : Way) → ¬ Candidate s b w
ChosenSo s (Some b) = Chosen s b
