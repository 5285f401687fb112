-- What scripts bound to events rest on: the bindings, virtual events, the history of events, and the faults of such
-- scripts (bind(n), event(n); that the last 32 faults are kept is this project's own rule).
use Rattle.std.specs.Prelude.{ℕ, ◌-◌, Bool, ◌&&◌, not, List, [], ◌∷◌, ◌++◌, length, drop}
use Rattle.std.specs.List.{filter}
use Rattle.tks_event.specs.Event.{Event}
use Rattle.tks_bind.specs.Binding.{Content, without_tag}
use Rattle.tks_bind.specs.declared.binding.Binding.{Binding}
use Rattle.tks_bind.specs.declared.virtual_event.VirtualEvent.{VirtualEvent}
use Rattle.tks_tree.specs.Windows as tree
use Rattle.tks_state.specs.ClassBindings.{first_bindings}

pub record Events : Type 0 where
  -- the bindings, and the number of the next one that is set
  pub bindings : Content
  pub virtuals : List VirtualEvent
  -- the last physical events that were delivered
  pub history : List Event
  -- the texts of the errors of scripts that no script was there to see
  pub faults : List (List ℕ)

abbrev pub first_events : Events
first_events = record { bindings = first_bindings; virtuals = []; history = []; faults = [] }

-- ---- faults

-- how many are kept
abbrev pub max_faults : ℕ
max_faults = 32

-- the last ones of these
abbrev pub last_faults : List (List ℕ) → List (List ℕ)
last_faults faults = drop (length faults - max_faults) faults

-- with one more
abbrev pub with_fault : List ℕ → List (List ℕ) → List (List ℕ)
with_fault text faults = last_faults (faults ++ text ∷ [])

-- ---- windows that go

-- whether a path is that of a window that is gone: one that was there, and is there no more
abbrev pub is_gone : List tree.Window → List tree.Window → List ℕ → Bool
is_gone before after path = tree.has_path before path && not (tree.has_path after path)

-- whether a binding stays: its tag is the path of no window that is gone
abbrev pub is_held : List tree.Window → List tree.Window → Binding → Bool
is_held before after b = not (is_gone before after b.tag)

-- the bindings without those of windows that are gone
abbrev pub held : List tree.Window → List tree.Window → Content → Content
held before after c = record c { bindings = filter (is_held before after) c.bindings }

-- the bindings but for those of the windows of some numbers, one window after the other
abbrev pub without_those_of : List tree.Window → ℕ → Content → Content
without_those_of windows number c = tree.on_window (tree.of_number windows number) c (λ w. without_tag w.path c)

abbrev pub without_those_of_all : List tree.Window → List ℕ → Content → Content
without_those_of_all windows [] c = c
without_those_of_all windows (n ∷ ns) c = without_those_of_all windows ns (without_those_of windows n c)
