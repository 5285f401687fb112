-- What is told of a thing that a turn does, before anything of it is done (this project's own rule).
use Rattle.std.specs.Prelude.{ℕ, if◌then◌else◌, List, [], ◌∷◌, ◌++◌, codes, decimal}
use Rattle.tks_event.specs.Kinds.{kind_name, is_virtual}
use Rattle.tks_event.specs.Event.{Event}
use Rattle.tks_tree.specs.Windows.{of_number, on_window}
use Rattle.tks_state.specs.World.{World}
use Rattle.tks_cmd.specs.Dispatch.{delivered}
use Rattle.tks_world.specs.declared.things.Thing.{Thing}
use Rattle.tks_world.specs.declared.things.Thing.TheVariants as thing

-- a type's name, or a virtual event's in brackets
abbrev pub kind_told : Event → List ℕ
kind_told e = if is_virtual e.kind then codes "<<" ++ (e.detail ++ codes ">>") else kind_name e.kind

-- the path of the window of a number
abbrev pub path_of : World → ℕ → List ℕ
path_of w window = on_window (of_number w.tree.windows window) [] (λ v. v.path)

-- an event is told with the window that it is delivered to, a script with its id
abbrev pub told : World → Thing → List ℕ
told w (thing.Event e) = codes "event " ++ (kind_told e ++ 32 ∷ path_of w (delivered w e).window)
told w (thing.Timer id script) = codes "timer after#" ++ decimal id
told w (thing.Idle id script) = codes "idle after#" ++ decimal id
