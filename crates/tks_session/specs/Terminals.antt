-- A terminal's meaning (this project's own rule): its states are worlds of scripts, and inputs are steps within its limits.
use Rattle.std.specs.Prelude.{ℕ, Bool, true, false, ◌&&◌, List, [], ◌∷◌, Option, None, Ok, Err}
use Rattle.std.specs.Bool.{then_some}
use Rattle.tks_text.specs.Size.{Extent}
use Rattle.tks_text.specs.declared.limits.Limits.{Limits}
use Rattle.tks_spelling.specs.Spelling.{Read}
use Rattle.tks_spelling.specs.declared.format.Format.{Format}
use Rattle.tks_spelling.specs.declared.format.Format.TheVariants.{Two}
use Rattle.tks_spelling.specs.declared.header.Header.{Header}
use Rattle.tks_app.specs.Applications.{Application}
use Rattle.std.specs.FinMap as map
use Rattle.tks_vars.specs.Table.{Map}
use Rattle.tks_codec.specs.World as codec
use Rattle.tks_limits.specs.Within.{within}
use Rattle.tks_durable.specs.Machine as machine
use Rattle.tks_durable.specs.Machine.{Meaning, accepts, refuses}
use Rattle.tks_durable.specs.Opening.{same_grid, same_names}
use Rattle.tks_state.specs.World.{World, first_world}
use Rattle.tks_world.specs.Step.{Stepped, Accepts, Refuses, step}

-- a step, as a session sees it
abbrev pub as_machine : Stepped → machine.Stepped World
as_machine (Accepts world reply) = accepts world reply
as_machine (Refuses why) = refuses why

-- ---- what a side holds behind its header

-- the names of the commands whose memories are kept
abbrev pub names_of : Map (List ℕ) → List (List ℕ)
names_of memories = map.keys memories

-- does nothing stand behind?
abbrev pub is_nothing : List ℕ → Bool
is_nothing [] = true
is_nothing (byte ∷ rest) = false

-- is what was read all, with a memory for each of these names and for no other?
abbrev pub is_stored : List (List ℕ) → World → List ℕ → Bool
is_stored names world rest = is_nothing rest && same_names (names_of world.memories) names

abbrev pub stored_in : List (List ℕ) → Read World → Option World
stored_in names (Err left) = None
stored_in names (Ok found) = then_some (is_stored names found.0 found.1) found.0

-- The world that is stored in these bytes: they are its spelling in a side of this format, on the header's grid, and it has
-- memories of the header's names.
abbrev pub stored : Format → Header → List ℕ → Option World
stored format header bytes = stored_in header.names (codec.world_at format header.grid bytes)

-- the bytes of a world
unfoldable pub spelled : World → List ℕ
spelled world = (codec.world Two world.grid).write world

-- ---- the machine

-- is a world on this grid and within the limits, with a memory for each of the application's commands and for no other?
abbrev pub is_own : Application → Limits → Extent → World → Bool
is_own app limits grid world = same_grid world.grid grid && (same_names (names_of world.memories) app.names && within limits world)

-- a terminal for an application
abbrev pub terminal : Application → Limits → Extent → Meaning World
terminal app limits grid = record {
  step = λ world input. as_machine (step app world input limits);
  first = first_world grid app.names;
  bytes = spelled;
  stored = stored;
  within = within limits;
  own = is_own app limits grid;
  count = λ world. world.accepted;
  grid = grid;
  names = app.names;
  pending = limits.pending;
}
