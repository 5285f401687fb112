-- A world as bytes (this project's own format), in a side of a format and on a grid, which the bytes before it tell.
use Rattle.std.specs.Prelude.{ℕ, List, [], ◌∷◌}
use Rattle.tks_text.specs.Size.{Extent}
use Rattle.tks_spelling.specs.Spelling.{Read, Spelling, such_that, field, through}
use Rattle.tks_spelling.specs.Writing.{flattened}
use Rattle.tks_spelling.specs.declared.format.Format.{Format}
use Rattle.tks_spelling.specs.declared.format.Format.TheVariants as formats
use Rattle.tks_codec_events.specs.Queue.{queue}
use Rattle.tks_codec_events.specs.Timers.{waiting}
use Rattle.tks_codec_variables.specs.Variables.{variables}
use Rattle.tks_state.specs.Restoring.{is_possible}
use Rattle.tks_state.specs.Windows.{Windows}
use Rattle.tks_state.specs.World.{World, windows_of}
use Rattle.tks_vars.specs.Variables.{Variables}
use Rattle.tks_queue.specs.declared.queued.Queued.{Queued}
use Rattle.tks_timer.specs.After as after
use Rattle.tks_codec.specs.Counts.{counts}
use Rattle.tks_codec.specs.Ends.{Ends, ends}
use Rattle.tks_codec.specs.Happenings.{Happenings, happenings}
use Rattle.tks_codec.specs.Windows.{windows}
use Rattle.tks_codec.specs.declared.counts.Counts.{Counts}

-- ---- parts of a world

abbrev pub counts_of : World → Counts
counts_of w = record { accepted = w.accepted; clock = w.clock; window = w.tree.next; binding = w.bindings.next; timer = w.timers.next }

abbrev pub happenings_of : World → Happenings
happenings_of w = record { bindings = w.bindings; virtuals = w.virtuals; history = w.history }

abbrev pub ends_of : World → Ends
ends_of w = record { focus = w.focus; held = w.held; pressed = w.pressed; memories = w.memories; faults = w.faults; rules = w.rules }

-- the world of these parts
abbrev pub of_parts : Extent → Counts → Windows → Variables → Happenings → List Queued → after.Content → Ends → World
of_parts grid c ws vs hs q ts e = record {
  accepted = c.accepted;
  clock = c.clock;
  tree = ws.tree;
  kept = ws.kept;
  variables = vs;
  bindings = hs.bindings;
  virtuals = hs.virtuals;
  history = hs.history;
  queue = q;
  timers = ts;
  focus = e.focus;
  held = e.held;
  pressed = e.pressed;
  memories = e.memories;
  faults = e.faults;
  rules = e.rules;
  grid = grid;
}

-- ---- spellings

-- the numbers in front, the windows, globals and procedures, what scripts bound to events rest on, what waits, the end
abbrev pub fields : Format → Extent → Spelling World
fields format grid =
    field counts_of counts (λ c.
    field windows_of (windows c.window) (λ ws.
    field (λ w. w.variables) variables (λ vs.
    field happenings_of (happenings c.binding) (λ hs.
    field (λ w. w.queue) queue (λ q.
    field (λ w. w.timers) (waiting c.timer) (λ ts.
    through ends_of (λ e. of_parts grid c ws vs hs q ts e) (ends format)))))))

-- those at the front of bytes, and what stands behind them
unfoldable pub fields_at : Format → Extent → List ℕ → Read World
fields_at format grid bytes = (fields format grid).read bytes

-- the spellings of the last three of these parts, and of all, which are the same in each format
abbrev pub waits_parts : World → List (List ℕ)
waits_parts w = queue.write w.queue ∷ (waiting w.timers.next).write w.timers ∷ (ends formats.Two).write (ends_of w) ∷ []

abbrev pub fields_parts : World → List (List ℕ)
fields_parts w =
    counts.write (counts_of w) ∷ (windows w.tree.next).write (windows_of w) ∷ variables.write w.variables ∷ (happenings w.bindings.next).write (happenings_of w)
    ∷ flattened (waits_parts w) ∷ []

-- the last three of them have spellings in a side of the second format
pub record WaitsAreLegal (w : World) : Type 0 where
  pub queue : queue.Legal w.queue
  pub timers : (waiting w.timers.next).Legal w.timers
  pub ends : (ends formats.Two).Legal (ends_of w)

-- a world
abbrev pub world : Format → Extent → Spelling World
world format grid = such_that is_possible (fields format grid)

-- the world at the front of bytes, and what stands behind it
unfoldable pub world_at : Format → Extent → List ℕ → Read World
world_at format grid bytes = (world format grid).read bytes
