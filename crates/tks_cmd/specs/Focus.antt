-- `focus`, `tk_focusNext` and `tk_focusPrev` (focus(n), focusNext(n); that a window has the focus at once while the events
-- that tell of it wait, which windows take it by themselves, and which errors there are, are this project's own rules).
use Rattle.std.specs.Prelude.{ℕ, pos, Bool, true, false, not, ◌==◌, ◌&&◌, if◌then◌else◌, codes, List, [], ◌∷◌, reverse, Option, Some, None, Result, Ok}
use Rattle.std.specs.Option.{option_and_then}
use Rattle.tks_text.specs.Text.{same_text}
use Rattle.tks_text.specs.declared.limits.Limits.{Limits}
use Rattle.tks_tcl.specs.Cause.{Cause, after, wrong_words}
use Rattle.tks_event.specs.Sequences.{is_some_text}
use Rattle.tks_event.specs.Event.{Event}
use Rattle.tks_event.specs.declared.kind.Kind.{Kind}
use Rattle.tks_event.specs.declared.kind.Kind.TheVariants as kind
use Rattle.tks_opt.specs.Options.{Options, value_in}
use Rattle.tks_opt.specs.Values.{state_named}
use Rattle.tks_opt.specs.declared.name.OptionName.TheVariants as name
use Rattle.tks_opt.specs.declared.state.State.{State}
use Rattle.tks_opt.specs.declared.state.State.TheVariants as state
use Rattle.tks_queue.specs.declared.place.Place.TheVariants as place
use Rattle.tks_tree.specs.Windows.{of_number, on_window, preorder, others_behind}
use Rattle.tks_state.specs.Widget.{options_of}
use Rattle.tks_state.specs.Windows.{kept_of, on_kept}
use Rattle.tks_state.specs.World.{World, focused}
use Rattle.tks_cmd.specs.Changes.{Changed, silent}
use Rattle.tks_cmd.specs.Packing.{window_of}
use Rattle.tks_cmd.specs.Queue.{put_within}

-- the path of the window of a number
abbrev pub path_at : World → ℕ → List ℕ
path_at w n = on_window (of_number w.tree.windows n) [] (λ v. v.path)

-- ---- focus ?window?

-- a window gets the focus or loses it
abbrev pub focus_event : Kind → ℕ → Event
focus_event k n = record {
  window = n;
  kind = k;
  detail = [];
  state = 0;
  time = 0;
  x = pos 0;
  y = pos 0;
  root_x = pos 0;
  root_y = pos 0;
  payload = [];
}

module _ (limits : Limits) where
  -- the focus goes to another window at once. That the old one lost it and the new one has it is told behind all that waits
  abbrev pub focus_moved : ℕ → World → Result World Cause
  focus_moved n w =
      after (put_within limits place.Tail (focus_event kind.FocusOut w.focus) (focused n w)) (put_within limits place.Tail (focus_event kind.FocusIn n))

  -- the window that has the focus keeps it, and nothing is told
  abbrev pub focus_given : ℕ → World → Result World Cause
  focus_given n w = if n == w.focus then Ok w else focus_moved n w

  -- the empty text names no window, and does nothing
  abbrev pub focus_on : List ℕ → World → Result Changed Cause
  focus_on path w = if is_some_text path then after (window_of w path) (λ n. after (focus_given n w) silent) else silent w

  abbrev pub focus_does : List ℕ → List (List ℕ) → World → Result Changed Cause
  focus_does command [] w = Ok (path_at w w.focus, w)
  focus_does command (path ∷ []) w = focus_on path w
  focus_does command words w = wrong_words command

-- ---- tk_focusNext window, tk_focusPrev window

-- whether `-takefocus` is 1
abbrev pub is_taking : Option (List ℕ) → Bool
is_taking None = false
is_taking (Some value) = same_text value (codes "1")

abbrev pub is_disabled : Option State → Bool
is_disabled (Some state.Disabled) = true
is_disabled other = false

-- whether a window of these options takes the focus by itself
abbrev pub takes_focus : Options → Bool
takes_focus t = is_taking (value_in t.values name.TakeFocus) && not (is_disabled (option_and_then state_named (value_in t.values name.State)))

-- the same of the window of a number
abbrev pub takes_at : World → ℕ → Bool
takes_at w n = on_kept (kept_of w.kept n) false (λ k. takes_focus (options_of k.widget))

-- the first of some windows that takes the focus by itself, or else this one
abbrev pub first_taking : World → List ℕ → ℕ → ℕ
first_taking w [] otherwise = otherwise
first_taking w (n ∷ ns) otherwise = if takes_at w n then n else first_taking w ns otherwise

-- the one behind a window in the order of the focus, round the end
abbrev pub next_taking : World → ℕ → ℕ
next_taking w n = first_taking w (others_behind (preorder w.tree) n) n

-- the one before it
abbrev pub previous_taking : World → ℕ → ℕ
previous_taking w n = first_taking w (others_behind (reverse (preorder w.tree)) n) n

-- a window among words that is alone, and what is told of it
abbrev pub path_from : (World → ℕ → ℕ) → List ℕ → List (List ℕ) → World → Result Changed Cause
path_from step command (path ∷ []) w = after (window_of w path) (λ n. Ok (path_at w (step w n), w))
path_from step command words w = wrong_words command

abbrev pub focus_next_does : List ℕ → List (List ℕ) → World → Result Changed Cause
focus_next_does command words w = path_from next_taking command words w

abbrev pub focus_previous_does : List ℕ → List (List ℕ) → World → Result Changed Cause
focus_previous_does command words w = path_from previous_taking command words w
