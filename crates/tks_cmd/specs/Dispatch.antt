-- The scripts of an event, up to their list (bind(n), bindtags(n); that all are chosen and substituted before the first
-- runs, and that the class of `.` is `Tk`, are this project's own rules).
use Rattle.std.specs.Prelude.{ℕ, Bool, not, ◌&&◌, ◌==◌, if◌then◌else◌, codes, List, [], ◌∷◌, ◌++◌, Option, Some, None, Result, Ok}
use Rattle.tks_text.specs.Class.{class_name}
use Rattle.tks_text.specs.declared.limits.Limits.{Limits}
use Rattle.tks_tcl.specs.Cause.{Cause, after, within}
use Rattle.tks_event.specs.Kinds.{is_of_key}
use Rattle.tks_event.specs.Event.{Event}
use Rattle.tks_bind.specs.Choosing.{chosen}
use Rattle.tks_bind.specs.Percents.{percents}
use Rattle.tks_bind.specs.declared.binding.Binding.{Binding}
use Rattle.tks_tree.specs.Path.{root_path}
use Rattle.tks_text.specs.Text.{begins_dot}
use Rattle.tks_tree.specs.Windows.{Window, of_number, on_window, has_path}
use Rattle.tks_state.specs.Windows.{kept_of, on_kept}
use Rattle.tks_state.specs.World.{World, with_event, scene}
use Rattle.tks_eval.specs.declared.host.Plan.{Plan}
use Rattle.tks_eval.specs.declared.host.Plan.TheVariants as plan

-- ---- an event that is delivered

-- one of a key goes to the window that has the focus now
abbrev pub delivered : World → Event → Event
delivered w e = if is_of_key e.kind then record e { window = w.focus } else e

-- ---- tags

-- those that a window has where none were set: its path, its class, `.` and `all`
abbrev pub default_tags : Window → List (List ℕ)
default_tags v =
    if v.number == 0 then v.path ∷ class_name v.class ∷ codes "all" ∷ []
    else v.path ∷ class_name v.class ∷ root_path ∷ codes "all" ∷ []

abbrev pub or_default : Window → Option (List (List ℕ)) → List (List ℕ)
or_default v None = default_tags v
or_default v (Some tags) = tags

-- the tags of a window, in the order in which their scripts run
abbrev pub tags_of : World → Window → List (List ℕ)
tags_of w v = or_default v (on_kept (kept_of w.kept v.number) None (λ k. k.tags))

-- a tag that begins with a dot and names no window is passed over
abbrev pub is_passed : World → List ℕ → Bool
is_passed w tag = begins_dot tag && not (has_path w.tree.windows tag)

-- ---- scripts

-- scripts, and those that come behind them
abbrev pub with_more : List (List ℕ) → Result (List (List ℕ)) Cause → Result (List (List ℕ)) Cause
with_more scripts r = after r (λ more. Ok (scripts ++ more))

module _ (limits : Limits) where
  -- the script of a binding, with each percent form replaced; it passes no limit
  abbrev pub script_of : Event → List ℕ → Option Binding → Result (List (List ℕ)) Cause
  script_of e path None = Ok []
  script_of e path (Some b) = after (within limits (percents e path b.script)) (λ t. Ok (t ∷ []))

  -- that of the binding of a tag that the event fires, if it fires one; its window has this path
  abbrev pub tag_script : World → Event → List ℕ → List ℕ → Result (List (List ℕ)) Cause
  tag_script w e path tag = if is_passed w tag then Ok [] else script_of e path (chosen (scene w tag e))

  -- those of tags, in order
  abbrev pub tag_scripts : World → Event → List ℕ → List (List ℕ) → Result (List (List ℕ)) Cause
  tag_scripts w e path [] = Ok []
  tag_scripts w e path (tag ∷ tags) = after (tag_script w e path tag) (λ one. with_more one (tag_scripts w e path tags))

  -- those of the tags of an event's window
  abbrev pub event_scripts : World → Event → Result (List (List ℕ)) Cause
  event_scripts w e = on_window (of_number w.tree.windows e.window) (Ok []) (λ v. tag_scripts w e v.path (tags_of w v))

  -- what is to be done for an event that was delivered, and the world
  abbrev pub prepared : World → Event → Result (Plan × World) Cause
  prepared w e = after (event_scripts w e) (λ scripts. Ok (plan.Dispatch e.window scripts, w))

  -- what is to be done for an event, and the world in which it was delivered: it joins the history, where it is a physical one
  unfoldable pub begun : World → Event → Result (Plan × World) Cause
  begun w e = prepared (with_event (delivered w e) w) (delivered w e)
