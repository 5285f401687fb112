-- The commands on bindings, events, the focus and scripts that wait leave the world within limits.
use Rattle.std.proofs.Common.{ℕ, codes, List, [], ◌∷◌, Result, IfOk}
use Rattle.tks_text.specs.Text.{same_text}
use Rattle.tks_text.specs.Size.{Extent}
use Rattle.tks_text.specs.declared.limits.Limits.{Limits}
use Rattle.tks_tcl.specs.Cause.{Cause}
use Rattle.tks_tcl.proofs.Framing.{follows, follows_on}
use Rattle.tks_state.specs.World.{World}
use Rattle.tks_cmd.specs.Changes.{Changed}
use Rattle.tks_cmd.specs.After.{after_does}
use Rattle.tks_cmd.specs.Bindings.{bind_does, bindtags_does}
use Rattle.tks_cmd.specs.Focus.{focus_does, next_taking, previous_taking, focus_next_does, focus_previous_does}
use Rattle.tks_cmd.specs.VirtualEvents.{name_read, add_does, delete_does, info_does}
use Rattle.tks_cmd.specs.Update.{update_does}
use Rattle.tks_cmd.specs.EventCommands.{told, event_form_does, event_does, event_command_does}
use Rattle.tks_cmd.specs.declared.event_commands.EventCommand.{EventCommand}
use Rattle.tks_cmd.specs.declared.event_commands.EventCommand.TheVariants as command
use Rattle.tks_keeping.specs.Fitting.{WorldFits}
use Rattle.tks_keeping.proofs.Texts.{TextsFit, other_words}
use Rattle.tks_keeping.proofs.Parts.{LeftFits}
use Rattle.tks_keeping.proofs.Lists.{one_of}
use Rattle.tks_keeping.proofs.Bindings.{bind_fits, bindtags_fits}
use Rattle.tks_keeping.proofs.Virtuals.{add_fits, delete_fits}
use Rattle.tks_keeping.proofs.Generating.{generate_fits}
use Rattle.tks_keeping.proofs.Timers.{after_fits, focus_fits, path_from_fits}

module _ (limits : Limits) (grid : Extent) where
  told_fits : (r : Result Changed Cause) → IfOk r (LeftFits limits grid) → IfOk (told r) (LeftFits limits grid)
  told_fits r h = follows_on (LeftFits limits grid) (LeftFits limits grid) r _ h (λ x f. f)

  -- `event info` changes nothing
  info_fits : (name : List ℕ) (words : List (List ℕ)) (w : World) → WorldFits limits grid w → IfOk (info_does name words w) (LeftFits limits grid)
  info_fits name [] w k = k
  info_fits name (event ∷ []) w k = follows (LeftFits limits grid) (name_read event) _ (λ n. k)
  info_fits name (event ∷ more ∷ words) w k = tt

  form_fits : (name form : List ℕ) (words : List (List ℕ)) (w : World) → TextsFit limits words → WorldFits limits grid w → IfOk (event_form_does limits name form words w) (LeftFits limits grid)
  form_fits name form words w h k =
      one_of (LeftFits limits grid) (same_text form (codes "generate")) _ _ (generate_fits limits grid name words w h k)
      (one_of (LeftFits limits grid) (same_text form (codes "add")) _ _ (told_fits (add_does limits name words w) (add_fits limits grid name words w h k))
      (one_of (LeftFits limits grid) (same_text form (codes "delete")) _ _ (told_fits (delete_does name words w) (delete_fits limits grid name words w k))
      (one_of (LeftFits limits grid) (same_text form (codes "info")) _ _ (told_fits (info_does name words w) (info_fits name words w k)) tt)))

  event_fits : (name : List ℕ) (words : List (List ℕ)) (w : World) → TextsFit limits words → WorldFits limits grid w → IfOk (event_does limits name words w) (LeftFits limits grid)
  event_fits name [] w h k = tt
  event_fits name (form ∷ words) w h k = form_fits name form words w (other_words limits form words h) k

  words_fit : (c : EventCommand) (name : List ℕ) (words : List (List ℕ)) (w : World) → TextsFit limits words → WorldFits limits grid w
      → IfOk (event_command_does limits c name words w) (LeftFits limits grid)
  words_fit command.Bind name words w h k = told_fits (bind_does limits name words w) (bind_fits limits grid name words w h k)
  words_fit command.Bindtags name words w h k = told_fits (bindtags_does limits name words w) (bindtags_fits limits grid name words w h k)
  words_fit command.Event name words w h k = event_fits name words w h k
  words_fit command.Focus name words w h k = told_fits (focus_does limits name words w) (focus_fits limits grid name words w k)
  words_fit command.FocusNext name words w h k = told_fits (focus_next_does name words w) (path_from_fits limits grid next_taking name words w k)
  words_fit command.FocusPrev name words w h k = told_fits (focus_previous_does name words w) (path_from_fits limits grid previous_taking name words w k)
  words_fit command.After name words w h k = told_fits (after_does limits name words w) (after_fits limits grid name words w k)
  words_fit command.Update name words w h k = follows (LeftFits limits grid) (update_does name words) _ (λ p. k)

  -- any of them, called by words that pass no limit
  pub event_command_fits : (c : EventCommand) (name : List ℕ) (words : List (List ℕ)) (w : World) → TextsFit limits (name ∷ words) → WorldFits limits grid w
      → IfOk (event_command_does limits c name words w) (LeftFits limits grid)
  event_command_fits c name words w h k = words_fit c name words w (other_words limits name words h) k
