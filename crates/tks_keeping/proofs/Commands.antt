-- The commands on windows, bindings and events leave the world within limits.
use Rattle.std.proofs.Common.{◌≡◌, ℕ, true, List, [], ◌∷◌, Option, Some, None, option_map, IfSome, Result, Ok, Err, IfOk}
use Rattle.std.proofs.lemmas.Bool.{cond_both}
use Rattle.tks_text.specs.Size.{Extent}
use Rattle.tks_text.specs.Fault.{fault_text}
use Rattle.tks_text.specs.declared.limits.Limits.{Limits}
use Rattle.tks_vars.specs.Variables.{Variables}
use Rattle.tks_tcl.specs.Cause.{Cause, Fault, OverLimit}
use Rattle.tks_tcl.proofs.Framing.{follows_on}
use Rattle.tks_tree.specs.Windows.{Window, of_path}
use Rattle.tks_state.specs.World.{World}
use Rattle.tks_eval.specs.Outcome.{Comes, PassesLimit}
use Rattle.tks_eval.specs.declared.host.Plan.{Plan}
use Rattle.tks_eval.specs.declared.host.Plan.TheVariants as plan
use Rattle.tks_cmd.specs.Changes as changes
use Rattle.tks_cmd.specs.Changes.{Changed, beside}
use Rattle.tks_cmd.specs.Commands.{command_does, command_named, named_does, words_do, may_come, comes, answered, does}
use Rattle.tks_cmd.specs.EventCommands.{event_command_does}
use Rattle.tks_cmd.specs.Packing.{pack_does}
use Rattle.tks_cmd.specs.Widgets.{window_does}
use Rattle.tks_cmd.specs.Windows.{destroy_does}
use Rattle.tks_cmd.specs.declared.commands.Command.{Command}
use Rattle.tks_cmd.specs.declared.commands.Command.TheVariants as command
use Rattle.tks_keeping.specs.Fitting.{WorldFits, PlanFits, AnswerFits}
use Rattle.tks_keeping.proofs.Texts.{TextsFit, other_words}
use Rattle.tks_keeping.proofs.Variables.{VariablesFit}
use Rattle.tks_keeping.proofs.Parts.{LeftFits}
use Rattle.tks_keeping.proofs.Widgets.{OutcomeFits, window_fits}
use Rattle.tks_keeping.proofs.Windows.{make_fits, destroy_fits, pack_fits}
use Rattle.tks_keeping.proofs.Events.{event_command_fits}

module _ (limits : Limits) (grid : Extent) where
  beside_fits : (v : Variables) → VariablesFit limits v → (r : Result Changed Cause) → IfOk r (LeftFits limits grid) → IfOk (beside v r) (OutcomeFits limits grid)
  beside_fits v f r h = follows_on (LeftFits limits grid) (OutcomeFits limits grid) r _ h (λ x k. (k, f))

  command_fits : (c : Command) (name : List ℕ) (words : List (List ℕ)) (w : World) (v : Variables) → TextsFit limits (name ∷ words) → WorldFits limits grid w → VariablesFit limits v
      → IfOk (command_does limits c name words w v) (OutcomeFits limits grid)
  command_fits (command.Make kind) name words w v all h f =
      make_fits limits grid kind name words w v (other_words limits name words all) h f
  command_fits command.Destroy name words w v all h f = beside_fits v f (destroy_does name words w) (destroy_fits limits grid name words w h)
  command_fits command.Pack name words w v all h f = beside_fits v f (pack_does name words w) (pack_fits limits grid name words w h)
  command_fits (command.Events c) name words w v all h f =
      follows_on (LeftFits limits grid) (OutcomeFits limits grid) (event_command_does limits c name words w) _ (event_command_fits limits grid c name words w all h) (λ x k. (k, f))

  -- what a command leaves fits, where there is such a command
  abbrev AllFit : Option (Result changes.Outcome Cause) → Type 0
  AllFit answer = IfSome answer (λ r. IfOk r (OutcomeFits limits grid))

  -- a command of that name, or a window's own
  named_fits : (c : Option Command) (name : List ℕ) (words : List (List ℕ)) (w : World) (v : Variables) → TextsFit limits (name ∷ words) → WorldFits limits grid w → VariablesFit limits v
      → AllFit (named_does limits c name words w v)
  named_fits (Some c) name words w v all h f = command_fits c name words w v all h f
  named_fits None name words w v all h f = by (of_path w.tree.windows name)
    where
      by : (o : Option Window) → AllFit (option_map (λ u. window_does limits u.number (name ∷ words) w v) o)
      by None = tt
      by (Some u) = window_fits limits grid u.number (name ∷ words) w v all h f

  words_fit : (words : List (List ℕ)) (w : World) (v : Variables) → TextsFit limits words → WorldFits limits grid w → VariablesFit limits v → AllFit (words_do limits words w v)
  words_fit [] w v all h f = tt
  words_fit (name ∷ words) w v all h f = named_fits (command_named w.rules name) name words w v all h f

  planned_fits : (p : Plan) → may_come limits p ≡ true → PlanFits limits p
  planned_fits (plan.Answer code text) h = h
  planned_fits (plan.Eval script) h = tt
  planned_fits (plan.Dispatch window scripts) h = tt
  planned_fits (plan.Update due) h = tt

  comes_fits : (p : Plan) (w : World) (v : Variables) → WorldFits limits grid w → VariablesFit limits v → AnswerFits limits (WorldFits limits grid) (comes limits p w v)
  comes_fits p w v h f =
      cond_both (may_come limits p) (Comes p w v) PassesLimit (AnswerFits limits (WorldFits limits grid)) (λ may. (planned_fits p may, h, f)) (λ _. tt)

  answered_fits : (w : World) (v : Variables) (r : Option (Result changes.Outcome Cause)) → WorldFits limits grid w → VariablesFit limits v → AllFit r
      → AnswerFits limits (WorldFits limits grid) (answered limits w v r)
  answered_fits w v None h f k = tt
  answered_fits w v (Some (Ok x)) h f k = comes_fits x.plan x.world x.variables k.0 k.1
  answered_fits w v (Some (Err (Fault fault))) h f k = comes_fits (plan.Answer 1 (fault_text fault)) w v h f
  answered_fits w v (Some (Err OverLimit)) h f k = tt

  -- any of them, called by words that fit
  pub does_fits : (w : World) (v : Variables) (words : List (List ℕ)) → WorldFits limits grid w → VariablesFit limits v → TextsFit limits words
      → AnswerFits limits (WorldFits limits grid) (does limits w v words)
  does_fits w v words h f all = answered_fits w v (words_do limits words w v) h f (words_fit words w v all h f)
