-- What an error leaves.
use Rattle.std.proofs.Common.{◌≡◌, ℕ, Bool, true, false, cond, if◌then◌else◌, List, [], ◌∷◌, Option, Some, None, option_map, Result, Ok, Err, refl, arith}
use Rattle.tks_text.specs.Fault.{fault_text}
use Rattle.tks_text.specs.declared.fault.ErrorNumber.TheVariants.{WrongWords}
use Rattle.tks_text.specs.declared.limits.Limits.{Limits}
use Rattle.tks_tcl.specs.Cause.{Cause, Fault, OverLimit, after}
use Rattle.tks_text.specs.Limits.{fits}
use Rattle.tks_vars.specs.Variables.{Variables}
use Rattle.tks_state.specs.World.{World}
use Rattle.tks_eval.specs.Outcome.{Answer, Unknown, Comes, PassesLimit}
use Rattle.tks_eval.specs.declared.host.Plan.TheVariants as plan
use Rattle.tks_opt.specs.declared.said.Said.{Said}
use Rattle.tks_opt.specs.declared.said.Said.TheVariants as said
use Rattle.tks_eval.specs.declared.host.Plan.{Plan}
use Rattle.tks_tree.specs.Windows.{Window, free_path, of_path}
use Rattle.tks_state.specs.Windows.{kept_of, on_kept}
use Rattle.tks_state.specs.World.{with_widget}
use Rattle.tks_state.specs.declared.kept.Kept.{Kept}
use Rattle.tks_cmd.specs.Changes.{Changed, Outcome, outcome, plan_of, beside, silent, creation}
use Rattle.tks_cmd.specs.Commands.{command_named, command_does, named_does, words_do, may_come, answered, does}
use Rattle.tks_cmd.specs.EventCommands.{event_command_does, planned}
use Rattle.tks_cmd.specs.Packing.{pack_does}
use Rattle.tks_cmd.specs.Widgets.{window_does, called}
use Rattle.tks_cmd.specs.Windows.{are_paired, new_widget, placed, made, make_does, destroy_does}
use Rattle.tks_cmd.proofs.EventLaws.{NoError, PlansWell, event_command_well}
use Rattle.tks_cmd.specs.declared.commands.Command.{Command}
use Rattle.tks_cmd.specs.declared.commands.Command.TheVariants as command
use Rattle.tks_cmd.specs.declared.windows.WindowKind.{WindowKind}

-- what comes of a command that is no error isn't told as one
abbrev Well : Result Outcome Cause → Type 0
Well (Ok x) = NoError x.plan
Well (Err cause) = Unit {0}

after_well : {X : Type 0} (r : Result X Cause) (next : X → Result Outcome Cause) → ((x : X) → Well (next x)) → Well (after r next)
after_well (Ok x) next well = well x
after_well (Err cause) next well = tt

beside_well : (variables : Variables) (r : Result Changed Cause) → Well (beside variables r)
beside_well variables r = after_well r _ (λ x. refl)

planned_well : (variables : Variables) (r : Result (Plan × World) Cause) → PlansWell r → Well (planned variables r)
planned_well variables (Ok x) well = well
planned_well variables (Err cause) well = tt

plan_well : (s : Said) → NoError (plan_of s)
plan_well (said.Text text) = refl
plan_well (said.Run script) = tt

module _ (limits : Limits) where
  make_well : (kind : WindowKind) (name : List ℕ) (words : List (List ℕ)) (w : World) (variables : Variables) → Well (make_does limits kind name words w variables)
  make_well kind name [] w variables = tt
  make_well kind name (path ∷ options) w variables = by (are_paired options)
    where
      by : (b : Bool) → Well (if b then made limits kind path options w variables else Err (Fault (record { number = WrongWords; subject = Some name })))
      by true =
          after_well (creation (free_path w.tree.windows path)) _ (λ _.
          after_well (new_widget limits kind path options variables) _ (λ x.
          after_well (placed limits w path x.0) _ (λ u. refl)))
      by false = tt

  command_well : (c : Command) (name : List ℕ) (words : List (List ℕ)) (w : World) (variables : Variables) → Well (command_does limits c name words w variables)
  command_well (command.Make kind) name words w variables = make_well kind name words w variables
  command_well command.Destroy name words w variables = beside_well variables (destroy_does name words w)
  command_well command.Pack name words w variables = beside_well variables (pack_does name words w)
  command_well (command.Events c) name words w variables = planned_well variables (event_command_does limits c name words w) (event_command_well limits c name words w)

  window_well : (number : ℕ) (words : List (List ℕ)) (w : World) (variables : Variables) → Well (window_does limits number words w variables)
  window_well number words w variables = by (kept_of w.kept number)
    where
      by : (o : Option Kept) → Well (on_kept o (beside variables (silent w)) (λ k. after (called limits words (k.widget, variables)) (λ x. Ok (outcome (plan_of x.0) (with_widget w number x.1.0) x.1.1))))
      by None = refl
      by (Some k) = after_well (called limits words (k.widget, variables)) _ (λ x. plan_well x.0)

  abbrev AllWell : Option (Result Outcome Cause) → Type 0
  AllWell None = Unit {0}
  AllWell (Some r) = Well r

  named_well : (c : Option Command) (name : List ℕ) (words : List (List ℕ)) (w : World) (variables : Variables) → AllWell (named_does limits c name words w variables)
  named_well (Some c) name words w variables = command_well c name words w variables
  named_well None name words w variables = by (of_path w.tree.windows name)
    where
      by : (o : Option Window) → AllWell (option_map (λ v. window_does limits v.number (name ∷ words) w variables) o)
      by None = tt
      by (Some v) = window_well v.number (name ∷ words) w variables

  words_well : (words : List (List ℕ)) (w : World) (variables : Variables) → AllWell (words_do limits words w variables)
  words_well [] w variables = tt
  words_well (name ∷ words) w variables = named_well (command_named w.rules name) name words w variables

-- an answer with code 1 has the world and the variables of before
abbrev pub Unchanged : World → Variables → Answer World → Type 0
Unchanged w variables Unknown = Unit {0}
Unchanged w variables (Comes (plan.Answer code text) w' variables') = code ≡ 1 → (w' ≡ w) × (variables' ≡ variables)
Unchanged w variables (Comes other w' variables') = Unit {0}
Unchanged w variables PassesLimit = Unit {0}

module _ (limits : Limits) (w : World) (variables : Variables) where
  by_plan : (p : Plan) (w' : World) (variables' : Variables) (b : Bool) → NoError p → Unchanged w variables (cond b (Comes p w' variables') PassesLimit)
  by_plan (plan.Answer code text) w' variables' true none = λ e. absurd (omega (arith, e, none))
  by_plan (plan.Eval script) w' variables' true none = tt
  by_plan (plan.Dispatch window scripts) w' variables' true none = tt
  by_plan (plan.Update due) w' variables' true none = tt
  by_plan p w' variables' false none = tt

  by_fault : (text : List ℕ) (b : Bool) → Unchanged w variables (cond b (Comes (plan.Answer 1 text) w variables) PassesLimit)
  by_fault text true = λ e. (refl, refl)
  by_fault text false = tt

  answered_keeps : (r : Option (Result Outcome Cause)) → AllWell limits r → Unchanged w variables (answered limits w variables r)
  answered_keeps None well = tt
  answered_keeps (Some (Ok x)) well = by_plan x.plan x.world x.variables (may_come limits x.plan) well
  answered_keeps (Some (Err (Fault fault))) well = by_fault (fault_text fault) (fits limits (fault_text fault))
  answered_keeps (Some (Err OverLimit)) well = tt

  pub kept : (words : List (List ℕ)) → Unchanged w variables (does limits w variables words)
  kept words = answered_keeps (words_do limits words w variables) (words_well limits words w variables)
