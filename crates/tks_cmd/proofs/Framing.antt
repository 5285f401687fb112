-- Commands on windows leave the frames below the innermost.
use Rattle.std.proofs.Common.{ℕ, Bool, true, false, ◌&&◌, ◌||◌, not, if◌then◌else◌, codes, List, [], ◌∷◌, Option, Some, None, option_map, Result, Ok, Err, IfOk, subst}
use Rattle.tks_text.specs.Text.{same_text}
use Rattle.tks_text.specs.Fault.{fault_text}
use Rattle.tks_text.specs.declared.limits.Limits.{Limits}
use Rattle.tks_tcl.specs.Cause.{Cause, Fault, OverLimit, after, value_or_fault}
use Rattle.tks_text.specs.Limits.{fits}
use Rattle.tks_tcl.specs.Variables.{stores_global}
use Rattle.tks_tcl.proofs.Framing.{follows, follows_on, one_of, Left, stores_global_stay}
use Rattle.tks_vars.specs.Laws.{FramesStay}
use Rattle.tks_vars.specs.Variables.{Variables, global_value_of}
use Rattle.tks_vars.proofs.Framing.{itself, both}
use Rattle.tks_opt.specs.Calls.{are_pairs}
use Rattle.tks_opt.specs.declared.said.Said.{Said}
use Rattle.tks_state.specs.Links.{seen, link_of, text_of, assigned, first_assigned}
use Rattle.tks_state.specs.Widget as widgets
use Rattle.tks_state.specs.declared.widget.Widget.{Widget}
use Rattle.tks_state.specs.World.{World, with_widget}
use Rattle.tks_state.specs.Windows.{kept_of, on_kept}
use Rattle.tks_state.specs.declared.kept.Kept.{Kept}
use Rattle.tks_tree.specs.Windows.{Window, free_path, of_path}
use Rattle.tks_eval.specs.Outcome.{Answer, Unknown, Comes, PassesLimit}
use Rattle.tks_eval.specs.declared.host.Plan.{Plan}
use Rattle.tks_eval.specs.declared.host.Plan.TheVariants as plan
use Rattle.tks_cmd.specs.Changes.{Changed, Outcome, outcome, plan_of, beside, silent, creation}
use Rattle.tks_cmd.specs.Commands.{command_named, command_does, named_does, words_do, may_come, answered}
use Rattle.tks_cmd.specs.Contents.{holds_within}
use Rattle.tks_cmd.specs.EventCommands.{event_command_does}
use Rattle.tks_cmd.specs.Links.{Linked, is_lacking, global_set, made_global, told, stored, settled, assigned_to, first_assigned_to, first_value}
use Rattle.tks_cmd.specs.Packing.{pack_does}
use Rattle.tks_cmd.specs.Widgets.{window_does, sets_link, configured_pair, configured, told_words, action_does, configure_does, called}
use Rattle.tks_cmd.specs.Windows.{are_paired, new_widget, placed, made, make_does, destroy_does, first_widget}
use Rattle.tks_cmd.specs.Laws.{LeavesFrames}
use Rattle.tks_cmd.specs.declared.commands.Command.{Command}
use Rattle.tks_cmd.specs.declared.commands.Command.TheVariants as command
use Rattle.tks_cmd.specs.declared.windows.WindowKind.{WindowKind}

-- what is left beside a widget, beside what it said, and by an outcome
abbrev Beside : Variables → Linked → Type 0
Beside v x = FramesStay v x.1

abbrev BesideSaid : Variables → Said × Linked → Type 0
BesideSaid v x = FramesStay v x.1.1

abbrev OutcomeLeft : Variables → Outcome → Type 0
OutcomeLeft v x = FramesStay v x.variables

module _ (limits : Limits) where
  -- ---- globals that widgets set

  set_stays : (name text : List ℕ) (v : Variables) → IfOk (global_set limits name text v) (FramesStay v)
  set_stays name text v = follows_on (Left v) (FramesStay v) (stores_global limits name v text) _ (stores_global_stay limits name v text) (λ x k. k)

  made_stays : (name text : List ℕ) (v : Variables) → IfOk (made_global limits name text v) (FramesStay v)
  made_stays name text v = one_of (FramesStay v) (is_lacking (global_value_of v name)) _ _ (set_stays name text v) (itself v)

  told_stays : (sets : Bool) (link : Option (List ℕ)) (name before now : List ℕ) (v : Variables) → IfOk (told limits sets link name before now v) (FramesStay v)
  told_stays sets None name before now v = made_stays name now v
  told_stays sets (Some link) name before now v =
      one_of (FramesStay v) (sets || not (same_text link name)) _ _ (made_stays name now v) (one_of (FramesStay v) (same_text before now) _ _ (itself v) (set_stays name now v))

  -- ---- changes of a widget

  stored_stays : (sets : Bool) (link : Option (List ℕ)) (w next : Widget) (v : Variables) → IfOk (stored limits sets link w next v) (Beside v)
  stored_stays sets None w next v = itself v
  stored_stays sets (Some name) w next v =
      follows_on (FramesStay v) (Beside v) (told limits sets (link_of w) name (text_of (seen v w)) (text_of next) v) _ (told_stays sets (link_of w) name (text_of (seen v w)) (text_of next) v) (λ u k. k)

  settled_stays : (sets : Bool) (w next : Widget) (v : Variables) → IfOk (settled limits sets w next v) (Beside v)
  unfolding settled
  settled_stays sets w next v = one_of (Beside v) (fits limits (text_of next) && holds_within limits next) _ _ (stored_stays sets (link_of next) w next v) tt

  pair_stays : (pair : List (List ℕ)) (x : Linked) → IfOk (configured_pair limits pair x) (Beside x.1)
  pair_stays pair x = follows (Beside x.1) (value_or_fault (widgets.configured (seen x.1 x.0) pair)) _ (λ next. settled_stays (sets_link pair) x.0 next x.1)

  configured_stays : (pairs : List (List ℕ)) (u : Variables) (x : Linked) → FramesStay u x.1 → IfOk (configured limits pairs x) (Beside u)
  unfolding configured
  configured_stays [] u x h = h
  configured_stays (name ∷ []) u x h = h
  configured_stays (name ∷ (value ∷ pairs)) u x h =
      follows_on (Beside x.1) (Beside u) (configured_pair limits (name ∷ value ∷ []) x) (configured limits pairs) (pair_stays (name ∷ value ∷ []) x) (λ y k. configured_stays pairs u y (both h k))

  assigned_stays : (a : Option _) (v : Variables) → IfOk (assigned_to limits a v) (FramesStay v)
  assigned_stays None v = itself v
  assigned_stays (Some a) v = set_stays a.variable a.value v

  first_assigned_stays : (a : Option _) (v : Variables) → IfOk (first_assigned_to limits a v) (FramesStay v)
  first_assigned_stays None v = itself v
  first_assigned_stays (Some a) v = made_stays a.variable a.value v

  first_stays : (u : Variables) (x : Linked) → FramesStay u x.1 → IfOk (first_value limits x) (Beside u)
  unfolding first_value
  first_stays u x h = follows_on (FramesStay x.1) (Beside u) (first_assigned_to limits (first_assigned x.0) x.1) _ (first_assigned_stays (first_assigned x.0) x.1) (λ w k. both h k)

  -- ---- a window's own command

  words_stay : (words : List (List ℕ)) (u : Variables) (x : Linked) → FramesStay u x.1 → IfOk (told_words limits words x) (BesideSaid u)
  unfolding told_words
  words_stay words u x h =
      follows (BesideSaid u) (value_or_fault (widgets.called (seen x.1 x.0) words)) _ (λ y.
      follows_on (Beside x.1) (BesideSaid u) (settled limits false x.0 y.1 x.1) _ (settled_stays false x.0 y.1 x.1) (λ z k. both h k))

  action_stays : (words : List (List ℕ)) (x : Linked) → IfOk (action_does limits words x) (BesideSaid x.1)
  unfolding action_does
  action_stays words x =
      follows_on (FramesStay x.1) (BesideSaid x.1) (assigned_to limits (assigned x.1 x.0 words) x.1) _ (assigned_stays (assigned x.1 x.0 words) x.1) (λ v k. words_stay words x.1 (x.0, v) k)

  configure_stays : (path : List ℕ) (pairs : List (List ℕ)) (x : Linked) → IfOk (configure_does limits path pairs x) (BesideSaid x.1)
  configure_stays path pairs x =
      one_of (BesideSaid x.1) (are_pairs pairs) _ _ (follows_on (Beside x.1) (BesideSaid x.1) (configured limits pairs x) _ (configured_stays pairs x.1 x (itself x.1)) (λ y k. k)) tt

  called_stays : (words : List (List ℕ)) (x : Linked) → IfOk (called limits words x) (BesideSaid x.1)
  called_stays [] x = action_stays [] x
  called_stays (path ∷ []) x = action_stays (path ∷ []) x
  called_stays (path ∷ (name ∷ words)) x =
      one_of (BesideSaid x.1) (same_text name (codes "configure")) _ _ (configure_stays path words x) (action_stays (path ∷ name ∷ words) x)

  window_stays : (number : ℕ) (words : List (List ℕ)) (w : World) (v : Variables) → IfOk (window_does limits number words w v) (OutcomeLeft v)
  window_stays number words w v = by (kept_of w.kept number)
    where
      by : (o : Option Kept)
          → IfOk (on_kept o (beside v (silent w)) (λ k. after (called limits words (k.widget, v)) (λ x. Ok (outcome (plan_of x.0) (with_widget w number x.1.0) x.1.1)))) (OutcomeLeft v)
      by None = itself v
      by (Some k) = follows_on (BesideSaid v) (OutcomeLeft v) (called limits words (k.widget, v)) _ (called_stays words (k.widget, v)) (λ x h. h)

  -- ---- the commands

  beside_stays : (v : Variables) (r : Result Changed Cause) → IfOk (beside v r) (OutcomeLeft v)
  beside_stays v r = follows (OutcomeLeft v) r _ (λ x. itself v)

  new_stays : (kind : WindowKind) (path : List ℕ) (options : List (List ℕ)) (v : Variables) → IfOk (new_widget limits kind path options v) (Beside v)
  unfolding new_widget
  new_stays kind path options v =
      follows_on (Beside v) (Beside v) (configured limits options (first_widget kind path, v)) (first_value limits) (configured_stays options v (first_widget kind path, v) (itself v)) (λ x k. first_stays v x k)

  made_window_stays : (kind : WindowKind) (path : List ℕ) (options : List (List ℕ)) (w : World) (v : Variables) → IfOk (made limits kind path options w v) (OutcomeLeft v)
  made_window_stays kind path options w v =
      follows (OutcomeLeft v) (creation (free_path w.tree.windows path)) _ (λ _.
      follows_on (Beside v) (OutcomeLeft v) (new_widget limits kind path options v) _ (new_stays kind path options v) (λ x k.
      follows (OutcomeLeft v) (placed limits w path x.0) _ (λ u. k)))

  make_stays : (kind : WindowKind) (name : List ℕ) (words : List (List ℕ)) (w : World) (v : Variables) → IfOk (make_does limits kind name words w v) (OutcomeLeft v)
  make_stays kind name [] w v = tt
  make_stays kind name (path ∷ options) w v = one_of (OutcomeLeft v) (are_paired options) _ _ (made_window_stays kind path options w v) tt

  command_stays : (c : Command) (name : List ℕ) (words : List (List ℕ)) (w : World) (v : Variables) → IfOk (command_does limits c name words w v) (OutcomeLeft v)
  command_stays (command.Make kind) name words w v = make_stays kind name words w v
  command_stays command.Destroy name words w v = beside_stays v (destroy_does name words w)
  command_stays command.Pack name words w v = beside_stays v (pack_does name words w)
  command_stays (command.Events c) name words w v = follows (OutcomeLeft v) (event_command_does limits c name words w) _ (λ x. itself v)

  abbrev AllLeft : Variables → Option (Result Outcome Cause) → Type 0
  AllLeft v None = Unit {0}
  AllLeft v (Some r) = IfOk r (OutcomeLeft v)

  named_stays : (c : Option Command) (name : List ℕ) (words : List (List ℕ)) (w : World) (v : Variables) → AllLeft v (named_does limits c name words w v)
  named_stays (Some c) name words w v = command_stays c name words w v
  named_stays None name words w v = by (of_path w.tree.windows name)
    where
      by : (o : Option Window) → AllLeft v (option_map (λ u. window_does limits u.number (name ∷ words) w v) o)
      by None = tt
      by (Some u) = window_stays u.number (name ∷ words) w v

  all_stay : (words : List (List ℕ)) (w : World) (v : Variables) → AllLeft v (words_do limits words w v)
  all_stay [] w v = tt
  all_stay (name ∷ words) w v = named_stays (command_named w.rules name) name words w v

  -- ---- their answers

  abbrev AnswerLeft : Variables → Answer World → Type 0
  AnswerLeft v Unknown = Unit {0}
  AnswerLeft v (Comes p w variables) = FramesStay v variables
  AnswerLeft v PassesLimit = Unit {0}

  comes_stays : (p : Plan) (w : World) (v u : Variables) (b : Bool) → FramesStay v u → AnswerLeft v (if b then Comes p w u else PassesLimit)
  comes_stays p w v u true h = h
  comes_stays p w v u false h = tt

  answered_stays : (w : World) (v : Variables) (r : Option (Result Outcome Cause)) → AllLeft v r → AnswerLeft v (answered limits w v r)
  answered_stays w v None h = tt
  answered_stays w v (Some (Ok x)) h = comes_stays x.plan x.world v x.variables (may_come limits x.plan) h
  answered_stays w v (Some (Err (Fault fault))) h = comes_stays (plan.Answer 1 (fault_text fault)) w v v (may_come limits (plan.Answer 1 (fault_text fault))) (itself v)
  answered_stays w v (Some (Err OverLimit)) h = tt

pub leaves_frames : LeavesFrames
leaves_frames limits w w' variables variables' words p e =
    subst (AnswerLeft limits variables) e (answered_stays limits w variables (words_do limits words w variables) (all_stay limits words w variables))
