-- What frames make of an outcome, one after the other; a stop passes through all of them.
use Rattle.std.proofs.Common.{◌≡◌, ◌+◌, ℕ, List, [], ◌∷◌, ◌++◌, refl, ap, ◌∙◌, arith}
use Rattle.tks_text.specs.declared.limits.Limits.{Limits}
use Rattle.tks_tcl.specs.declared.stop.Stop.{Stop}
use Rattle.tks_tcl.specs.declared.stop.Stop.TheVariants as stop
use Rattle.tks_eval.specs.Outcome.{Outcome, Stopped, Why, OutOfSteps, TooDeep, TooLarge, Meaning}
use Rattle.tks_eval.specs.Meets.{StopsSo}
use Rattle.tks_eval.specs.Machine.{after_frame, left_below, left_behind, resume, frame_weight, frames_weight}
use Rattle.tks_eval.specs.declared.frame.Frame.{Frame}
use Rattle.tks_eval.specs.declared.frame.Frame.TheVariants as frame
use Rattle.tks_eval.specs.declared.loops.Stage.TheVariants as stage

pub left_append : (left : ℕ) (first more : List Frame) → left_behind left (first ++ more) ≡ left_behind (left_behind left first) more
left_append left [] more = refl
left_append left (f ∷ first) more = left_append (left_below left f) first more

pub weight_append : (first more : List Frame) → frames_weight (first ++ more) ≡ frames_weight first + frames_weight more
weight_append [] more = omega arith
weight_append (f ∷ first) more = ap (λ n. frame_weight f + n) (weight_append first more) ∙ omega arith

module _ {S : Type 0} (host : Meaning S) (limits : Limits) where
  pub resume_append : (left : ℕ) (first more : List Frame) (whole : Outcome S)
      → resume host limits left (first ++ more) whole ≡ resume host limits (left_behind left first) more (resume host limits left first whole)
  resume_append left [] more whole = refl
  resume_append left (f ∷ first) more whole = resume_append (left_below left f) first more (after_frame host limits left f whole)

  -- a frame makes nothing of a stop
  pub frame_stopped : (left : ℕ) (f : Frame) (why : Why) → after_frame host limits left f (Stopped why) ≡ Stopped why
  frame_stopped left (frame.Commands rest levels) why = refl
  frame_stopped left (frame.Command words expand rest) why = refl
  frame_stopped left (frame.Nested made parts) why = refl
  frame_stopped left (frame.Element name made parts) why = refl
  frame_stopped left (frame.Catch name) why = refl
  frame_stopped left (frame.Each name body items) why = refl
  frame_stopped left (frame.Value c) why = refl
  frame_stopped left frame.Whole why = refl
  frame_stopped left (frame.Branch body rest) why = refl
  frame_stopped left (frame.Turns stage.Start loop) why = refl
  frame_stopped left (frame.Turns stage.Condition loop) why = refl
  frame_stopped left (frame.Turns stage.Body loop) why = refl
  frame_stopped left (frame.Turns stage.Next loop) why = refl
  frame_stopped left frame.Procedure why = refl
  frame_stopped left frame.Global why = refl
  frame_stopped left (frame.Scripts window scripts) why = refl
  frame_stopped left frame.Thing why = refl
  frame_stopped left (frame.Update due) why = refl

  pub resume_stopped : (left : ℕ) (stack : List Frame) (why : Why) → resume host limits left stack (Stopped why) ≡ Stopped why
  resume_stopped left [] why = refl
  resume_stopped left (f ∷ below) why =
      ap (resume host limits (left_below left f) below) (frame_stopped left f why) ∙ resume_stopped (left_below left f) below why

  -- a stop on top is a stop of the whole
  pub resume_stops : (left : ℕ) (stack : List Frame) (outcome : Outcome S) (why : Stop) → StopsSo outcome why → StopsSo (resume host limits left stack outcome) why
  resume_stops left stack outcome stop.Budget h = ap (resume host limits left stack) h ∙ resume_stopped left stack OutOfSteps
  resume_stops left stack outcome stop.Depth h = ap (resume host limits left stack) h ∙ resume_stopped left stack TooDeep
  resume_stops left stack outcome stop.TooLarge h = ap (resume host limits left stack) h ∙ resume_stopped left stack TooLarge
  resume_stops left stack outcome stop.NoMemory h = tt
