-- How far a thing came, with a frame behind it, or with nothing to go on with.
use Rattle.std.proofs.Common.{◌≡◌, ◌+◌, ℕ, Bool, true, false, List, [], ◌∷◌, ◌++◌, Result, Ok, Err, refl, sym, subst, ap, ◌∙◌, arith}
use Rattle.tks_text.specs.declared.fault.ScriptFault.{ScriptFault}
use Rattle.tks_text.specs.declared.limits.Limits.{Limits}
use Rattle.tks_text.specs.declared.fault.Failure.{Failure}
use Rattle.tks_text.specs.declared.fault.Failure.TheVariants as failure
use Rattle.tks_text.specs.Fault.{Gives}
use Rattle.tks_vars.specs.Variables.{Variables}
use Rattle.tks_tcl.specs.Cause.{Cause, value_or_fault}
use Rattle.tks_tcl.specs.Meets as tcl
use Rattle.tks_tcl.specs.declared.interrupt.Interrupt.{Interrupt}
use Rattle.tks_tcl.specs.declared.interrupt.Interrupt.TheVariants as interrupt
use Rattle.tks_tcl.specs.declared.stop.Stop.{Stop}
use Rattle.tks_tcl.specs.declared.stop.Stop.TheVariants as stop
use Rattle.tks_eval.specs.Outcome.{Outcome, End, Stopped, Why, OutOfSteps, TooDeep, TooLarge, Next, Meaning, after, fails, given}
use Rattle.tks_eval.specs.Meets.{StopsSo, halt_of_interrupt, halt_of_failure}
use Rattle.tks_eval.specs.Machine.{after_frame, left_below, left_behind, resume, opens_do, done_by, frame_weight, frames_weight, opens_weight, EndsAs, text_told, ComesSo, ValuedSo}
use Rattle.tks_eval.specs.declared.frame.Frame.{Frame}
use Rattle.tks_eval.specs.declared.frame.Opens.{Opens}
use Rattle.tks_eval.specs.declared.frame.Came.{Came}
use Rattle.tks_eval.specs.declared.frame.Came.TheVariants as came
use Rattle.tks_eval.specs.declared.frame.Ending.{Ending}
use Rattle.tks_eval.specs.declared.halt.Halt.{Halt}
use Rattle.tks_eval.specs.declared.halt.Halt.TheVariants as halt
use Rattle.tks_eval.specs.declared.machine.Machine.{Machine}
use Rattle.tks_eval.proofs.After.{after_fails}
use Rattle.tks_eval.proofs.Frames.{left_append, weight_append, resume_append}

module _ {S : Type 0} where
  -- a stop passes through what goes on behind an end
  pub passes : (f : Outcome S → Outcome S) → ((why : Why) → f (Stopped why) ≡ Stopped why) → (whole : Outcome S) (why : Stop) → StopsSo whole why → StopsSo (f whole) why
  passes f h whole stop.Budget k = ap f k ∙ h OutOfSteps
  passes f h whole stop.Depth k = ap f k ∙ h TooDeep
  passes f h whole stop.TooLarge k = ap f k ∙ h TooLarge
  passes f h whole stop.NoMemory k = tt

-- what waits weighs, with a frame behind it
pub weighs_before : (o opens : Opens) (frames more : List Frame) (f : Frame) → o ≡ opens → more ≡ frames ++ f ∷ []
    → opens_weight o + frames_weight more ≡ opens_weight opens + frames_weight frames + frame_weight f
weighs_before o opens frames more f same is =
    let first = ap opens_weight same in
    let all = ap frames_weight is ∙ weight_append frames (f ∷ []) in
    omega (arith, first, all)

-- an end that is told whole, whether its text was asked for
pub ends_as : {S : Type 0} (asked : Bool) (whole : Outcome S) (end : Ending) (state : S) (variables : Variables) (fuel : ℕ) → whole ≡ End end.code end.text state variables fuel
    → EndsAs asked whole end state variables fuel
ends_as true whole end state variables fuel h = h
ends_as false whole end state variables fuel h =
    let told : text_told whole ≡ end.text = ap text_told h in
    (h ∙ ap (λ t. End end.code t state variables fuel) (sym told), λ other. told)

pub comes_as : {S : Type 0} (host : Meaning S) (below : ℕ) (m : Machine) (state : S) (asked : Bool) (whole : Outcome S) (result : Result Came Halt)
    → ComesSo host true below whole result m state → ComesSo host asked below whole result m state
comes_as host below m state asked whole (Ok (came.Ended end)) h = (ends_as asked whole end state m.variables m.fuel h.0, h.1)
comes_as host below m state asked whole (Ok (came.Waits w)) h = h
comes_as host below m state asked whole (Err (halt.Fault fault)) h = h
comes_as host below m state asked whole (Err (halt.Stop why)) h = h

-- what came of a thing, within limits and behind scripts that are the same
pub comes_at : {S : Type 0} (host : Meaning S) (m : Machine) (state : S) (asked : Bool) (limits there : Limits) (left here : ℕ) (thing : Limits → ℕ → Outcome S) (result : Result Came Halt)
    → limits ≡ there → left ≡ here → ComesSo host asked left (thing limits left) result m state → ComesSo host asked here (thing there here) result m state
comes_at host m state asked limits there left here thing result within same h =
    subst (λ k. ComesSo host asked k (thing there k) result m state) same (subst (λ l. ComesSo host asked left (thing l left) result m state) within h)

-- where as many scripts may be open as so far, and within limits that are the machine's
module _ {S : Type 0} (host : Meaning S) (limits : Limits) (below : ℕ) (m : Machine) (state : S) (within : m.limits ≡ limits) where
  -- what waits, with a frame behind it
  pub waits_before : (whole : Outcome S) (o opens : Opens) (frames more : List Frame) (f : Frame)
      → o ≡ opens → more ≡ frames ++ f ∷ []
      → (whole ≡ resume host m.limits m.left frames (done_by (opens_do host m.limits m.left opens) state m)) × (left_behind m.left frames ≡ below)
      → (after_frame host limits below f whole ≡ resume host m.limits m.left more (done_by (opens_do host m.limits m.left o) state m))
      × (left_behind m.left more ≡ left_below below f)
  waits_before whole o opens frames more f same is h =
      let opened = done_by (opens_do host m.limits m.left opens) state m in (
        ap (after_frame host limits below f) h.0
            ∙ ap (λ k. after_frame host k below f (resume host m.limits m.left frames opened)) (sym within)
            ∙ ap (λ k. after_frame host m.limits k f (resume host m.limits m.left frames opened)) (sym h.1)
            ∙ sym (resume_append host m.limits m.left frames (f ∷ []) opened)
            ∙ ap (λ fs. resume host m.limits m.left fs opened) (sym is)
            ∙ ap (λ k. resume host m.limits m.left more (done_by (opens_do host m.limits m.left k) state m)) (sym same),
        ap (left_behind m.left) is ∙ left_append m.left frames (f ∷ []) ∙ ap (λ k. left_below k f) h.1,
      )

  -- what comes to the same
  pub comes_from : (asked : Bool) (whole same : Outcome S) (result : Result Came Halt) → whole ≡ same → ComesSo host asked below same result m state → ComesSo host asked below whole result m state
  comes_from asked whole same result is h = subst (λ o. ComesSo host asked below o result m state) (sym is) h

  module _ (here : m.left ≡ below) (asked : Bool) where
    -- there is nothing to go on with
    abbrev Halts : Outcome S → Halt → Type 0
    Halts whole why = ComesSo host asked below whole (Err why) m state

    -- a value that isn't there
    pub given_halts : {X : Type 0} (value : Result X Cause) (next : X → Outcome S) (why : Interrupt) → tcl.FailsSo why value
        → Halts (given limits value state m.variables m.fuel next) (halt_of_interrupt why)
    given_halts value next (interrupt.Script fault) h =
        (ap (λ v. given limits v state m.variables m.fuel next) h ∙ ap (λ k. fails k fault state m.variables m.fuel) (sym within), here)
    given_halts value next interrupt.TooLarge h = ap (λ v. given limits v state m.variables m.fuel next) h
    given_halts value next interrupt.NoMemory h = tt

    -- a value of an expression's own that isn't there
    pub fault_halts : {X Y : Type 0} (view : X → Y) (value : Result Y ScriptFault) (next : Y → Outcome S) (why : Failure) → Gives view (Err why) value
        → Halts (given limits (value_or_fault value) state m.variables m.fuel next) (halt_of_failure why)
    fault_halts view value next (failure.Script fault) h =
        (ap (λ v. given limits (value_or_fault v) state m.variables m.fuel next) h ∙ ap (λ k. fails k fault state m.variables m.fuel) (sym within), here)
    fault_halts view value next failure.NoMemory h = tt

  -- nothing follows where there is nothing to go on with
  pub after_halts : (asked other : Bool) (whole : Outcome S) (next : List ℕ → Next S) (why : Halt) → ComesSo host asked below whole (Err why) m state
      → ComesSo host other below (after whole next) (Err why) m state
  after_halts asked other whole next (halt.Fault fault) h = (ap (λ o. after o next) h.0 ∙ after_fails m.limits fault state m.variables m.fuel next, h.1)
  after_halts asked other whole next (halt.Stop why) h = passes (λ o. after o next) (λ why. refl) whole why h

  -- the same of an expression
  pub valued_halts : (asked : Bool) (whole : Outcome S) (next : List ℕ → Next S) (why : Halt) → ValuedSo host below whole (Err why) m state
      → ComesSo host asked below (after whole next) (Err why) m state
  valued_halts asked whole next (halt.Fault fault) h = (ap (λ o. after o next) h.0 ∙ after_fails m.limits fault state m.variables m.fuel next, h.1)
  valued_halts asked whole next (halt.Stop why) h = passes (λ o. after o next) (λ why. refl) whole why h
