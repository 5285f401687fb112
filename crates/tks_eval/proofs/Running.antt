-- What came of what was on top of a stack goes on with the stack, and less is left of both at each turn.
use Rattle.std.proofs.Common.{◌≡◌, ◌<◌, ◌+◌, ℕ, true, List, [], ◌∷◌, ◌++◌, Result, Ok, Err, Box, Global, refl, sym, subst, ap, ◌∙◌, arith, append-nil}
use Rattle.tks_text.specs.declared.limits.Limits.{Limits}
use Rattle.tks_tcl.specs.declared.stop.Stop.{Stop}
use Rattle.tks_eval.specs.Outcome.{Outcome, Meaning, fails}
use Rattle.tks_eval.specs.Meets.{StopsSo}
use Rattle.tks_eval.specs.Evaluation.{Loop}
use Rattle.tks_eval.specs.Machine.{after_frame, left_below, resume, opens_do, ended, done_by, loop_weight, frame_weight, frames_weight, opens_weight, waits_weight, RunsSo, ComesSo, ToldSo, GoesSo, FallsBelow, halted}
use Rattle.tks_eval.specs.declared.frame.Ending.{Ending}
use Rattle.tks_eval.specs.declared.frame.Frame.{Frame}
use Rattle.tks_eval.specs.declared.frame.Frame.TheVariants as frame
use Rattle.tks_eval.specs.declared.frame.Opens.{Opens}
use Rattle.tks_eval.specs.declared.frame.Opens.TheVariants as opens
use Rattle.tks_eval.specs.declared.frame.Waiting.{Waiting}
use Rattle.tks_eval.specs.declared.loops.Stage.{Stage}
use Rattle.tks_eval.specs.declared.loops.Stage.TheVariants as stage
use Rattle.tks_eval.specs.declared.frame.Came.{Came}
use Rattle.tks_eval.specs.declared.frame.Came.TheVariants as came
use Rattle.tks_eval.specs.declared.halt.Halt.{Halt}
use Rattle.tks_eval.specs.declared.halt.Halt.TheVariants as halt
use Rattle.tks_eval.specs.declared.machine.Machine.{Machine}
use Rattle.tks_eval.proofs.Frames.{resume_append, resume_stops, weight_append}
use Rattle.tks_eval.proofs.Scripts.{failed_is, failed_stops}

-- what is left to do
abbrev pub turns_left : Result Came Halt → List Frame → ℕ
turns_left (Ok (came.Ended end)) stack = frames_weight stack
turns_left (Ok (came.Waits w)) stack = waits_weight w.value + frames_weight stack
turns_left (Err why) stack = frames_weight stack

-- it is as much where an error is an end
told_left : (limits : Limits) (came : Result Came Halt) (told : Came) (stack : List Frame) → ToldSo limits came (Ok told) → turns_left (Ok told) stack ≡ turns_left came stack
told_left limits (Ok c) told stack h = ap (λ k. turns_left (Ok k) stack) h
told_left limits (Err (halt.Fault fault)) (came.Ended end) stack h = refl
told_left limits (Err (halt.Fault fault)) (came.Waits w) stack h = absurd h
told_left limits (Err (halt.Stop why)) told stack h = absurd h

-- less is left behind a turn that took no step
falls_left : (result : Result Came Halt) (size old new : ℕ) (stack : List Frame) → FallsBelow result size old new → 0 < size → new ≡ old
    → turns_left result stack < size + frames_weight stack
falls_left (Ok (came.Ended end)) size old new stack h some same = omega (arith, some)
falls_left (Ok (came.Waits w)) size old new stack h some same = let less = h.1 same in omega (arith, less)
falls_left (Err why) size old new stack h some same = omega (arith, some)

opens_some : (o : Opens) → 0 < opens_weight o
opens_some (opens.Script script) = omega arith
opens_some (opens.Index parts) = omega arith
opens_some (opens.Things due) = omega arith

loop_some : (s : Stage) (loop : Loop) → 0 < loop_weight s loop
loop_some stage.Start loop = omega arith
loop_some stage.Condition loop = omega arith
loop_some stage.Body loop = omega arith
loop_some stage.Next loop = omega arith

frame_some : (f : Frame) → 0 < frame_weight f
frame_some (frame.Commands rest levels) = omega arith
frame_some (frame.Command words expand rest) = omega arith
frame_some (frame.Nested made parts) = omega arith
frame_some (frame.Element name made parts) = omega arith
frame_some (frame.Catch name) = omega arith
frame_some (frame.Each name body elements) = omega arith
frame_some (frame.Value c) = omega arith
frame_some frame.Whole = omega arith
frame_some (frame.Branch body rest) = omega arith
frame_some (frame.Turns s loop) = loop_some s loop
frame_some frame.Procedure = omega arith
frame_some frame.Global = omega arith
frame_some (frame.Scripts window scripts) = omega arith
frame_some frame.Thing = omega arith
frame_some (frame.Update due) = omega arith

-- a frame goes on with an end: less is left
pub frame_falls : (limits : Limits) (reached : Result Came Halt) (end : Ending) (stack below : List Frame) (f : Frame) (result : Result Came Halt) (old new : ℕ)
    → ToldSo limits reached (Ok (came.Ended end)) → stack ≡ f ∷ below → FallsBelow result (frame_weight f) old new → new ≡ old → turns_left result below < turns_left reached stack
frame_falls limits reached end stack below f result old new told is falls same =
    let less = falls_left result (frame_weight f) old new below falls (frame_some f) same in
    let left = told_left limits reached (came.Ended end) stack told in
    let all = ap frames_weight is in
    omega (arith, less, left, all)

-- and what waits is opened
pub open_falls : (limits : Limits) (reached : Result Came Halt) (w : Box Waiting Global) (stack more : List Frame) (o : Opens) (result : Result Came Halt) (old new : ℕ)
    → ToldSo limits reached (Ok (came.Waits w)) → o ≡ w.value.opens → more ≡ w.value.frames.items ++ stack → FallsBelow result (opens_weight o) old new → new ≡ old
    → turns_left result more < turns_left reached stack
open_falls limits reached w stack more o result old new told opened is falls same =
    let less = falls_left result (opens_weight o) old new more falls (opens_some o) same in
    let left = told_left limits reached (came.Waits w) stack told in
    let all = ap frames_weight is ∙ weight_append w.value.frames.items stack in
    let weighs = ap opens_weight opened in
    omega (arith, less, left, all, weighs)

module _ {S : Type 0} (host : Meaning S) (state : S) where
  -- an error that is an end goes on as it did
  pub told_goes : (whole : Outcome S) (stack : List Frame) (came : Result Came Halt) (told : Came) (m : Machine) → ToldSo m.limits came (Ok told)
      → GoesSo host whole stack came m state → GoesSo host whole stack (Ok told) m state
  told_goes whole stack (Ok c) told m h goes = subst (λ k. GoesSo host whole stack (Ok k) m state) (sym h) goes
  told_goes whole stack (Err (halt.Fault fault)) (came.Ended end) m h goes =
      goes ∙ ap (resume host m.limits m.left stack) (failed_is m.limits state m.variables m.fuel fault end h)
  told_goes whole stack (Err (halt.Fault fault)) (came.Waits w) m h goes = absurd h
  told_goes whole stack (Err (halt.Stop why)) told m h goes = absurd h

  -- or it stops the whole
  pub told_stops : (whole : Outcome S) (stack : List Frame) (came : Result Came Halt) (why : Stop) (m : Machine) → ToldSo m.limits came (Err why)
      → GoesSo host whole stack came m state → StopsSo whole why
  told_stops whole stack (Ok c) why m h goes = absurd h
  told_stops whole stack (Err (halt.Fault fault)) why m h goes =
      subst (λ o. StopsSo o why) (sym goes)
      (resume_stops host m.limits m.left stack (fails m.limits fault state m.variables m.fuel) why (failed_stops m.limits state m.variables m.fuel fault why h))
  told_stops whole stack (Err (halt.Stop other)) why m h goes = subst (λ k. StopsSo whole k) (sym h) goes

module _ {S : Type 0} (host : Meaning S) (stack : List Frame) (m : Machine) (state : S) where
  -- what came of what was on top of a stack goes on with the stack
  comes_goes : (below : ℕ) (whole : Outcome S) (result : Result Came Halt) → ComesSo host true below whole result m state
      → GoesSo host (resume host m.limits below stack whole) stack result m state
  comes_goes below whole (Ok (came.Ended end)) h =
      ap (resume host m.limits below stack) h.0 ∙ ap (λ k. resume host m.limits k stack (done_by (ended end) state m)) (sym h.1)
  comes_goes below whole (Ok (came.Waits w)) h =
      let opened = done_by (opens_do host m.limits m.left w.value.opens) state m in
      ap (resume host m.limits below stack) h.0
      ∙ ap (λ k. resume host m.limits k stack (resume host m.limits m.left w.value.frames.items opened)) (sym h.1)
      ∙ sym (resume_append host m.limits m.left w.value.frames.items stack opened)
  comes_goes below whole (Err (halt.Fault fault)) h =
      ap (resume host m.limits below stack) h.0 ∙ ap (λ k. resume host m.limits k stack (fails m.limits fault state m.variables m.fuel)) (sym h.1)
  comes_goes below whole (Err (halt.Stop why)) h = resume_stops host m.limits below stack whole why h

  -- within limits that are the same
  goes_within : (limits : Limits) (below : ℕ) (all whole : Outcome S) (result : Result Came Halt) → m.limits ≡ limits → all ≡ resume host limits below stack whole
      → ComesSo host true below whole result m state → GoesSo host all stack result m state
  goes_within limits below all whole result within is h =
      subst (λ o. GoesSo host o stack result m state) (sym (is ∙ ap (λ l. resume host l below stack whole) (sym within))) (comes_goes below whole result h)

  -- a frame goes on with an end
  pub frame_goes : (all : Outcome S) (old : Machine) (there : S) (end : Ending) (before : List Frame) (f : Frame) (result : Result Came Halt)
      → m.limits ≡ old.limits → before ≡ f ∷ stack → GoesSo host all before (Ok (came.Ended end)) old there
      → ComesSo host true (left_below old.left f) (after_frame host old.limits old.left f (done_by (ended end) there old)) result m state
      → GoesSo host all stack result m state
  frame_goes all old there end before f result within is goes h =
      goes_within old.limits (left_below old.left f) all (after_frame host old.limits old.left f (done_by (ended end) there old)) result within
      (goes ∙ ap (λ fs. resume host old.limits old.left fs (done_by (ended end) there old)) is) h

  -- and what waits is opened
  pub open_goes : (all : Outcome S) (old : Machine) (there : S) (w : Box Waiting Global) (o : Opens) (before : List Frame) (result : Result Came Halt)
      → m.limits ≡ old.limits → o ≡ w.value.opens → stack ≡ w.value.frames.items ++ before → GoesSo host all before (Ok (came.Waits w)) old there
      → ComesSo host true old.left (done_by (opens_do host old.limits old.left o) there old) result m state
      → GoesSo host all stack result m state
  open_goes all old there w o before result within opened is goes h =
      goes_within old.limits old.left all (done_by (opens_do host old.limits old.left o) there old) result within
      (goes ∙ ap (λ k. resume host old.limits old.left (w.value.frames.items ++ before) (done_by (opens_do host old.limits old.left k) there old)) (sym opened)
      ∙ ap (λ fs. resume host old.limits old.left fs (done_by (opens_do host old.limits old.left o) there old)) (sym is)) h

-- what no error ends goes on with nothing behind it
pub runs_goes : {S : Type 0} (host : Meaning S) (m : Machine) (state : S) (below : ℕ) (whole : Outcome S) (result : Result Came Stop) → RunsSo host true below whole result m state
    → GoesSo host whole [] (halted result) m state
runs_goes host m state below whole (Ok (came.Ended end)) h = h.0
runs_goes host m state below whole (Ok (came.Waits w)) h =
    h.0 ∙ ap (λ fs. resume host m.limits m.left fs (done_by (opens_do host m.limits m.left w.value.opens) state m)) (sym (append-nil w.value.frames.items))
runs_goes host m state below whole (Err why) h = h
