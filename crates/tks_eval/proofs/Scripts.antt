-- Scripts: the first of their commands, and those behind it.
use Rattle.std.proofs.Common.{◌≡◌, ◌≤◌, ◌<◌, ◌+◌, ◌-◌, ℕ, zero, suc, Bool, true, false, cond, List, [], Some, Result, Ok, Err, refl, sym, subst, ap, ◌∙◌, arith}
use Rattle.tks_text.specs.Fault.{fault_text}
use Rattle.tks_text.specs.declared.fault.ScriptFault.{ScriptFault}
use Rattle.tks_text.specs.declared.limits.Limits.{Limits}
use Rattle.tks_parse.specs.Tree.{Script, no_command, faulty, command, Words, words_size, script_size}
use Rattle.tks_parse.specs.View.{first_words, behind}
use Rattle.tks_vars.specs.Variables.{Variables}
use Rattle.tks_tcl.specs.declared.stop.Stop.{Stop}
use Rattle.tks_tcl.specs.declared.stop.Stop.TheVariants as stop
use Rattle.tks_eval.specs.Outcome.{Outcome, End, Stopped, TooLarge, Next, Level, Meaning, after, fails}
use Rattle.tks_eval.specs.Meets.{FailsSo, StopsSo}
use Rattle.tks_eval.specs.Evaluation.{words_do, commands_do, evaluate}
use Rattle.tks_eval.specs.Machine.{EndsAs, CameSo, RunsSo, ComesSo, ToldSo, FallsTo}
use Rattle.tks_eval.specs.declared.frame.Ending.{Ending}
use Rattle.tks_eval.specs.declared.frame.Came.{Came}
use Rattle.tks_eval.specs.declared.frame.Came.TheVariants as came
use Rattle.tks_eval.specs.declared.halt.Halt.{Halt}
use Rattle.tks_eval.specs.declared.halt.Halt.TheVariants as halt
use Rattle.tks_eval.specs.declared.machine.Machine.{Machine}
use Rattle.tks_eval.proofs.After.{after_done}
use Rattle.tks_eval.proofs.Coming.{ends_as}

pub first_then : (script : Script) (words : Words) → first_words script ≡ Some words → script ≡ command words (behind script)
first_then no_command words h = absurd cc
first_then (faulty fault) words h = absurd cc
first_then (command ws rest) words h = cc

-- what is behind the first command is smaller
pub behind_smaller : (script : Script) (words : Words) → first_words script ≡ Some words → 1 + words_size words + script_size (behind script) ≤ script_size script
behind_smaller script words h = let whole = ap script_size (first_then script words h) in omega (arith, whole)

module _ {S : Type 0} (limits : Limits) (state : S) (variables : Variables) (fuel : ℕ) where
  -- an error's text makes an end, or passes the limit
  pub failed_is : (fault : ScriptFault) (end : Ending) → FailsSo limits fault (Ok end) → fails limits fault state variables fuel ≡ End end.code end.text state variables fuel
  failed_is fault end h =
      ap (λ b. cond b (End 1 (fault_text fault) state variables fuel) (Stopped TooLarge)) h.2
      ∙ ap (λ k. End k (fault_text fault) state variables fuel) (sym h.0) ∙ ap (λ t. End end.code t state variables fuel) (sym h.1)

  pub failed_stops : (fault : ScriptFault) (why : Stop) → FailsSo limits fault (Err why) → StopsSo (fails limits fault state variables fuel) why
  failed_stops fault stop.TooLarge h = ap (λ b. cond b (End 1 (fault_text fault) state variables fuel) (Stopped TooLarge)) h
  failed_stops fault stop.NoMemory h = tt
  failed_stops fault stop.Budget h = absurd h
  failed_stops fault stop.Depth h = absurd h

-- nothing that follows asks for the text of an end by code 0
after_heard : {S : Type 0} (given : Bool) (does : Outcome S) (code : ℕ) (text : List ℕ) (next : Next S) (state : S) (variables : Variables) (fuel : ℕ)
    → EndsAs given does (record { code = code; text = text }) state variables fuel → after does (λ text. next) ≡ after (End code text state variables fuel) (λ text. next)
after_heard true does code text next state variables fuel h = ap (λ o. after o (λ text. next)) h
after_heard false does zero text next state variables fuel h = ap (λ o. after o (λ text. next)) h.0
after_heard false does (suc code) text next state variables fuel h =
    ap (λ o. after o (λ text. next)) h.0 ∙ ap (λ t. after (End (suc code) t state variables fuel) (λ text. next)) (h.1 (λ e. absurd (omega (arith, e))))

-- an end whose text was asked for is one whose text wasn't
ends_less : {S : Type 0} (given : Bool) (does : Outcome S) (end : Ending) (state : S) (variables : Variables) (fuel : ℕ)
    → EndsAs given does end state variables fuel → EndsAs false does end state variables fuel
ends_less true does end state variables fuel h = ends_as false does end state variables fuel h
ends_less false does end state variables fuel h = h

module _ {S : Type 0} (host : Meaning S) (limits : Limits) (level : Level S) where
  -- a script behind commands that ended so; where nothing is left of it, the text is told as it was asked for
  abbrev pub GoesOn : Bool → Outcome S → Script → Ending → S → Variables → ℕ → Type 0
  GoesOn asked whole no_command end state variables fuel = EndsAs asked whole end state variables fuel
  GoesOn asked whole (faulty fault) end state variables fuel = whole ≡ after (End end.code end.text state variables fuel) (commands_do host limits level (faulty fault))
  GoesOn asked whole (command words rest) end state variables fuel = whole ≡ after (End end.code end.text state variables fuel) (commands_do host limits level (command words rest))

  module _ (asked : Bool) (whole : Outcome S) (end : Ending) (state : S) (variables : Variables) (fuel : ℕ) where
    pub goes_first : (rest : Script) (words : Words) → first_words rest ≡ Some words → end.code ≡ 0 → GoesOn asked whole rest end state variables fuel
        → whole ≡ after (words_do host limits level words [] state variables fuel) (commands_do host limits level (behind rest))
    goes_first rest words first none h =
        let here : whole ≡ after (End end.code end.text state variables fuel) (commands_do host limits level (command words (behind rest)))
        = subst (λ r. GoesOn asked whole r end state variables fuel) (first_then rest words first) h in
        here ∙ ap (λ k. after (End k end.text state variables fuel) (commands_do host limits level (command words (behind rest)))) none

    -- behind a command, the text of which was asked for where it is the whole's
    pub script_goes_on : (given : Bool) (does : Outcome S) (rest : Script) → (asked ≡ true → given ≡ false → rest ≡ no_command → ⊥) → whole ≡ after does (commands_do host limits level rest)
        → EndsAs given does end state variables fuel → GoesOn asked whole rest end state variables fuel
    script_goes_on given does (faulty fault) more h k = h ∙ after_heard given does end.code end.text (commands_do host limits level (faulty fault) []) state variables fuel k
    script_goes_on given does (command words rest) more h k = h ∙ after_heard given does end.code end.text (commands_do host limits level (command words rest) []) state variables fuel k
    script_goes_on given does no_command more h k =
        let same : whole ≡ does = h ∙ after_done does in
        subst (λ o. EndsAs asked o end state variables fuel) (sym same) (told asked given more k)
      where
        told : (asked given : Bool) → (asked ≡ true → given ≡ false → no_command ≡ no_command → ⊥) → EndsAs given does end state variables fuel → EndsAs asked does end state variables fuel
        told true true more k = k
        told true false more k = absurd (more refl refl refl)
        told false given more k = ends_less given does end state variables fuel k

-- a script that is opened begins behind an end with nothing to say
pub script_opens : {S : Type 0} (host : Meaning S) (limits : Limits) (left : ℕ) (script : Script) (state : S) (variables : Variables) (fuel : ℕ) → 0 < left
    → evaluate host limits left script state variables fuel ≡ after (End 0 [] state variables fuel) (commands_do host limits (evaluate host limits (left - 1)) script)
script_opens host limits zero script state variables fuel some = absurd (omega (arith, some))
script_opens host limits (suc n) script state variables fuel some =
    let one : suc n - 1 ≡ n = omega arith in ap (λ k. commands_do host limits (evaluate host limits k) script [] state variables fuel) (sym one)

-- one of a single command does what that does
pub lone_opens : {S : Type 0} (host : Meaning S) (limits : Limits) (left : ℕ) (script : Script) (words : Words) (state : S) (variables : Variables) (fuel : ℕ) → 0 < left → script ≡ command words no_command
    → evaluate host limits left script state variables fuel ≡ words_do host limits (evaluate host limits (left - 1)) words [] state variables fuel
lone_opens host limits left script words state variables fuel some is =
    let level = evaluate host limits (left - 1) in
    script_opens host limits left script state variables fuel some
    ∙ ap (λ s. after (End 0 [] state variables fuel) (commands_do host limits level s)) is
    ∙ after_done (words_do host limits level words [] state variables fuel)

-- what came of a thing, where an error is an end
pub told_runs : {S : Type 0} (host : Meaning S) (asked : Bool) (below : ℕ) (whole : Outcome S) (m : Machine) (state : S) (came : Result Came Halt) (told : Result Came Stop)
    → ToldSo m.limits came told → ComesSo host asked below whole came m state → RunsSo host asked below whole told m state
told_runs host asked below whole m state (Ok c) (Ok told) h comes = subst (λ k. CameSo host asked below whole k m state) (sym h) comes
told_runs host asked below whole m state (Ok c) (Err why) h comes = absurd h
told_runs host asked below whole m state (Err (halt.Fault fault)) (Ok (came.Ended end)) h comes =
    (ends_as asked whole end state m.variables m.fuel (comes.0 ∙ failed_is m.limits state m.variables m.fuel fault end h), comes.1)
told_runs host asked below whole m state (Err (halt.Fault fault)) (Ok (came.Waits w)) h comes = absurd h
told_runs host asked below whole m state (Err (halt.Fault fault)) (Err why) h comes =
    subst (λ o. StopsSo o why) (sym comes.0) (failed_stops m.limits state m.variables m.fuel fault why h)
told_runs host asked below whole m state (Err (halt.Stop other)) (Ok told) h comes = absurd h
told_runs host asked below whole m state (Err (halt.Stop other)) (Err why) h comes = subst (λ k. StopsSo whole k) (sym h) comes

-- and no more is left of it
pub told_falls : (limits : Limits) (came : Result Came Halt) (told : Result Came Stop) (size old new : ℕ) → ToldSo limits came told → FallsTo came size old new → FallsTo told size old new
told_falls limits (Ok (came.Ended end)) (Ok told) size old new h fell = subst (λ k. FallsTo {E = Stop} (Ok k) size old new) (sym h) fell
told_falls limits (Ok (came.Waits w)) (Ok told) size old new h fell = subst (λ k. FallsTo {E = Stop} (Ok k) size old new) (sym h) fell
told_falls limits (Ok c) (Err why) size old new h fell = absurd h
told_falls limits (Err (halt.Fault fault)) (Ok (came.Ended end)) size old new h fell = fell
told_falls limits (Err (halt.Fault fault)) (Ok (came.Waits w)) size old new h fell = absurd h
told_falls limits (Err (halt.Fault fault)) (Err why) size old new h fell = fell
told_falls limits (Err (halt.Stop other)) (Ok told) size old new h fell = absurd h
told_falls limits (Err (halt.Stop other)) (Err why) size old new h fell = fell
