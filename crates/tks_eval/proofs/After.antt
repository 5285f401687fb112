-- What follows on an end.
use Rattle.std.proofs.Common.{◌≡◌, ◌==◌, ℕ, true, false, cond, List, Result, Ok, Err, refl, ap, rules}
use Rattle.tks_text.specs.Fault.{fault_text}
use Rattle.tks_text.specs.declared.fault.ScriptFault.{ScriptFault}
use Rattle.tks_text.specs.declared.limits.Limits.{Limits}
use Rattle.tks_text.specs.Limits.{fits}
use Rattle.tks_vars.specs.Variables.{Variables}
use Rattle.tks_tcl.specs.Cause.{Cause, Fault, OverLimit}
use Rattle.tks_tcl.specs.Cause as tcl
use Rattle.tks_eval.specs.Outcome.{Outcome, End, Stopped, TooLarge, Next, after, fails, given}
use Rattle.tks_eval.specs.Evaluation.{text_done}

module _ {S : Type 0} where
  -- an end with another code than 0 stays
  pub after_other : (code : ℕ) (text : List ℕ) (state : S) (variables : Variables) (fuel : ℕ) (next : List ℕ → Next S) → (code == 0) ≡ false
      → after (End code text state variables fuel) next ≡ End code text state variables fuel
  after_other code text state variables fuel next h = ap (λ b. cond b (next text state variables fuel) (End code text state variables fuel)) h

  -- what follows on a text alone depends on what it does with each
  pub after_same : (outcome : Outcome S) (f g : List ℕ → Next S) → ((x : List ℕ) (s : S) (v : Variables) (u : ℕ) → f x s v u ≡ g x s v u) → after outcome f ≡ after outcome g
  after_same (Stopped why) f g h = refl
  after_same (End code text state variables fuel) f g h = ap (λ o. cond (code == 0) o (End code text state variables fuel)) (h text state variables fuel)

  pub after_after : (outcome : Outcome S) (f g : List ℕ → Next S) → after (after outcome f) g ≡ after outcome (λ x s v u. after (f x s v u) g)
  after_after (Stopped why) f g = refl
  after_after (End code text state variables fuel) f g = elim (code == 0) as (λ b. (code == 0) ≡ b →
      after (cond b (f text state variables fuel) (End code text state variables fuel)) g ≡ cond b (after (f text state variables fuel) g) (End code text state variables fuel)) [
        | true ↦ λ e. refl
        | false ↦ λ e. after_other code text state variables fuel g e
      ] refl

  pub after_done : (outcome : Outcome S) → after outcome text_done ≡ outcome
  after_done (Stopped why) = refl
  after_done (End code text state variables fuel) = elim (code == 0) as (λ b. (code == 0) ≡ b →
      cond b (End 0 text state variables fuel) (End code text state variables fuel) ≡ End code text state variables fuel) [
        | true ↦ λ e. let zero : code ≡ 0 = search rules in rw zero refl
        | false ↦ λ e. refl
      ] refl

  module _ (limits : Limits) where
    pub after_fails : (fault : ScriptFault) (state : S) (variables : Variables) (fuel : ℕ) (next : List ℕ → Next S)
        → after (fails limits fault state variables fuel) next ≡ fails limits fault state variables fuel
    after_fails fault state variables fuel next = elim (fits limits (fault_text fault)) as (λ b.
        after (cond b (End 1 (fault_text fault) state variables fuel) (Stopped TooLarge)) next ≡ cond b (End 1 (fault_text fault) state variables fuel) (Stopped TooLarge)) [
          | true ↦ refl
          | false ↦ refl
        ]

    -- what follows on a value that is made of another one
    pub given_after : {X Y : Type 0} (state : S) (variables : Variables) (fuel : ℕ) (r : Result X Cause) (f : X → Result Y Cause) (next : Y → Outcome S)
        → given limits (tcl.after r f) state variables fuel next ≡ given limits r state variables fuel (λ x. given limits (f x) state variables fuel next)
    given_after state variables fuel (Ok x) f next = refl
    given_after state variables fuel (Err (Fault fault)) f next = refl
    given_after state variables fuel (Err OverLimit) f next = refl

    -- what follows on a value alone depends on what it does with each
    pub given_same : {X : Type 0} (state : S) (variables : Variables) (fuel : ℕ) (r : Result X Cause) (f g : X → Outcome S) → ((x : X) → f x ≡ g x)
        → given limits r state variables fuel f ≡ given limits r state variables fuel g
    given_same state variables fuel (Ok x) f g h = h x
    given_same state variables fuel (Err (Fault fault)) f g h = refl
    given_same state variables fuel (Err OverLimit) f g h = refl
