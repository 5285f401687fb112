-- Things that wait are done one after the other, until none waits.
use Rattle.std.proofs.Common.{◌≡◌, ◌≤◌, ℕ, zero, suc, List, [], refl, subst, ap, ◌∙◌, arith}
use Rattle.tks_text.specs.declared.limits.Limits.{Limits}
use Rattle.tks_vars.specs.Variables.{Variables}
use Rattle.tks_eval.specs.Outcome.{Outcome, End, Stopped, OutOfSteps, Next, Level, Taken, Nothing, Takes, TooMuch, Meaning, after_step, after_taken, caught}
use Rattle.tks_eval.specs.Evaluation.{settled, plan_with, noted, thing_with, things_do, update_does, thing_does, evaluate}
use Rattle.tks_eval.specs.Laws.{UpdatesUnroll, UpdatesLeaveNothing}
use Rattle.tks_eval.specs.declared.host.Due.{Due}
use Rattle.tks_eval.specs.declared.host.Plan.{Plan}
use Rattle.tks_eval.specs.declared.host.Plan.TheVariants as plan
use Rattle.tks_eval.proofs.Spending.{Spends, Thrifty, Within, thing_with_spends, things_spend, evaluate_spends}
use Rattle.tks_eval.proofs.Turns.{SameUpTo}

module _ {S : Type 0} where
  caught_same : (bound : ℕ) (outcome : Outcome S) (f g : ℕ → List ℕ → Next S) → Spends bound outcome → ((code : ℕ) (text : List ℕ) → SameUpTo bound (f code text) (g code text))
      → caught outcome f ≡ caught outcome g
  caught_same bound (Stopped why) f g h k = refl
  caught_same bound (End code text state variables fuel) f g h k = k code text state variables fuel h

  -- what follows on what was taken out is the same where it is behind each plan
  taken_same : (taken : Taken S) (state : S) (variables : Variables) (fuel : ℕ) (f g : Plan → Next S) → ((p : Plan) (s : S) → f p s variables fuel ≡ g p s variables fuel)
      → after_taken taken state variables fuel f ≡ after_taken taken state variables fuel g
  taken_same Nothing state variables fuel f g h = refl
  taken_same (Takes p s) state variables fuel f g h = h p s
  taken_same TooMuch state variables fuel f g h = refl

-- ---- an `update` takes out the next, does it, and is an `update` again

module _ {S : Type 0} (host : Meaning S) (limits : Limits) (inner : Level S) (thrifty : Thrifty inner) where
  plan_same : (f g : Due → Next S) (p : Plan) (state : S) (variables : Variables) (fuel : ℕ) → ((due : Due) → f due state variables fuel ≡ g due state variables fuel)
      → plan_with host f inner p state variables fuel ≡ plan_with host g inner p state variables fuel
  plan_same f g (plan.Answer code text) state variables fuel h = refl
  plan_same f g (plan.Eval script) state variables fuel h = refl
  plan_same f g (plan.Dispatch window scripts) state variables fuel h = refl
  plan_same f g (plan.Update due) state variables fuel h = h due

  -- a thing, and then such an `update`
  abbrev one_then : (Due → Next S) → Due → Plan → Next S
  one_then update due p state variables fuel = caught (thing_with host limits update inner p state variables fuel) (λ code text. update due)

  one_same : (f g : Due → Next S) (bound : ℕ) → ((due : Due) (bound : ℕ) → Within bound (f due)) → ((due : Due) → SameUpTo bound (f due) (g due))
      → (due : Due) (p : Plan) (state : S) (variables : Variables) → one_then f due p state variables bound ≡ one_then g due p state variables bound
  one_same f g bound spend same due p state variables =
      caught_same bound (thing_with host limits f inner p state variables bound) (λ code text. f due) (λ code text. g due)
      (thing_with_spends host limits inner thrifty f spend p bound state variables bound (omega arith)) (λ code text. same due)
      ∙ ap (λ o. caught (noted host (settled limits o)) (λ code text. g due)) (plan_same f g p state variables bound (λ d. same d state variables bound (omega arith)))

  -- behind its step
  abbrev step_then : (Due → Next S) → Due → Plan → Next S
  step_then update due p state variables fuel = after_step fuel (λ fuel. one_then update due p state variables fuel)

  -- with no step left nothing is done
  abbrev none_then : Plan → Next S
  none_then p state variables fuel = Stopped OutOfSteps

  -- any number of things will do that isn't less than the steps
  things_same : (n m : ℕ) (due : Due) (state : S) (variables : Variables) (fuel : ℕ) → fuel ≤ n → fuel ≤ m
      → things_do host limits n inner due state variables fuel ≡ things_do host limits m inner due state variables fuel
  things_same zero zero due state variables fuel h k = refl
  things_same zero (suc m) due state variables zero h k =
      taken_same (host.next due state) state variables zero none_then (step_then (things_do host limits m inner) due) (λ p s. refl)
  things_same zero (suc m) due state variables (suc fuel) h k = absurd (omega (arith, h))
  things_same (suc n) zero due state variables zero h k =
      taken_same (host.next due state) state variables zero (step_then (things_do host limits n inner) due) none_then (λ p s. refl)
  things_same (suc n) zero due state variables (suc fuel) h k = absurd (omega (arith, k))
  things_same (suc n) (suc m) due state variables zero h k =
      taken_same (host.next due state) state variables zero (step_then (things_do host limits n inner) due) (step_then (things_do host limits m inner) due) (λ p s. refl)
  things_same (suc n) (suc m) due state variables (suc fuel) h k =
      taken_same (host.next due state) state variables (suc fuel) (step_then (things_do host limits n inner) due) (step_then (things_do host limits m inner) due) (λ p s.
      one_same (things_do host limits n inner) (things_do host limits m inner) fuel (things_spend host limits inner thrifty n)
      (λ d t v u l. things_same n m d t v u (omega (arith, h, l)) (omega (arith, k, l))) due p s variables)

  pub update_unrolls : (due : Due) (state : S) (variables : Variables) (fuel : ℕ)
      → update_does host limits inner due state variables fuel
      ≡ after_taken (host.next due state) state variables fuel (λ p state variables fuel. after_step fuel (λ fuel.
      caught (thing_does host limits inner p state variables fuel) (λ code text. update_does host limits inner due)))
  update_unrolls due state variables zero =
      taken_same (host.next due state) state variables zero none_then (step_then (update_does host limits inner) due) (λ p s. refl)
  update_unrolls due state variables (suc fuel) =
      taken_same (host.next due state) state variables (suc fuel) (step_then (things_do host limits fuel inner) due) (step_then (update_does host limits inner) due) (λ p s.
      one_same (things_do host limits fuel inner) (update_does host limits inner) fuel (things_spend host limits inner thrifty fuel)
      (λ d t v u l. things_same fuel u d t v u l (omega arith)) due p s variables)

pub updates_unroll : {S : Type 0} (host : Meaning S) → UpdatesUnroll host
updates_unroll host limits depth due = update_unrolls host limits (evaluate host limits depth) (evaluate_spends host limits depth) due

-- ---- behind it nothing waits

module _ {S : Type 0} (host : Meaning S) (due : Due) where
  -- an end with nothing to say, behind which nothing waits
  abbrev LeavesNothing : Outcome S → Type 0
  LeavesNothing (Stopped why) = Unit {0}
  LeavesNothing (End code text state variables fuel) = (code ≡ 0) × (text ≡ []) × (host.next due state ≡ Nothing)

  none_taken : (taken : Taken S) (state : S) (variables : Variables) (fuel : ℕ) (next : Plan → Next S) → host.next due state ≡ taken
      → ((p : Plan) (s : S) → LeavesNothing (next p s variables fuel)) → LeavesNothing (after_taken taken state variables fuel next)
  none_taken Nothing state variables fuel next is h = (refl, refl, is)
  none_taken (Takes p s) state variables fuel next is h = h p s
  none_taken TooMuch state variables fuel next is h = tt

  behind_step : (fuel : ℕ) (next : ℕ → Outcome S) → ((less : ℕ) → LeavesNothing (next less)) → LeavesNothing (after_step fuel next)
  behind_step zero next h = tt
  behind_step (suc fuel) next h = h fuel

  behind_thing : (outcome : Outcome S) (next : Next S) → ((state : S) (variables : Variables) (fuel : ℕ) → LeavesNothing (next state variables fuel))
      → LeavesNothing (caught outcome (λ code text. next))
  behind_thing (Stopped why) next h = tt
  behind_thing (End code text state variables fuel) next h = h state variables fuel

  things_leave_nothing : (limits : Limits) (inner : Level S) (most : ℕ) (state : S) (variables : Variables) (fuel : ℕ) → LeavesNothing (things_do host limits most inner due state variables fuel)
  things_leave_nothing limits inner zero state variables fuel =
      none_taken (host.next due state) state variables fuel (λ p state variables fuel. Stopped OutOfSteps) refl (λ p s. tt)
  things_leave_nothing limits inner (suc most) state variables fuel =
      none_taken (host.next due state) state variables fuel
      (λ p state variables fuel. after_step fuel (λ fuel. caught (thing_with host limits (things_do host limits most inner) inner p state variables fuel) (λ code text. things_do host limits most inner due))) refl
      (λ p s. behind_step fuel (λ fuel. caught (thing_with host limits (things_do host limits most inner) inner p s variables fuel) (λ code text. things_do host limits most inner due)) (λ less.
      behind_thing (thing_with host limits (things_do host limits most inner) inner p s variables less) (things_do host limits most inner due) (things_leave_nothing limits inner most)))

pub updates_leave_nothing : {S : Type 0} (host : Meaning S) → UpdatesLeaveNothing host
updates_leave_nothing host limits inner due state variables fuel code text state' variables' left e =
    subst (LeavesNothing host due) e (things_leave_nothing host due limits inner fuel state variables fuel)
