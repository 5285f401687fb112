-- A loop is a test, its body and the loop again.
use Rattle.std.proofs.Common.{◌≡◌, ◌==◌, ◌≤◌, ℕ, zero, suc, Bool, true, false, cond, List, [], Result, Ok, Err, refl, ap, ◌∙◌, arith}
use Rattle.tks_text.specs.declared.limits.Limits.{Limits}
use Rattle.tks_parse.specs.Reading.{script_of}
use Rattle.tks_vars.specs.Variables.{Variables}
use Rattle.tks_tcl.specs.Cause.{Cause, Fault, OverLimit, value_or_fault}
use Rattle.tks_expr.specs.Compiled.{items_in}
use Rattle.tks_expr.specs.declared.items.Item.{Item}
use Rattle.tks_expr.specs.Operation.{truth_of}
use Rattle.tks_eval.specs.Outcome.{Outcome, End, Stopped, Next, Level, after, after_body, after_next, given}
use Rattle.tks_eval.specs.Evaluation.{Loop, if_holds, after_truth, expression_does, tested, script_does, behind_body, turn_does, turns, loop_does, done}
use Rattle.tks_eval.specs.Counting.{items_go}
use Rattle.tks_eval.proofs.Counting.{expression_counts}
use Rattle.tks_eval.proofs.Spending.{Spends, Thrifty, script_spends, expression_spends, optional_spends}

module _ {S : Type 0} where
  -- a test, once its step is taken and its condition is read
  pub tested_reads : (limits : Limits) (inner : Level S) (condition : List ℕ) (first second : Next S) (state : S) (variables : Variables) (fuel less : ℕ) (items : List Item)
      → fuel ≡ suc less → items_in condition ≡ Ok items
      → tested limits inner condition first second state variables fuel ≡ after_truth limits (items_go limits inner items [] state variables less) first second
  tested_reads limits inner condition first second state variables fuel less items step read =
      ap (tested limits inner condition first second state variables) step
      ∙ ap (λ o. after_truth limits o first second) (expression_counts limits state variables less inner condition
      ∙ ap (λ r. given limits (value_or_fault r) state variables less (λ items. items_go limits inner items [] state variables less)) read)

  -- two ways to go on that are the same with no more steps than so many
  abbrev pub SameUpTo : ℕ → Next S → Next S → Type 0
  SameUpTo bound f g = (state : S) (variables : Variables) (fuel : ℕ) → fuel ≤ bound → f state variables fuel ≡ g state variables fuel

  after_same : (bound : ℕ) (outcome : Outcome S) (f g : List ℕ → Next S) → Spends bound outcome → ((x : List ℕ) → SameUpTo bound (f x) (g x)) → after outcome f ≡ after outcome g
  after_same bound (Stopped why) f g h k = refl
  after_same bound (End code text state variables fuel) f g h k = ap (λ o. cond (code == 0) o (End code text state variables fuel)) (k text state variables fuel h)

  body_same : (bound : ℕ) (outcome : Outcome S) (f g : Next S) → Spends bound outcome → SameUpTo bound f g → after_body outcome f ≡ after_body outcome g
  body_same bound (Stopped why) f g h k = refl
  body_same bound (End code text state variables fuel) f g h k =
      ap (λ o. cond (code == 0) o (cond (code == 4) o (cond (code == 3) (End 0 [] state variables fuel) (End code text state variables fuel)))) (k state variables fuel h)

  next_same : (bound : ℕ) (outcome : Outcome S) (f g : Next S) → Spends bound outcome → SameUpTo bound f g → after_next outcome f ≡ after_next outcome g
  next_same bound (Stopped why) f g h k = refl
  next_same bound (End code text state variables fuel) f g h k =
      ap (λ o. cond (code == 0) o (cond (code == 3) (End 0 [] state variables fuel) (End code text state variables fuel))) (k state variables fuel h)

  if_holds_same : (holds : Bool) (f g last : Next S) (state : S) (variables : Variables) (fuel : ℕ) → f state variables fuel ≡ g state variables fuel
      → if_holds holds f last state variables fuel ≡ if_holds holds g last state variables fuel
  if_holds_same true f g last state variables fuel h = h
  if_holds_same false f g last state variables fuel h = refl

  module _ (limits : Limits) (inner : Level S) (thrifty : Thrifty inner) (loop : Loop) where
    given_same : (value : Result Bool Cause) (f g last : Next S) (state : S) (variables : Variables) (fuel : ℕ) → f state variables fuel ≡ g state variables fuel
        → given limits value state variables fuel (λ holds. if_holds holds f last state variables fuel) ≡ given limits value state variables fuel (λ holds. if_holds holds g last state variables fuel)
    given_same (Ok holds) f g last state variables fuel h = if_holds_same holds f g last state variables fuel h
    given_same (Err (Fault fault)) f g last state variables fuel h = refl
    given_same (Err OverLimit) f g last state variables fuel h = refl

    -- a turn is the same where what follows it is
    turn_same : (bound : ℕ) (f g : Next S) → SameUpTo bound f g → SameUpTo bound (turn_does inner loop f) (turn_does inner loop g)
    turn_same bound f g same state variables fuel h =
        body_same bound (inner (script_of loop.body) state variables fuel) (behind_body inner loop f) (behind_body inner loop g)
        (script_spends inner thrifty (script_of loop.body) bound state variables fuel h)
        (λ s v u k. next_same bound (script_does inner loop.next s v u) f g (optional_spends limits inner thrifty loop.next bound s v u k) same)

    test_same : (bound : ℕ) (f g : Next S) → SameUpTo bound f g → (state : S) (variables : Variables)
        → after_truth limits (expression_does limits inner loop.condition state variables bound) (turn_does inner loop f) done
        ≡ after_truth limits (expression_does limits inner loop.condition state variables bound) (turn_does inner loop g) done
    test_same bound f g same state variables =
        after_same bound (expression_does limits inner loop.condition state variables bound)
        (λ text s v u. given limits (value_or_fault (truth_of text)) s v u (λ holds. if_holds holds (turn_does inner loop f) done s v u))
        (λ text s v u. given limits (value_or_fault (truth_of text)) s v u (λ holds. if_holds holds (turn_does inner loop g) done s v u))
        (expression_spends limits inner thrifty loop.condition bound state variables bound (omega arith))
        (λ text s v u k. given_same (value_or_fault (truth_of text)) (turn_does inner loop f) (turn_does inner loop g) done s v u (turn_same bound f g same s v u k))

    -- any number of turns will do that isn't less than the steps
    turns_same : (n m : ℕ) (state : S) (variables : Variables) (fuel : ℕ) → fuel ≤ n → fuel ≤ m → turns limits n inner loop state variables fuel ≡ turns limits m inner loop state variables fuel
    turns_same zero zero state variables fuel h k = refl
    turns_same zero (suc m) state variables zero h k = refl
    turns_same zero (suc m) state variables (suc fuel) h k = absurd (omega (arith, h))
    turns_same (suc n) zero state variables zero h k = refl
    turns_same (suc n) zero state variables (suc fuel) h k = absurd (omega (arith, k))
    turns_same (suc n) (suc m) state variables zero h k = refl
    turns_same (suc n) (suc m) state variables (suc fuel) h k =
        test_same fuel (turns limits n inner loop) (turns limits m inner loop) (λ s v u l. turns_same n m s v u (omega (arith, h, l)) (omega (arith, k, l))) state variables

    -- a loop tests its condition, and then it is its body, the script behind that, and the loop again
    pub loop_unrolls : (state : S) (variables : Variables) (fuel : ℕ)
        → loop_does limits inner loop state variables fuel ≡ tested limits inner loop.condition (turn_does inner loop (loop_does limits inner loop)) done state variables fuel
    loop_unrolls state variables zero = refl
    loop_unrolls state variables (suc fuel) =
        test_same fuel (turns limits fuel inner loop) (loop_does limits inner loop) (λ s v u l. turns_same fuel u s v u l (omega arith)) state variables
