-- What the commands on windows come to: what is to be done for them, the world and the variables that are left, or why
-- there is none (this project's own rule).
use Rattle.std.specs.Prelude.{ℕ, List, [], ◌∷◌, Result, Ok, Err}
use Rattle.tks_text.specs.declared.fault.ErrorNumber.TheVariants.{NotAllowedOnRoot}
use Rattle.tks_tcl.specs.Cause.{Cause, Fault, OverLimit, after, bare}
use Rattle.tks_vars.specs.Variables.{Variables}
use Rattle.tks_tree.specs.Windows as tree
use Rattle.tks_opt.specs.declared.said.Said.{Said}
use Rattle.tks_opt.specs.declared.said.Said.TheVariants as said
use Rattle.tks_state.specs.World.{World}
use Rattle.tks_eval.specs.declared.host.Plan.{Plan}
use Rattle.tks_eval.specs.declared.host.Plan.TheVariants as plan

pub record Outcome : Type 0 where
  pub plan : Plan
  pub world : World
  pub variables : Variables

abbrev pub outcome : Plan → World → Variables → Outcome
outcome p w variables = record { plan = p; world = w; variables = variables }

-- a text is the answer itself, a script is run for it
abbrev pub plan_of : Said → Plan
plan_of (said.Text text) = plan.Answer 0 text
plan_of (said.Run script) = plan.Eval script

-- of a command that looks at no variables: the answer, and the world that is left
abbrev pub Changed : Type 0
Changed = List ℕ × World

-- an empty answer
abbrev pub silent : World → Result Changed Cause
silent w = Ok ([], w)

-- it leaves the variables
abbrev pub beside : Variables → Result Changed Cause → Result Outcome Cause
beside variables r = after r (λ x. Ok (outcome (plan.Answer 0 x.0) x.1 variables))

-- the error about what `.` is not allowed
abbrev pub not_on_root : {X : Type 0} → Result X Cause
not_on_root = Err (Fault (bare NotAllowedOnRoot))

-- where numbers of windows ran out, a limit is passed
abbrev pub creation : {X : Type 0} → Result X tree.Refusal → Result X Cause
creation (Ok x) = Ok x
creation (Err (tree.Fault fault)) = Err (Fault fault)
creation (Err tree.OutOfNumbers) = Err OverLimit

-- what comes of each item of a list, in order, up to the first of which nothing comes
abbrev pub each : {X Y : Type 0} → (X → Result Y Cause) → List X → Result (List Y) Cause
each f [] = Ok []
each f (x ∷ xs) = after (f x) (λ y. after (each f xs) (λ ys. Ok (y ∷ ys)))
