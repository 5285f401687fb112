-- What waits is done before a script goes on (update(n)).
use Rattle.std.specs.Prelude.{ℕ, if◌then◌else◌, codes, List, [], ◌∷◌, Result, Ok}
use Rattle.tks_text.specs.Text.{same_text}
use Rattle.tks_tcl.specs.Cause.{Cause, wrong_words}
use Rattle.tks_eval.specs.declared.host.Due.TheVariants as due
use Rattle.tks_eval.specs.declared.host.Plan.{Plan}
use Rattle.tks_eval.specs.declared.host.Plan.TheVariants as plan

-- update, update idletasks
abbrev pub update_does : List ℕ → List (List ℕ) → Result Plan Cause
update_does command [] = Ok (plan.Update due.All)
update_does command (form ∷ []) = if same_text form (codes "idletasks") then Ok (plan.Update due.Idle) else wrong_words command
update_does command words = wrong_words command
