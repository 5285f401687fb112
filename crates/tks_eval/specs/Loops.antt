-- What is left of a loop behind each of its scripts, and behind its condition.
use Rattle.tks_text.specs.declared.limits.Limits.{Limits}
use Rattle.tks_eval.specs.Outcome.{Outcome, Level, after, after_body, after_next}
use Rattle.tks_eval.specs.Evaluation.{Loop, after_truth, behind_body, turn_does, loop_does, done}
use Rattle.tks_eval.specs.declared.loops.Stage.{Stage}
use Rattle.tks_eval.specs.declared.loops.Stage.TheVariants as stage

-- what a loop makes of the end that it waited for
abbrev pub after_stage : {S : Type 0} → Limits → Level S → Stage → Loop → Outcome S → Outcome S
after_stage limits inner stage.Start loop outcome = after outcome (λ text. loop_does limits inner loop)
after_stage limits inner stage.Condition loop outcome = after_truth limits outcome (turn_does inner loop (loop_does limits inner loop)) done
after_stage limits inner stage.Body loop outcome = after_body outcome (behind_body inner loop (loop_does limits inner loop))
after_stage limits inner stage.Next loop outcome = after_next outcome (loop_does limits inner loop)
