use Rattle.std.proofs.Common.{refl}
use Rattle.tks_world.proofs.Resting.{steps_rest, runs_rest}
use Rattle.tks_world.proofs.laws.no_frame_stands_between_inputs.Goals as goal

pub returns-clause-first : goal.returns-clause-first
returns-clause-first c = λ grid names. refl

pub returns-clause-step : goal.returns-clause-step
returns-clause-step c = steps_rest

pub returns-clause-run : goal.returns-clause-run
returns-clause-run c = runs_rest
