use Rattle.std.proofs.Common.{◌≡◌, map}
use Rattle.tks_durable.specs.Opening.{same_names}
use Rattle.tks_session.proofs.stepper.stand_under.Given as goal

-- what is left of both tells it
abbrev pub invariant-loop-name : goal.invariant-loop-name
invariant-loop-name l = same_names (map (λ e. e.0) l.name-iterator) l.others ≡ same_names (map (λ e. e.0) l.fn.texts) l.fn.names
