-- Several turns of a run, while they are answered.
use Rattle.std.specs.Prelude.{◌≡◌, ℕ, List, ◌++◌, Option, Result, Ok, Err}
use Rattle.tks_input.specs.declared.input.Input.{Input}
use Rattle.tks_session.specs.Sessions.{Setting}
use Rattle.tks_desk.specs.Answers.{Memory, Standing, Talk, drained, said}
use Rattle.tks_desk.specs.Writing.{WritesSo}
use Rattle.tks_desk.specs.declared.ending.RunFault.{RunFault}

-- more is written, unless writing failed before
abbrev pub WritesOn : Result (Unit {0}) RunFault → Result (Unit {0}) RunFault → Option (List ℕ) → Option (List ℕ) → List ℕ → Type 0
WritesOn (Ok done) new before after bytes = WritesSo new before after bytes
WritesOn (Err why) new before after bytes = (new ≡ Err why) × (after ≡ before)

-- Some of the turns are run and answered: with any answers to the others from the new standing, these are the answers to all.
pub record Drains (setting : Setting) (turns done left more : ℕ) (writing writing' : Result (Unit {0}) RunFault) (accepted : List Input) (old new : Standing)
    (before after : Option (List ℕ)) : Type 0 where
  pub memory : List Memory
  pub answers : List ℕ
  pub goes : (later : List Memory) (next : List Memory → Standing → Talk)
      → drained setting turns done (memory ++ later) old next ≡ said answers accepted (drained setting left more later new next)
  pub writes : WritesOn writing writing' before after answers
