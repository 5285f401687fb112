-- A line of a run behind those before it.
use Rattle.std.proofs.Common.{ℕ, List, Option, IfSome, Result, subst}
use Rattle.tks_disk.specs.DiskModel.{View}
use Rattle.tks_input.specs.declared.input.Input.{Input}
use Rattle.tks_app.specs.Applications.{Meaning}
use Rattle.tks_session.specs.Sessions.{Made, SessionState, setting_of}
use Rattle.tks_desk.specs.Answers.{SoFar, TurnsSo, standing}
use Rattle.tks_desk.specs.Running.{Runs}
use Rattle.tks_desk.specs.declared.ending.RunEnd.{RunEnd}
use Rattle.tks_desk.specs.declared.ending.RunFault.{RunFault}
use Rattle.tks_desk.proofs.Parts.{done_as, runs_then}
use Rattle.tks_desk.proofs.Talks.{turned}

module _ {D : Type 0} (meaning : Meaning) (honest : D → Type 0) (view : D → View) (failures : D → ℕ) (o left left' : Option (List ℕ)) (old mid new : SessionState D) (a b c : Option (List ℕ)) where
  -- what is told of the lines so far, and of a line
  abbrev pub SoFarTold : List Input → Type 0
  SoFarTold accepted = IfSome o (λ input. SoFar (setting_of meaning old.machine) input left accepted (standing old) (standing mid) a b)

  abbrev pub LineTold : Result (Option RunEnd) RunFault → List Input → Type 0
  LineTold r accepted = IfSome left (λ input. TurnsSo (setting_of meaning mid.machine) r input left' accepted (standing mid) (standing new) b c)

  abbrev pub BothTold : Result (Option RunEnd) RunFault → List Input → Type 0
  BothTold r accepted = IfSome o (λ input. TurnsSo (setting_of meaning old.machine) r input left' accepted (standing old) (standing new) a c)

  pub line_then : Runs meaning honest view failures (done_as (Unit {0}) tt) old mid SoFarTold → (r : Result (Option RunEnd) RunFault) → Runs meaning honest view failures r mid new (LineTold r) → Runs meaning honest view failures r old new (BothTold r)
  line_then first r next =
      runs_then meaning honest view failures tt old mid new SoFarTold first r (LineTold r) (BothTold r) next
      (λ accepted told. turned (setting_of meaning old.machine) o left left' first.accepted accepted (standing old) (standing mid) (standing new) a b c r first.told
      (subst (λ (t : Made). IfSome left (λ input. TurnsSo (setting_of meaning t) r input left' accepted (standing mid) (standing new) b c)) first.machine told))
