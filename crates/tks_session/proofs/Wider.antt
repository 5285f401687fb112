-- Wider limits open what opened.
use Rattle.std.proofs.Common.{◌≡◌, ℕ, Bool, true, false, cond, List, [], ◌∷◌, Option, Some, None, Result, Ok, Err, refl, sym, ◌∙◌}
use Rattle.tks_text.specs.Limits.{Wider}
use Rattle.tks_text.specs.Size.{Extent}
use Rattle.tks_text.specs.declared.limits.Limits.{Limits}
use Rattle.tks_disk.specs.DiskModel.{Images}
use Rattle.tks_spelling.specs.declared.format.Format.{Format}
use Rattle.tks_spelling.specs.declared.header.Header.{Header}
use Rattle.tks_input.specs.declared.input.Input.{Input}
use Rattle.tks_journal.specs.Sides.{Kept, holds}
use Rattle.tks_journal.specs.declared.fault.SideFault.{SideFault}
use Rattle.tks_journal.specs.declared.fault.SideFault.TheVariants as side
use Rattle.tks_limits.specs.Within.{within}
use Rattle.tks_limits.proofs.Wider.{wider_admits}
use Rattle.tks_durable.specs.Inputs.{inputs_of}
use Rattle.tks_durable.specs.Opening.{opens, opened, run, reached, fault_of, begun, admitted, restored, with_inputs, same_grid, same_names}
use Rattle.tks_durable.specs.declared.fault.SessionFault.{SessionFault}
use Rattle.tks_durable.specs.declared.fault.SessionFault.TheVariants.{OtherGrid, OtherCommands, SmallerLimits}
use Rattle.tks_durable.proofs.Runs.{run_fault}
use Rattle.tks_app.specs.Applications.{Application}
use Rattle.tks_state.specs.World.{World, first_world}
use Rattle.tks_world.specs.Step.{Stepped, Accepts, Refuses, step}
use Rattle.tks_world.proofs.Wider.{steps_stay}
use Rattle.tks_session.specs.Terminals.{as_machine, stored, terminal}

module _ (app : Application) (limits wider : Limits) (grid : Extent) (wide : Wider limits wider) where
  admits_too : (world : World) → within limits world ≡ true → within wider world ≡ true
  admits_too world = wider_admits limits wider world wide

  runs_too : (inputs : List Input) (old new : World) → run (terminal app limits grid) (Ok old) inputs ≡ Ok new → run (terminal app wider grid) (Ok old) inputs ≡ Ok new
  runs_too [] old new is = is
  runs_too (input ∷ inputs) old new is = by (step app old input limits) refl is (λ mid. runs_too inputs mid new)
    where
      by : (stepped : Stepped) → step app old input limits ≡ stepped → run (terminal app limits grid) (reached input (as_machine stepped)) inputs ≡ Ok new
          → ((mid : World) → run (terminal app limits grid) (Ok mid) inputs ≡ Ok new → run (terminal app wider grid) (Ok mid) inputs ≡ Ok new)
          → run (terminal app wider grid) (reached input (as_machine (step app old input wider))) inputs ≡ Ok new
      by (Accepts mid reply) first rest others = rw (steps_stay app limits wider wide old mid input reply first) (others mid rest)
      by (Refuses why) first rest others = absurd (no_world (sym (run_fault (terminal app limits grid) (fault_of input why) inputs) ∙ rest))
        where
          no_world : Err (fault_of input why) ≡ Ok new → ⊥
          no_world e = absurd cc

  admitted_too : (header : Header) (old : World) (inputs : List Input) (new : World) → run (terminal app limits grid) (admitted (terminal app limits grid) header old) inputs ≡ Ok new
      → run (terminal app wider grid) (admitted (terminal app wider grid) header old) inputs ≡ Ok new
  admitted_too header old inputs new = by (same_grid header.grid grid) (same_names header.names app.names) (within limits old) refl
    where
      no_run : (fault : SessionFault) → run (terminal app limits grid) (Err fault) inputs ≡ Ok new → ⊥
      no_run fault h = no_world (sym (run_fault (terminal app limits grid) fault inputs) ∙ h)
        where
          no_world : Err fault ≡ Ok new → ⊥
          no_world e = absurd cc

      by : (g n b : Bool) → within limits old ≡ b → run (terminal app limits grid) (cond g (cond n (cond b (Ok old) (Err SmallerLimits)) (Err OtherCommands)) (Err OtherGrid)) inputs ≡ Ok new
          → run (terminal app wider grid) (cond g (cond n (cond (within wider old) (Ok old) (Err SmallerLimits)) (Err OtherCommands)) (Err OtherGrid)) inputs ≡ Ok new
      by false n b is h = absurd (no_run OtherGrid h)
      by true false b is h = absurd (no_run OtherCommands h)
      by true true false is h = absurd (no_run SmallerLimits h)
      by true true true is h = rw (admits_too old is) (runs_too inputs old new h)

  restored_too : (format : Format) (header : Header) (found : Option World) (bodies : List (List ℕ)) (new : World) → restored (terminal app limits grid) format header found bodies ≡ Ok new → restored (terminal app wider grid) format header found bodies ≡ Ok new
  restored_too format header None bodies new is = absurd cc
  restored_too format header (Some old) bodies new is = by (inputs_of format bodies) is
    where
      by : (inputs : Option (List Input)) → with_inputs (terminal app limits grid) (admitted (terminal app limits grid) header old) inputs ≡ Ok new
          → with_inputs (terminal app wider grid) (admitted (terminal app wider grid) header old) inputs ≡ Ok new
      by None h = absurd cc
      by (Some inputs) h = admitted_too header old inputs new h

  begun_too : (new : World) → begun (terminal app limits grid) ≡ Ok new → begun (terminal app wider grid) ≡ Ok new
  begun_too new = by (within limits (first_world grid app.names)) refl
    where
      by : (b : Bool) → within limits (first_world grid app.names) ≡ b → cond b (Ok (first_world grid app.names)) (Err SmallerLimits) ≡ Ok new → cond (within wider (first_world grid app.names)) (Ok (first_world grid app.names)) (Err SmallerLimits) ≡ Ok new
      by false is h = absurd cc
      by true is h = rw (admits_too (first_world grid app.names) is) h

  opened_too : (held : Result (Option Kept) SideFault) (new : World) → opened (terminal app limits grid) held ≡ Ok new → opened (terminal app wider grid) held ≡ Ok new
  opened_too (Err side.UnknownFormat) new is = absurd cc
  opened_too (Err side.Damaged) new is = absurd cc
  opened_too (Ok None) new is = begun_too new is
  opened_too (Ok (Some kept)) new is = restored_too kept.format kept.header (stored kept.format kept.header kept.world) kept.bodies new is

pub opens_too : (app : Application) (limits wider : Limits) (grid : Extent) (images : Images) (world : World) → Wider limits wider → opens (terminal app limits grid) images ≡ Ok world → opens (terminal app wider grid) images ≡ Ok world
opens_too app limits wider grid images world wide is = opened_too app limits wider grid wide (holds images) world is
