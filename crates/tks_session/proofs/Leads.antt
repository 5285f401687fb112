-- Runs, in the words of steps.
use Rattle.std.proofs.Common.{◌≡◌, ℕ, List, [], ◌∷◌, Result, Ok, Err, refl, sym, ◌∙◌, ap}
use Rattle.tks_text.specs.Size.{Extent}
use Rattle.tks_text.specs.declared.limits.Limits.{Limits}
use Rattle.tks_disk.specs.DiskModel.{Images}
use Rattle.tks_input.specs.declared.input.Input.{Input}
use Rattle.tks_durable.specs.Crash.{OpensToCount, OpensToPrefix}
use Rattle.tks_durable.specs.Opening.{opens, run, reached, fault_of}
use Rattle.tks_durable.specs.declared.fault.SessionFault.{SessionFault}
use Rattle.tks_durable.proofs.Crashes.{keeps_acknowledged}
use Rattle.tks_durable.proofs.Runs.{run_fault}
use Rattle.tks_app.specs.Applications.{Application}
use Rattle.tks_state.specs.World.{World}
use Rattle.tks_world.specs.Step.{Stepped, Accepts, Refuses, step}
use Rattle.tks_session.specs.Crash.{Leads, LeadsBehind, LeadsByFirst}
use Rattle.tks_session.specs.Terminals.{as_machine, terminal}

-- the world that a run ends with, or another
abbrev world_of : World → Result World SessionFault → World
world_of other (Ok world) = world
world_of other (Err fault) = other

module _ (app : Application) (limits : Limits) (grid : Extent) where
  -- what a run ends with leads there
  pub runs_lead : (inputs : List Input) (old new : World) → run (terminal app limits grid) (Ok old) inputs ≡ Ok new → Leads app limits old inputs new
  runs_lead [] old new is = ap (world_of old) is
  runs_lead (input ∷ inputs) old new is = by (step app old input limits) refl is (λ mid. runs_lead inputs mid new)
    where
      by : (stepped : Stepped) → step app old input limits ≡ stepped → run (terminal app limits grid) (reached input (as_machine stepped)) inputs ≡ Ok new
          → ((mid : World) → run (terminal app limits grid) (Ok mid) inputs ≡ Ok new → Leads app limits mid inputs new) → Leads app limits old (input ∷ inputs) new
      by (Accepts mid reply) first rest others = (mid, reply, first, others mid rest)
      by (Refuses why) first rest others = absurd (no_world (sym (run_fault (terminal app limits grid) (fault_of input why) inputs) ∙ rest))
        where
          no_world : Err (fault_of input why) ≡ Ok new → ⊥
          no_world e = absurd cc

  pub by_first : (start : World) (inputs : List Input) (images : Images) (world : World)
      → OpensToPrefix (terminal app limits grid) (Ok start) inputs images → opens (terminal app limits grid) images ≡ Ok world → LeadsByFirst app limits start inputs world
  by_first start inputs images world some is = record {
    prefix = some.prefix;
    others = some.others;
    parts = some.parts;
    leads = runs_lead some.prefix start world (sym some.leaves ∙ is);
  }

-- behind what was acknowledged
pub behind : (app : Application) (limits : Limits) (grid : Extent) (reads : Images) (acknowledged : ℕ) (waiting : List Input) (images : Images) (world : World)
    → OpensToCount (terminal app limits grid) reads acknowledged → OpensToPrefix (terminal app limits grid) (opens (terminal app limits grid) reads) waiting images → opens (terminal app limits grid) images ≡ Ok world
    → LeadsBehind (record { app = app; limits = limits; grid = grid }) reads acknowledged waiting world
behind app limits grid reads acknowledged waiting images world at some is =
    let kept = keeps_acknowledged (terminal app limits grid) reads acknowledged waiting images world at some is in
    record {
      start = kept.start;
      opened = kept.opened;
      counted = kept.counted;
      leads = record {
        prefix = kept.behind.prefix;
        others = kept.behind.others;
        parts = kept.behind.parts;
        leads = runs_lead app limits grid kept.behind.prefix kept.start world kept.behind.leaves;
      };
    }
