-- What a store opens to, and what a crash leaves of a session, in the words of steps.
use Rattle.std.specs.Prelude.{◌≡◌, ◌≤◌, ℕ, ◌+◌, List, [], ◌∷◌, ◌++◌, length, Result, Ok}
use Rattle.tks_text.specs.declared.limits.Limits.{Limits}
use Rattle.tks_disk.specs.DiskModel.{Images, View}
use Rattle.tks_input.specs.declared.input.Input.{Input}
use Rattle.tks_input.specs.declared.reply.Reply.{Reply}
use Rattle.tks_app.specs.Applications.{Application}
use Rattle.tks_durable.specs.Calls as calls
use Rattle.tks_durable.specs.Crash as durable
use Rattle.tks_durable.specs.Lives as lives
use Rattle.tks_durable.specs.Opening as opening
use Rattle.tks_durable.specs.declared.calls.Call.{Call}
use Rattle.tks_durable.specs.declared.fault.SessionFault.{SessionFault}
use Rattle.tks_state.specs.World.{World}
use Rattle.tks_world.specs.Step.{Accepts, step}
use Rattle.tks_session.specs.Sessions.{SessionState, Setting, terminal_in}

-- the inputs, one after the other, are each accepted whole, and lead from the one world to the other
abbrev pub Leads : Application → Limits → World → List Input → World → Type 0
Leads app limits old [] new = old ≡ new
Leads app limits old (input ∷ inputs) new = (mid : World) × (reply : Reply) × (step app old input limits ≡ Accepts mid reply) × Leads app limits mid inputs new

-- the first of these inputs lead to this world
pub record LeadsByFirst (app : Application) (limits : Limits) (start : World) (inputs : List Input) (world : World) : Type 0 where
  pub prefix : List Input
  pub others : List Input
  pub parts : inputs ≡ prefix ++ others
  pub leads : Leads app limits start prefix world

-- ---- what a store opens to

-- What the bytes of two sides open to.
abbrev pub opens : Setting → Images → Result World SessionFault
opens setting = opening.opens (terminal_in setting)

-- these images open to what a prefix of the inputs leaves
abbrev pub OpensToPrefix : Setting → Result World SessionFault → List Input → Images → Type 0
OpensToPrefix setting = durable.OpensToPrefix (terminal_in setting)

-- what is read opens to a world that accepted so many inputs
abbrev pub OpensToCount : Setting → Images → ℕ → Type 0
OpensToCount setting = durable.OpensToCount (terminal_in setting)

-- all that a crash now may leave opens to this
abbrev pub AllOpenTo : Setting → View → Result World SessionFault → Type 0
AllOpenTo setting = durable.AllOpenTo (terminal_in setting)

-- these images open to what some of those do
abbrev pub OpensAsOneOf : Setting → (Images → Type 0) → Images → Type 0
OpensAsOneOf setting = durable.OpensAsOneOf (terminal_in setting)

-- the inputs that wait, behind what is read, leave this world
abbrev pub Stands : Setting → View → List Input → World → Type 0
Stands setting = durable.Stands (terminal_in setting)

-- what is read opens to a world from which the inputs that wait, each accepted, lead to this one
pub record LeadsOn (setting : Setting) (reads : Images) (waiting : List Input) (world : World) : Type 0 where
  pub start : World
  pub opened : opens setting reads ≡ Ok start
  pub leads : Leads setting.app setting.limits start waiting world

-- this world is what the first of the inputs that waited lead to, behind the world that the acknowledged inputs led to, all of
-- them and nothing else: what is read opens to it
pub record LeadsBehind (setting : Setting) (reads : Images) (acknowledged : ℕ) (waiting : List Input) (world : World) : Type 0 where
  pub start : World
  pub opened : opens setting reads ≡ Ok start
  pub counted : start.accepted ≡ acknowledged
  pub leads : LeadsByFirst setting.app setting.limits start waiting world

-- Why opening fails: what the bytes open to, where the disk is honest; or the device failed; or memory was refused. The
-- device's count of failures rises where it failed, and only there.
abbrev pub OpenFails : Setting → Type 0 → Result World SessionFault → ℕ → ℕ → SessionFault → Type 0
OpenFails setting = durable.OpenFails (terminal_in setting)

-- ---- a part of a session's life

-- A crash at any moment leaves what opens to what a prefix of the inputs leaves: of those that waited, and those accepted since.
abbrev pub LeavesPrefixes : {D : Type 0} → Setting → (D → View) → SessionState D → SessionState D → List Input → Type 0
LeavesPrefixes setting view = lives.LeavesPrefixes (terminal_in setting) view

-- From one state to the other, while no call failed, these inputs were accepted.
abbrev pub Lives : {D : Type 0} → Setting → (D → View) → SessionState D → SessionState D → List Input → Type 0
Lives setting view = lives.Lives (terminal_in setting) view

-- Calls were made, one after the other, up to the first that failed: what they accepted, and what a crash leaves of them.
abbrev pub Makes : {D : Type 0} → Setting → (D → ℕ) → (D → View) → List Call → SessionState D → SessionState D → Result (Unit {0}) SessionFault → Type 0
Makes setting failures view = calls.Makes (terminal_in setting) failures view

-- This world is what a prefix of the accepted inputs leads to from the first one, each accepted whole, a prefix that holds every
-- acknowledged input.
pub record KeepsAcknowledged (setting : Setting) (start : World) (accepted : List Input) (acknowledged : ℕ) (world : World) : Type 0 where
  pub prefix : List Input
  pub others : List Input
  pub parts : accepted ≡ prefix ++ others
  pub leads : Leads setting.app setting.limits start prefix world
  pub holds : acknowledged ≤ start.accepted + length prefix
