-- What contracts see of a session.
use Rattle.std.specs.Prelude.{◌≡◌, ℕ, List, [], false}
use Rattle.tks_text.specs.Size.{Extent}
use Rattle.tks_text.specs.declared.limits.Limits.{Limits}
use Rattle.tks_app.specs.Applications as application
use Rattle.tks_app.specs.Applications.{Application}
use Rattle.tks_durable.specs.Durable.{DurableState}
use Rattle.tks_durable.specs.Machine.{Meaning}
use Rattle.tks_state.specs.World.{World}
use Rattle.tks_session.specs.Terminals.{terminal}

-- what a session is made for: an application, limits, and a grid
pub record Setting : Type 0 where
  pub app : Application
  pub limits : Limits
  pub grid : Extent

-- what it holds of that: the names of its commands, whose meaning its type has
pub record Made : Type 0 where
  pub names : List (List ℕ)
  pub limits : Limits
  pub grid : Extent

-- commands of this meaning and these names, within limits, on a grid
abbrev pub setting : application.Meaning → List (List ℕ) → Limits → Extent → Setting
setting meaning names limits grid = record { app = record { names = names; meaning = meaning }; limits = limits; grid = grid }

abbrev pub setting_of : application.Meaning → Made → Setting
setting_of meaning made = setting meaning made.names made.limits made.grid

-- the machine that is durable in such a session
abbrev pub terminal_in : Setting → Meaning World
terminal_in s = terminal s.app s.limits s.grid

-- A session: the journal on its disk, what it was made for (`machine`), the world, the inputs that wait for a commit, and how many
-- are acknowledged.
abbrev pub SessionState : Type 0 → Type 0
SessionState D = DurableState D Made World

-- what is seen of a session of the machine that it makes durable
abbrev pub seen_as : {D M : Type 0} → Made → DurableState D M World → SessionState D
seen_as made s = record { journal = s.journal; machine = made; world = s.world; waiting = s.waiting; acknowledged = s.acknowledged }

-- a session that has just been opened: nothing waits, and all is acknowledged
pub record IsFresh {D : Type 0} (made : Made) (s : SessionState D) : Type 0 where
  pub same : s.machine ≡ made
  pub nothing : s.waiting ≡ []
  pub all : s.acknowledged ≡ s.world.accepted
  pub working : s.journal.failed ≡ false
