-- What comes of an input (this project's own rule).
use Rattle.std.specs.Prelude.{ℕ, ◌+◌, ◌^◌, ◌==◌, if◌then◌else◌, List, []}
use Rattle.tks_vars.specs.Variables.{Variables}
use Rattle.tks_vars.specs.Table.{Map}
use Rattle.tks_state.specs.World.{World}
use Rattle.tks_input.specs.declared.reply.Reply.{Reply}
use Rattle.tks_input.specs.declared.reply.Refused.{Refused}
use Rattle.tks_input.specs.declared.reply.Refused.TheVariants.{TooLarge}

-- an input is accepted whole, with a reply, or refused
pub data Stepped : Type 0 where
  Accepts : (world : World) (reply : Reply) → Stepped
  Refuses : (why : Refused) → Stepped

-- the greatest count of inputs
abbrev pub max_count : ℕ
max_count = 2 ^ 62

-- one input more than so many, unless these are all that there may be; variables and memories go back into the world
abbrev pub counted : ℕ → World → Map (List ℕ) → ℕ → List ℕ → Variables → Stepped
counted before world memories code text variables =
    if before == max_count then Refuses TooLarge
    else Accepts (record world { accepted = before + 1; variables = variables; memories = memories }) (record { number = before + 1; code = code; text = text })

-- an input that runs no script, and leaves this world: there is nothing to say
abbrev pub kept : World → Stepped
kept world = counted world.accepted world world.memories 0 [] world.variables
