-- What is made durable, states and what inputs do to them, as functions of values (this project's own rule).
use Rattle.std.specs.Prelude.{ℕ, Bool, List, length, Option}
use Rattle.tks_text.specs.Size.{Extent}
use Rattle.tks_spelling.specs.declared.format.Format.{Format}
use Rattle.tks_spelling.specs.declared.header.Header.{Header}
use Rattle.tks_input.specs.declared.input.Input.{Input}
use Rattle.tks_input.specs.declared.reply.Refused.{Refused}
use Rattle.tks_input.specs.declared.reply.Reply.{Reply}

-- what an input comes to: another state with a reply, or a refusal, and then nothing has changed
pub data Stepped (W : Type 0) : Type 0 where
  accepts : W → Reply → Stepped W
  refuses : Refused → Stepped W

pub record Meaning (W : Type 0) : Type 0 where
  -- what an input does
  pub step : W → Input → Stepped W
  -- the state before any input
  pub first : W
  -- the bytes that spell a state
  pub bytes : W → List ℕ
  -- the state that these bytes spell behind this header, in this format, if they spell one
  pub stored : Format → Header → List ℕ → Option W
  -- does it keep within the limits?
  pub within : W → Bool
  -- is it one that this machine may come to: of its grid and names, within the limits?
  pub own : W → Bool
  -- how many inputs it accepted
  pub count : W → ℕ
  -- the grid it is made for, and the application commands' names
  pub grid : Extent
  pub names : List (List ℕ)
  -- how many inputs may wait for a commit
  pub pending : ℕ

-- the header of a side of this generation, which begins with this state
abbrev pub header_of : {W : Type 0} → Meaning W → ℕ → W → Header
header_of m generation world = record { generation = generation; grid = m.grid; names = m.names; world_length = length (m.bytes world) }
