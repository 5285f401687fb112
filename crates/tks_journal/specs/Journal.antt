-- What contracts see of a journal.
use Rattle.std.specs.Prelude.{◌≡◌, ℕ, ◌+◌, ◌^◌, nat_le, nat_lt, Bool, ◌&&◌, List, ◌++◌, Ok}
use Rattle.tks_spelling.specs.Header.{header_at}
use Rattle.tks_spelling.specs.declared.format.Format.{Format}
use Rattle.tks_spelling.specs.declared.header.Header.{Header}
use Rattle.tks_disk.specs.declared.disk.Side.{Side}

pub record JournalState (D : Type 0) : Type 0 where
  pub disk : D
  -- the side that is live, its format, and its generation
  pub live : Side
  pub format : Format
  pub generation : ℕ
  -- where on it the closed gate behind the last frame stands
  pub gate : ℕ
  -- whether a call has failed
  pub failed : Bool

-- A frame behind a gate has fewer than 2^32 bytes, and no side grows past 2^40 bytes.
abbrev pub room_at : ℕ → ℕ → Bool
room_at gate count = nat_lt count (2 ^ 32) && nat_le (gate + 6 + count) (2 ^ 40)

abbrev pub room_for : {D : Type 0} → JournalState D → ℕ → Bool
room_for j count = room_at j.gate count

-- these bytes are read as this header, whatever stands behind them
pub record SpelledAs (head : List ℕ) (header : Header) : Type 0 where
  pub reads : (rest : List ℕ) → header_at (head ++ rest) ≡ Ok (header, rest)
