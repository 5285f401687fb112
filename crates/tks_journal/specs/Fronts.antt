-- What the code keeps of a side's front, beside the side's face, and which side it chooses.
use Rattle.std.specs.Prelude.{◌≡◌, ◌≤◌, ℕ, ◌==◌, nat_lt, true, if◌then◌else◌, List, [], ◌∷◌, ◌++◌, length, take, drop, Option, Some, None, Result, Ok, Err}
use Rattle.tks_spelling.specs.Format.{byte_of}
use Rattle.tks_spelling.specs.Header.{header_at}
use Rattle.tks_spelling.specs.declared.format.Format.{Format}
use Rattle.tks_spelling.specs.declared.header.Header.{Header}
use Rattle.tks_disk.specs.declared.disk.Side.{Side}
use Rattle.tks_disk.specs.declared.disk.Side.TheVariants.{A, B}
use Rattle.tks_journal.specs.Journal.{SpelledAs}
use Rattle.tks_journal.specs.Sides.{closed, unknown, broken, face, headed, is_given}
use Rattle.tks_journal.specs.declared.fault.SideFault.{SideFault}
use Rattle.tks_journal.specs.declared.fault.SideFault.TheVariants.{UnknownFormat, Damaged}
use Rattle.tks_journal.specs.declared.front.Attempt.{Attempt}
use Rattle.tks_journal.specs.declared.front.Attempt.TheVariants.{Read, Wrong, Short}
use Rattle.tks_journal.specs.declared.front.Front.{Front}
use Rattle.tks_journal.specs.declared.front.Front.TheVariants.{Closed, Unknown, Broken, Intact}
use Rattle.tks_journal.specs.declared.front.Head.{Head}

-- these bytes begin with an open gate, this format and this header, up to this place
pub record HeadOf (format : Format) (header : Header) (at : ℕ) (bytes : List ℕ) : Type 0 where
  pub given : is_given header.generation ≡ true
  pub within : at ≤ length bytes
  pub front : take at bytes ≡ 1 ∷ byte_of format ∷ drop 2 (take at bytes)
  pub spelled : SpelledAs (drop 2 (take at bytes)) header

abbrev pub FrontIs : Front → List ℕ → Type 0
FrontIs Closed bytes = face bytes ≡ closed
FrontIs Unknown bytes = face bytes ≡ unknown
FrontIs Broken bytes = face bytes ≡ broken
FrontIs (Intact head) bytes = HeadOf head.format head.header head.at bytes × (head.len ≡ length bytes)

-- a side of so many bytes, with an open gate, and of this format
pub record IsOpenSide (format : Format) (len : ℕ) (bytes : List ℕ) : Type 0 where
  pub size : len ≡ length bytes
  pub opens : take 2 bytes ≡ 1 ∷ byte_of format ∷ []

abbrev pub front_with : Format → Header → ℕ → ℕ → Front
front_with format header at len = if is_given header.generation then Intact (record { format = format; header = header; at = at; len = len }) else Broken

-- what was made of these bytes, behind a format byte
abbrev pub AttemptIs : Attempt → List ℕ → Type 0
AttemptIs (Read header count) bytes = (count ≤ length bytes) × SpelledAs (take count bytes) header
AttemptIs Wrong bytes = (format : Format) (more : List ℕ) → headed format (header_at (bytes ++ more)) ≡ broken
AttemptIs Short bytes = (format : Format) → headed format (header_at bytes) ≡ broken

-- the side that is live
abbrev pub newest : Head → Head → Result (Option (Side × Head)) SideFault
newest a b =
    if a.header.generation == b.header.generation then Err Damaged
    else (if nat_lt b.header.generation a.header.generation then Ok (Some (A, a)) else Ok (Some (B, b)))

-- the live side with its front, if any
abbrev pub live_front : Front → Front → Result (Option (Side × Head)) SideFault
live_front Unknown b = Err UnknownFormat
live_front Closed Unknown = Err UnknownFormat
live_front Broken Unknown = Err UnknownFormat
live_front (Intact a) Unknown = Err UnknownFormat
live_front Broken Closed = Err Damaged
live_front Broken Broken = Err Damaged
live_front Broken (Intact b) = Err Damaged
live_front Closed Broken = Err Damaged
live_front (Intact a) Broken = Err Damaged
live_front Closed Closed = Ok None
live_front (Intact a) Closed = Ok (Some (A, a))
live_front Closed (Intact b) = Ok (Some (B, b))
live_front (Intact a) (Intact b) = newest a b
