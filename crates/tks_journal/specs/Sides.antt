-- What the bytes of two sides stand for. The rules are this project's own.
use Rattle.std.specs.Prelude.{◌<◌, ℕ, zero, suc, ◌+◌, ◌^◌, nat_le, nat_lt, ◌==◌, Bool, true, not, ◌&&◌, if◌then◌else◌, List, [], ◌∷◌, ◌++◌, length, take, drop, slice_index, Option, Some, None, Result, Ok, Err}
use Rattle.std.specs.Int.{w32, from_be_bytes, to_be_bytes}
use Rattle.tks_disk.specs.DiskModel.{Images}
use Rattle.tks_disk.specs.declared.disk.Side.{Side}
use Rattle.tks_disk.specs.declared.disk.Side.TheVariants.{A, B}
use Rattle.tks_spelling.specs.Header.{header_at}
use Rattle.tks_spelling.specs.Format.{of_byte}
use Rattle.tks_spelling.specs.Spelling.{Read}
use Rattle.tks_spelling.specs.declared.format.Format.{Format}
use Rattle.tks_spelling.specs.declared.header.Header.{Header}
use Rattle.tks_journal.specs.declared.fault.SideFault.{SideFault}
use Rattle.tks_journal.specs.declared.fault.SideFault.TheVariants.{UnknownFormat, Damaged}

-- A side is closed where it has fewer than two bytes, or its first one, the gate, isn't 1.
abbrev pub is_closed : List ℕ → Bool
is_closed [] = true
is_closed (gate ∷ []) = true
is_closed (gate ∷ format ∷ rest) = not (gate == 1)

-- the format that the byte behind the gate stands for, if it is known
unfoldable pub format_of : List ℕ → Option Format
format_of bytes = of_byte (slice_index bytes 1)

-- what a side says before its world
pub data Face : Type 0 where
  closed : Face
  -- open, in a format that isn't known
  unknown : Face
  -- open, with a header that is cut or no spelling, or of a generation that is never given out
  broken : Face
  -- open, of this format, with a header and the bytes behind it
  intact : Format → Header → List ℕ → Face

-- generations are 1 to 2^62
abbrev pub is_given : ℕ → Bool
is_given generation = nat_lt 0 generation && nat_le generation (2 ^ 62)

abbrev pub headed : Format → Read Header → Face
headed format (Err left) = broken
headed format (Ok x) = if is_given x.0.generation then intact format x.0 x.1 else broken

-- what an open side says by its format, and by the bytes behind that
abbrev pub said_in : Option Format → List ℕ → Face
said_in None bytes = unknown
said_in (Some format) bytes = headed format (header_at bytes)

unfoldable pub face : List ℕ → Face
face bytes = if is_closed bytes then closed else said_in (format_of bytes) (drop 2 bytes)

abbrev pub with_front : List ℕ → Option (List (List ℕ)) → Option (List (List ℕ))
with_front body None = None
with_front body (Some bodies) = Some (body ∷ bodies)

-- the number that the first four bytes spell
abbrev pub size_at : List ℕ → ℕ
size_at bytes = from_be_bytes w32 (take 4 bytes)

-- The bodies of the frames from here on, once so many bytes are passed over. Behind an open gate stand a length and so many
-- bytes, then the next gate, and the first closed gate ends them. None where a frame or a gate is cut.
abbrev pub frames_from : ℕ → List ℕ → Option (List (List ℕ))
frames_from skip [] = None
frames_from (suc skip) (byte ∷ bytes) = frames_from skip bytes
frames_from zero (gate ∷ bytes) =
    if gate == 1
    then (if nat_le (4 + size_at bytes) (length bytes) then with_front (take (size_at bytes) (drop 4 bytes)) (frames_from (4 + size_at bytes) bytes) else None)
    else Some []

abbrev pub frames : List ℕ → Option (List (List ℕ))
frames bytes = frames_from 0 bytes

-- what two sides hold: the live side, its format, its header, the bytes of its world, and the bodies of the frames behind it
pub record Kept : Type 0 where
  pub live : Side
  pub format : Format
  pub header : Header
  pub world : List ℕ
  pub bodies : List (List ℕ)

abbrev pub kept : Side → Format → Header → List ℕ → Option (List (List ℕ)) → Result (Option Kept) SideFault
kept live format header world None = Err Damaged
kept live format header world (Some bodies) = Ok (Some (record { live = live; format = format; header = header; world = world; bodies = bodies }))

-- a live side of this format with this header, and these bytes behind it
unfoldable pub content : Side → Format → Header → List ℕ → Result (Option Kept) SideFault
content live format header bytes =
    if nat_le header.world_length (length bytes)
    then kept live format header (take header.world_length bytes) (frames (drop header.world_length bytes))
    else Err Damaged

-- of two open sides the one with the greater generation is live, and only the header of the other counts
abbrev pub newer : Format → Header → List ℕ → Format → Header → List ℕ → Result (Option Kept) SideFault
newer f h x g k y =
    if h.generation == k.generation then Err Damaged
    else (if nat_lt k.generation h.generation then content A f h x else content B g k y)

-- first an unknown format, then a broken header, of whichever side
abbrev pub decided : Face → Face → Result (Option Kept) SideFault
decided unknown b = Err UnknownFormat
decided closed unknown = Err UnknownFormat
decided broken unknown = Err UnknownFormat
decided (intact f h x) unknown = Err UnknownFormat
decided broken closed = Err Damaged
decided broken broken = Err Damaged
decided broken (intact g k y) = Err Damaged
decided closed broken = Err Damaged
decided (intact f h x) broken = Err Damaged
decided closed closed = Ok None
decided (intact f h x) closed = content A f h x
decided closed (intact g k y) = content B g k y
decided (intact f h x) (intact g k y) = newer f h x g k y

-- What two sides hold: nothing where both are closed, or what the live side has; or why they can't be read.
unfoldable pub held : List ℕ → List ℕ → Result (Option Kept) SideFault
held a b = decided (face a) (face b)

abbrev pub holds : Images → Result (Option Kept) SideFault
holds i = held i.a i.b

-- the same with these frames too
abbrev pub with_frames : List (List ℕ) → Result (Option Kept) SideFault → Result (Option Kept) SideFault
with_frames more (Err fault) = Err fault
with_frames more (Ok None) = Ok None
with_frames more (Ok (Some k)) = Ok (Some (record k { bodies = k.bodies ++ more }))

-- which side is live, its format, and its generation
abbrev pub live_of : Result (Option Kept) SideFault → Option (Side × Format × ℕ)
live_of (Err fault) = None
live_of (Ok None) = None
live_of (Ok (Some k)) = Some (k.live, k.format, k.header.generation)

-- images with these bytes on this side, and those on the other
abbrev pub pair : Side → List ℕ → List ℕ → Images
pair A x y = record { a = x; b = y }
pair B x y = record { a = y; b = x }

abbrev pub other_of : Side → Side
other_of A = B
other_of B = A

-- open frames of these bodies
abbrev pub framed : List (List ℕ) → List ℕ
framed [] = []
framed (body ∷ bodies) = 1 ∷ to_be_bytes w32 (length body) ++ (body ++ framed bodies)

abbrev pub AllShort : List (List ℕ) → Type 0
AllShort [] = Unit {0}
AllShort (body ∷ bodies) = (length body < 2 ^ 32) × AllShort bodies
