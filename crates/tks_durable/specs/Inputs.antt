-- Lists of inputs as bytes: one spelling behind the other, and as frames.
use Rattle.std.specs.Prelude.{ℕ, zero, suc, ◌-◌, ◌==◌, nat_lt, if◌then◌else◌, List, [], ◌∷◌, ◌++◌, length, drop, Option, Some, None, Ok, Err}
use Rattle.std.specs.Int.{w32, to_be_bytes}
use Rattle.std.specs.List.{flat_map}
use Rattle.tks_spelling.specs.Input as codec
use Rattle.tks_spelling.specs.Spelling.{Read}
use Rattle.tks_spelling.specs.declared.format.Format.{Format}
use Rattle.tks_spelling.specs.declared.format.Format.TheVariants.{One, Two}
use Rattle.tks_input.specs.declared.input.Input.{Input}
use Rattle.tks_journal.specs.Sides.{size_at}

abbrev pub with_input : Input → Option (List Input) → Option (List Input)
with_input input None = None
with_input input (Some inputs) = Some (input ∷ inputs)

-- an input that was read, and those that are found in the bytes behind it, which are reached once so many are passed over
abbrev pub found : List ℕ → Read Input → (ℕ → Option (List Input)) → Option (List Input)
found bytes (Err left) others = None
found bytes (Ok x) others = with_input x.0 (others (length bytes - length x.1))

-- the inputs that bytes are, once so many are passed over; none where they are no list of inputs
abbrev pub inputs_from : ℕ → List ℕ → Option (List Input)
inputs_from skip [] = Some []
inputs_from (suc skip) (byte ∷ bytes) = inputs_from skip bytes
inputs_from zero (byte ∷ bytes) = found bytes (codec.input_at (byte ∷ bytes)) (λ skip. inputs_from skip bytes)

-- the inputs that bytes are
unfoldable pub inputs_in : List ℕ → Option (List Input)
inputs_in bytes = inputs_from 0 bytes

abbrev pub and_then : Option (List Input) → Option (List Input) → Option (List Input)
and_then None others = None
and_then (Some inputs) None = None
and_then (Some inputs) (Some others) = Some (inputs ++ others)

-- inputs that were found, where they are so many
abbrev pub so_many : ℕ → Option (List Input) → Option (List Input)
so_many count None = None
so_many count (Some inputs) = if length inputs == count then Some inputs else None

-- the inputs of a frame: in the first format they are all of it, in the second they stand behind their number, in four bytes
abbrev pub frame_in : Format → List ℕ → Option (List Input)
frame_in One bytes = inputs_in bytes
frame_in Two bytes = if nat_lt (length bytes) 4 then None else so_many (size_at bytes) (inputs_in (drop 4 bytes))

-- the inputs of frames, one behind the other
abbrev pub inputs_of : Format → List (List ℕ) → Option (List Input)
inputs_of format [] = Some []
inputs_of format (body ∷ bodies) = and_then (frame_in format body) (inputs_of format bodies)

-- the inputs as bytes
abbrev pub spelled : List Input → List ℕ
spelled inputs = flat_map codec.input.write inputs

-- how many bytes stand before the inputs of a frame
abbrev pub lead_length : Format → ℕ
lead_length One = 0
lead_length Two = 4

-- a frame of so many inputs, which these bytes are
abbrev pub frame_of : Format → ℕ → List ℕ → List ℕ
frame_of One count bytes = bytes
frame_of Two count bytes = to_be_bytes w32 count ++ bytes

-- how many inputs bytes are; 0 where they are none
abbrev pub count_in : Option (List Input) → ℕ
count_in None = 0
count_in (Some inputs) = length inputs

-- frames of the first format as those of the second: each behind the number of its inputs
abbrev pub counted : List (List ℕ) → List (List ℕ)
counted [] = []
counted (body ∷ bodies) = frame_of Two (count_in (inputs_in body)) body ∷ counted bodies
