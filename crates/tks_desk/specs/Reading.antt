-- What reading a line, or bytes behind it, does.
use Rattle.std.specs.Prelude.{◌≡◌, ◌≢◌, ℕ, ◌+◌, ◌<◌, ◌≤◌, Bool, true, false, List, [], ◌∷◌, ◌++◌, take, drop, length, Option, Some, None, IfSome}
use Rattle.std.specs.Option.{option_map}
use Rattle.std.specs.Io.KnownBytes.{Keeps, Consumes, IsAtEnd}
use Rattle.tks_desk.specs.Lines.{first_line, after_line, past_newline}
use Rattle.tks_desk.specs.declared.ending.RunFault.{RunFault}
use Rattle.tks_desk.specs.declared.ending.RunFault.TheVariants.{Read, Write, Memory, Session}
use Rattle.tks_desk.specs.declared.input.Line.{Line}
use Rattle.tks_desk.specs.declared.input.Line.TheVariants.{Held, Overlong}
use Rattle.tks_desk.specs.declared.input.Piece.{Piece}
use Rattle.tks_desk.specs.declared.input.Piece.TheVariants.{GoesOn, EndsAtNewline, EndsWithInput}

-- the longest line that is held, in bytes, without its newline
abbrev pub max_line : ℕ
max_line = 65_600

-- what is kept of a line
abbrev pub IsLine : Line → List ℕ → Type 0
IsLine (Held bytes) line = (length line ≤ max_line) × (bytes.items ≡ line)
IsLine Overlong line = max_line < length line

-- the first line of the bytes is read and they lose it, or there are none
abbrev pub ReadsLine : List ℕ → Option Line → Option (List ℕ) → Type 0
ReadsLine bytes None rest = bytes ≡ []
ReadsLine bytes (Some line) rest = (bytes ≢ []) × IsLine line (first_line bytes) × (rest ≡ Some (after_line bytes))

-- whatever line it was, it is now that line and these bytes
abbrev pub LineGrows : Line → Line → List ℕ → Type 0
LineGrows old new bytes = (line : List ℕ) → IsLine old line → IsLine new (line ++ bytes)

-- what a reader loses with a part of a line
abbrev pub TakesPiece : Piece → Option (List ℕ) → Option (List ℕ) → List ℕ → Type 0
TakesPiece GoesOn old new part = Consumes old new part
TakesPiece EndsAtNewline old new part = Consumes old new (part ++ 10 ∷ [])
TakesPiece EndsWithInput old new part = (part ≡ []) × IsAtEnd old × Keeps old new

-- how many bytes it loses beside the part
abbrev pub piece_cost : Piece → ℕ
piece_cost GoesOn = 0
piece_cost EndsAtNewline = 1
piece_cost EndsWithInput = 0

-- a fault of reading: the reader's own, or want of memory
abbrev pub InReading : RunFault → Type 0
InReading Read = Unit {0}
InReading Memory = Unit {0}
InReading Write = ⊥
InReading (Session why) = ⊥

-- a reader loses no more bytes than this
abbrev pub ReadsAtMost : ℕ → Option (List ℕ) → Option (List ℕ) → Type 0
ReadsAtMost most old new = (bytes : List ℕ) × Consumes old new bytes × (length bytes ≤ most)

-- a reader loses bytes, and what may still be read falls by one for each, or by more
abbrev pub Pays : Option (List ℕ) → Option (List ℕ) → ℕ → ℕ → Type 0
Pays old new before left = (bytes : List ℕ) × Consumes old new bytes × (length bytes + left ≤ before)

-- ---- bytes behind a line

-- what is to be read, where a newline at the front may go with what was read before
abbrev pub unread : Bool → Option (List ℕ) → Option (List ℕ)
unread false rest = rest
unread true rest = option_map past_newline rest

-- bytes are held behind others, and the reader loses them; or none is left
abbrev pub TakesBytes : Bool → Option (List ℕ) → Option (List ℕ) → List ℕ → List ℕ → Type 0
TakesBytes true old new held held' = (bytes : List ℕ) × (held' ≡ held ++ bytes) × Consumes old new bytes
TakesBytes false old new held held' = (held' ≡ held) × IsAtEnd old × Keeps old new

-- so many bytes are held, and the reader loses them; or fewer are there, and it loses those
abbrev pub HoldsBytes : ℕ → List ℕ → Option (List ℕ) → Option (List ℕ) → Type 0
HoldsBytes n bytes (Some held) rest = (n ≤ length bytes) × (held ≡ take n bytes) × (rest ≡ Some (drop n bytes))
HoldsBytes n bytes None rest = (length bytes < n) × (rest ≡ Some [])

-- a newline at the front is passed over, or it wasn't looked at yet
abbrev pub PassesSo : Bool → Option (List ℕ) → Option (List ℕ) → Type 0
PassesSo true old new = IfSome old (λ bytes. new ≡ Some (past_newline bytes))
PassesSo false old new = Keeps old new
