-- What writing does: all of the bytes, or a fault and a front of them.
use Rattle.std.specs.Prelude.{◌≡◌, ℕ, ◌==◌, if◌then◌else◌, List, [], ◌∷◌, ◌++◌, Option, Result, Ok, Err}
use Rattle.std.specs.Io.KnownBytes.{Appends}
use Rattle.tks_desk.specs.declared.ending.RunFault.{RunFault}
use Rattle.tks_desk.specs.declared.ending.RunFault.TheVariants.{Write}

-- a front of these bytes was written
abbrev pub AppendsFront : Option (List ℕ) → Option (List ℕ) → List ℕ → Type 0
AppendsFront old new bytes = (front rest : List ℕ) × (bytes ≡ front ++ rest) × Appends old new front

abbrev pub WritesSo : Result (Unit {0}) RunFault → Option (List ℕ) → Option (List ℕ) → List ℕ → Type 0
WritesSo (Ok done) old new bytes = Appends old new bytes
WritesSo (Err fault) old new bytes = (fault ≡ Write) × AppendsFront old new bytes

-- what is written part by part. It is no `abbrev`, so that in a goal each part stands as it is, a literal too
unfoldable pub flattened : List (List ℕ) → List ℕ
flattened [] = []
flattened (part ∷ parts) = part ++ flattened parts

-- a byte as it stands in an answer: a backslash, a newline and a tab are spelled out
abbrev pub escaped_byte : ℕ → List ℕ
escaped_byte b = if b == 92 then 92 ∷ 92 ∷ [] else if b == 10 then 92 ∷ 110 ∷ [] else if b == 9 then 92 ∷ 116 ∷ [] else b ∷ []

abbrev pub escaped : List ℕ → List ℕ
escaped [] = []
escaped (b ∷ bytes) = escaped_byte b ++ escaped bytes
