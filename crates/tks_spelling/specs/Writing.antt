-- What adding bytes to others answers (this project's own rule).
use Rattle.std.specs.Prelude.{◌≡◌, ℕ, ◌++◌, List, [], ◌∷◌, length, take, Result, Ok, Err}
use Rattle.std.specs.declared.alloc.AllocError.{AllocError}

-- The bytes stand at the end; or memory was refused, and what was there still stands at the front.
abbrev pub PutsSo : Result (Unit {0}) AllocError → List ℕ → List ℕ → List ℕ → Type 0
PutsSo (Ok _) old new bytes = new ≡ old ++ bytes
PutsSo (Err _) old new bytes = take (length old) new ≡ old

-- Pieces one behind the other. It is no `abbrev`, so that in a goal each piece stands as it is, a number too.
unfoldable pub flattened : List (List ℕ) → List ℕ
flattened [] = []
flattened (piece ∷ []) = piece
flattened (piece ∷ more ∷ pieces) = piece ++ flattened (more ∷ pieces)
