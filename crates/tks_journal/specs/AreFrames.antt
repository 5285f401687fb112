-- Frames told as a relation: what stands where, one frame behind the other. The rules are this project's own.
use Rattle.std.specs.Prelude.{◌≡◌, ◌≢◌, ℕ, List, [], ◌∷◌, ◌++◌, length}
use Rattle.std.specs.Int.{w32, from_be_bytes}

-- a closed gate, and whatever stands behind it
pub record Ends (bytes : List ℕ) : Type 0 where
  pub gate : ℕ
  pub rest : List ℕ
  pub shut : gate ≢ 1
  pub parts : bytes ≡ gate ∷ rest

-- an open gate, a length of four bytes and this body, and behind it a rest with Q
pub record Begins (body : List ℕ) (Q : List ℕ → Type 0) (bytes : List ℕ) : Type 0 where
  pub size : List ℕ
  pub rest : List ℕ
  pub four : length size ≡ 4
  pub spells : from_be_bytes w32 size ≡ length body
  pub parts : bytes ≡ 1 ∷ (size ++ (body ++ rest))
  pub behind : Q rest

-- these bytes are frames of these bodies, a closed gate, and whatever stands behind it
abbrev pub AreFrames : List (List ℕ) → List ℕ → Type 0
AreFrames [] bytes = Ends bytes
AreFrames (body ∷ bodies) bytes = Begins body (AreFrames bodies) bytes
