-- Keys: bytes by which the members of a list are told apart (this project's own rule).
use Rattle.std.specs.Prelude.{◌≡◌, ℕ, Bool, not, List}
use Rattle.std.specs.BTreeSet.{BTreeSet, contains_by}
use Rattle.std.specs.Cmp.Lexicographic.{slice_cmp}
use Rattle.std.specs.Global.{Vec}
use Rattle.std.specs.Ordering.{nat_cmp}
use Rattle.tks_text.specs.Text.{same_text}

-- those that are told by a key differ where their keys do
abbrev pub Tells : {T : Type 0} → (T → T → Bool) → (T → List ℕ) → (T → Type 0) → Type 0
Tells {T} differ key IsTold = (a b : T) → IsTold a → IsTold b → differ a b ≡ not (same_text (key a) (key b))

-- whether a key is in a set of them
abbrev pub has_key : BTreeSet (Vec ℕ) → List ℕ → Bool
has_key keys key = contains_by (λ k. slice_cmp nat_cmp key k.items) keys
