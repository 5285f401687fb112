-- The window that is chosen in the order of the focus.
use Rattle.std.proofs.Common.{◌≡◌, ℕ, true, false, if◌then◌else◌, List, [], ◌∷◌, ap, ◌∙◌, inl, inr}
use Rattle.std.specs.Prelude.{◌⊎◌}
use Rattle.tks_state.specs.World.{World}
use Rattle.tks_cmd.specs.Focus.{takes_at, first_taking}

-- the first number that is accepted, where all before it are refused; or this one, where all are refused
abbrev pub Chosen : (ℕ → Type 0) → (ℕ → Type 0) → List ℕ → ℕ → ℕ → Type 0
Chosen accepted refused [] otherwise id = id ≡ otherwise
Chosen accepted refused (n ∷ ns) otherwise id = (accepted n × (id ≡ n)) ⊎ (refused n × Chosen accepted refused ns otherwise id)

-- where a window is accepted that takes the focus, and refused that doesn't, the first that takes it is chosen
pub chosen_is : (w : World) (accepted refused : ℕ → Type 0) (ns : List ℕ) (otherwise id : ℕ) → Chosen accepted refused ns otherwise id
    → ((n : ℕ) → accepted n → true ≡ takes_at w n) → ((n : ℕ) → refused n → false ≡ takes_at w n) → id ≡ first_taking w ns otherwise
chosen_is w accepted refused [] otherwise id h takes passes = h
chosen_is w accepted refused (n ∷ ns) otherwise id (inl h) takes passes = h.1 ∙ ap (λ b. if b then n else first_taking w ns otherwise) (takes n h.0)
chosen_is w accepted refused (n ∷ ns) otherwise id (inr h) takes passes =
    chosen_is w accepted refused ns otherwise id h.1 takes passes ∙ ap (λ b. if b then n else first_taking w ns otherwise) (passes n h.0)
