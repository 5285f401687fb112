-- Options and values in turn.
use Rattle.std.proofs.Common.{◌≡◌, ℕ, List, ◌∷◌, Result, Ok, sym, ap, ◌∙◌}
use Rattle.tks_tcl.specs.Cause.{Cause, after}
use Rattle.tks_cmd.specs.Events.{Wanted, with_option, with_options}

module _ (pattern : List ℕ) where
  -- an option with its value, and those behind it
  pub option_first : (rest behind more : List (List ℕ)) (name value : List ℕ) (x new : Wanted) → rest ≡ name ∷ behind → behind ≡ value ∷ more
      → with_option pattern name value x ≡ Ok new → with_options pattern more new ≡ with_options pattern rest x
  option_first rest behind more name value x new first second set =
      sym (ap (λ l. with_options pattern l x) (first ∙ ap (λ l. name ∷ l) second)
      ∙ ap (λ (r : Result Wanted Cause). after r (with_options pattern more)) set)
