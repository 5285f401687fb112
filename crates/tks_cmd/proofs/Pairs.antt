-- Options and values in turn.
use Rattle.std.proofs.Common.{◌≡◌, ℕ, ◌≤◌, List, [], ◌∷◌, length, take, drop, Result, Ok, Err, refl, sym, ap, ◌∙◌, arith}
use Rattle.tks_text.specs.declared.limits.Limits.{Limits}
use Rattle.tks_tcl.specs.Cause.{Cause, after}
use Rattle.tks_cmd.specs.Links.{Linked}
use Rattle.tks_cmd.specs.Widgets.{configured_pair, configured}

module _ (limits : Limits) where
  -- a pair, and those behind it
  pub pair_first : (rest front back : List (List ℕ)) (x y : Linked) → 2 ≤ length rest → front ≡ take 2 rest → back ≡ drop 2 rest
      → configured_pair limits front x ≡ Ok y → configured limits back y ≡ configured limits rest x
  unfolding configured
  pair_first [] front back x y le f b h = absurd (omega (arith, le))
  pair_first (n ∷ []) front back x y le f b h = absurd (omega (arith, le))
  pair_first (n ∷ v ∷ rest) front back x y le f b h =
      ap (λ l. configured limits l y) b ∙ ap (λ r. after r (configured limits rest)) (sym h ∙ ap (λ l. configured_pair limits l x) f)

  only : (r : Result Linked Cause) → r ≡ after r (λ y. Ok y)
  only (Ok y) = refl
  only (Err why) = refl

  -- one pair alone
  pub pair_alone : (pairs : List (List ℕ)) (x : Linked) → length pairs ≡ 2 → configured_pair limits pairs x ≡ configured limits pairs x
  unfolding configured
  pair_alone [] x e = absurd (omega (arith, e))
  pair_alone (n ∷ []) x e = absurd (omega (arith, e))
  pair_alone (n ∷ v ∷ []) x e = only (configured_pair limits (n ∷ v ∷ []) x)
  pair_alone (n ∷ v ∷ m ∷ rest) x e = absurd (omega (arith, e))
