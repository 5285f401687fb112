-- Of ways, where there is one, there is one that none beats.
use Rattle.std.proofs.Common.{Decides, ◌≡◌, inl, inr, Bool, true, false, List, [], ◌∷◌, refl, subst}
use Rattle.tks_bind.specs.Choice.{Way, Beats, IsAmong, Unbeaten}
use Rattle.tks_bind.specs.Beating.{beats}
use Rattle.tks_bind.proofs.Order.{never_itself, beats_along}
use Rattle.tks_bind.proofs.Deciding.{beats_so}

pub one_wins : (first : Way) (ways : List Way) → (w : Way) × Unbeaten w (first ∷ ways)
one_wins first [] = (first, record { among = inl refl; none = alone })
  where
    alone : (v : Way) → IsAmong v (first ∷ []) → ¬ Beats v first
    alone v (inl e) h = never_itself first (subst (λ u. Beats u first) e h)
    alone v (inr none) h = none
one_wins first (next ∷ ways) = by (one_wins next ways)
  where
    by : ((w : Way) × Unbeaten w (next ∷ ways)) → (w : Way) × Unbeaten w (first ∷ next ∷ ways)
    by (w, u) = choose (beats first w) (beats_so first w)
      where
        first_stays : Beats first w → (v : Way) → IsAmong v (first ∷ next ∷ ways) → ¬ Beats v first
        first_stays f v (inl e) h = never_itself first (subst (λ x. Beats x first) e h)
        first_stays f v (inr m) h = u.none v m (beats_along v first w h f)

        w_stays : ¬ Beats first w → (v : Way) → IsAmong v (first ∷ next ∷ ways) → ¬ Beats v w
        w_stays f v (inl e) h = f (subst (λ x. Beats x w) e h)
        w_stays f v (inr m) h = u.none v m h

        choose : (b : Bool) → Decides b (Beats first w) → (x : Way) × Unbeaten x (first ∷ next ∷ ways)
        choose true d = (first, record { among = inl refl; none = first_stays (d.0 refl) })
        choose false d = (w, record { among = inr u.among; none = w_stays (λ h. let f : false ≡ true = d.1 h in cc) })
