-- The tags of a window leave all that is kept of others.
use Rattle.std.proofs.Common.{◌≡◌, ◌==◌, ℕ, Bool, true, false, cond, List, [], ◌∷◌, Option, Some, None, refl, ap, sym, ◌∙◌}
use Rattle.tks_state.specs.Laws.{other_windows}
use Rattle.tks_state.specs.Windows.{kept_of, replaced, on_kept, with_tags}
use Rattle.tks_state.specs.World.{World, tagged}
use Rattle.tks_state.specs.declared.kept.Kept.{Kept}

its_own : (number : ℕ) (ks : List Kept) (k : Kept) → kept_of ks number ≡ Some k → (k.window == number) ≡ true
its_own number [] k h = absurd cc
its_own number (l ∷ ks) k h = by (l.window == number) refl h (its_own number ks k)
  where
    by : (b : Bool) → (l.window == number) ≡ b → cond b (Some l) (kept_of ks number) ≡ Some k → (kept_of ks number ≡ Some k → (k.window == number) ≡ true) → (k.window == number) ≡ true
    by true e h rest = let same : l ≡ k = cc in ap (λ (x : Kept). x.window == number) (sym same) ∙ e
    by false e h rest = rest h

replaced_stays : (number : ℕ) (new : Kept) (ks : List Kept) → (new.window == number) ≡ true → other_windows number (replaced number new ks) ≡ other_windows number ks
replaced_stays number new [] own = refl
replaced_stays number new (l ∷ ks) own = by (l.window == number) refl (replaced_stays number new ks own)
  where
    by : (b : Bool) → (l.window == number) ≡ b → other_windows number (replaced number new ks) ≡ other_windows number ks
        → other_windows number (cond b (new ∷ ks) (l ∷ replaced number new ks)) ≡ other_windows number (l ∷ ks)
    by true e rest = rw (e, own) refl
    by false e rest = rw e (ap (λ r. l ∷ r) rest)

pub tagged_stays : (w : World) (number : ℕ) (tags : Option (List (List ℕ))) → other_windows number (tagged w number tags).kept ≡ other_windows number w.kept
tagged_stays w number tags = by (kept_of w.kept number) refl
  where
    by : (o : Option Kept) → kept_of w.kept number ≡ o → other_windows number (on_kept o w.kept (λ k. replaced number (with_tags k tags) w.kept)) ≡ other_windows number w.kept
    by None e = refl
    by (Some k) e = replaced_stays number (with_tags k tags) w.kept (its_own number w.kept k e)
