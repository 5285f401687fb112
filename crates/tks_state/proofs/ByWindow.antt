-- Entries by numbers, and the map that they are.
use Rattle.std.proofs.Common.{◌≡◌, ◌==◌, ℕ, cond, List, [], ◌∷◌, Some, refl, sym, ap, ◌∙◌}
use Rattle.std.specs.Prelude.{nat_eq}
use Rattle.std.specs.Ordering.{nat_cmp}
use Rattle.std.specs.Cmp.{nat_cmp_total, nat_eq_equiv, unsigned_tied}
use Rattle.std.specs.Map.{lookup}
use Rattle.std.specs.FinMap as fin
use Rattle.tks_state.specs.ByWindow.{ByWindow}

module _ {V : Type 0} where
  abbrev pub map_of : List (ℕ × V) → ByWindow V
  map_of es = fin.from_entries es

  finds : (n : ℕ) (es : List (ℕ × V)) → fin.find nat_cmp n es ≡ lookup (nat_eq n) es
  finds n [] = refl
  finds n (e ∷ es) = ap (λ b. cond b (Some e.1) (fin.find nat_cmp n es)) (unsigned_tied n e.0) ∙ ap (cond (n == e.0) (Some e.1)) (finds n es)

  pub found : (n : ℕ) (es : List (ℕ × V)) → fin.get (map_of es) n ≡ lookup (nat_eq n) es
  found n es = fin.get-from_entries nat_cmp_total es n ∙ finds n es

  pub inserted : (k : ℕ) (v : V) (es fs : List (ℕ × V)) → ((q : ℕ) → lookup (nat_eq q) fs ≡ cond (nat_eq k q) (Some v) (lookup (nat_eq q) es)) → map_of fs ≡ fin.insert (map_of es) k v
  inserted k v es fs put =
      fin.same_map nat_cmp_total fin.nat_cmp-IsAntisymmetric _ _ (λ q.
      found q fs ∙ put q
      ∙ sym (fin.get-insert nat_cmp_total (map_of es) k v q ∙ ap (λ b. cond b (Some v) (fin.get (map_of es) q)) (unsigned_tied q k ∙ nat_eq_equiv.symm q k) ∙ ap (cond (nat_eq k q) (Some v)) (found q es)))
