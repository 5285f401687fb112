-- Beating is a strict order, and decided by a test.
use Rattle.std.proofs.Common.{◌≡◌, inl, inr, ◌<◌, ℕ, true, false, bit_and, List, [], ◌∷◌, length, refl, ap, sym, subst, ◌∙◌, arith}
use Rattle.std.proofs.lemmas.Nat.{and_assoc, and_comm}
use Rattle.tks_event.specs.declared.pattern.Pattern.{Pattern}
use Rattle.tks_bind.specs.Occurs.{turned}
use Rattle.tks_bind.specs.Choice.{Way, HasMore, Overrides, Beats, by_detail, by_length, by_modifiers, by_itself, last_has_detail}

-- ---- sets of modifiers

more_along : (x y z : ℕ) → HasMore x y → HasMore y z → HasMore x z
more_along x y z h k = record {
  all = ap (λ t. bit_and x t) (sym k.all) ∙ (sym (and_assoc z x y) ∙ (ap (λ t. bit_and t z) h.all ∙ k.all));
  others = λ e. h.others (sym (subst (λ t. bit_and y t ≡ t) (sym e) k.all) ∙ (and_comm y x ∙ h.all));
}

overrides_itself : (ps : List Pattern) → Overrides ps ps → ⊥
overrides_itself [] h = h
overrides_itself (p ∷ ps) (inl h) = h.others refl
overrides_itself (p ∷ ps) (inr h) = overrides_itself ps h.1

overrides_along : (ps qs rs : List Pattern) → Overrides ps qs → Overrides qs rs → Overrides ps rs
overrides_along [] qs rs h k = h
overrides_along (p ∷ ps) [] rs h k = absurd h
overrides_along (p ∷ ps) (q ∷ qs) [] h k = k
overrides_along (p ∷ ps) (q ∷ qs) (r ∷ rs) (inl h) (inl k) = inl (more_along p.modifiers q.modifiers r.modifiers h k)
overrides_along (p ∷ ps) (q ∷ qs) (r ∷ rs) (inl h) (inr k) = inl (subst (λ n. HasMore p.modifiers n) k.0 h)
overrides_along (p ∷ ps) (q ∷ qs) (r ∷ rs) (inr h) (inl k) = inl (subst (λ n. HasMore n r.modifiers) (sym h.0) k)
overrides_along (p ∷ ps) (q ∷ qs) (r ∷ rs) (inr h) (inr k) = inr (h.0 ∙ k.0, overrides_along ps qs rs h.1 k.1)

-- ---- the order

pub never_itself : (a : Way) → ¬ Beats a a
never_itself a (by_detail h k) = let e : true ≡ false = sym h ∙ k in cc
never_itself a (by_length h k) = omega arith
never_itself a (by_modifiers h k m) = overrides_itself (turned a.sequence []) m
never_itself a (by_itself h k m) = let e : false ≡ true = sym k ∙ m in cc

pub beats_along : (a b c : Way) → Beats a b → Beats b c → Beats a c
beats_along a b c (by_detail h k) (by_detail i j) = let e : true ≡ false = sym i ∙ k in absurd cc
beats_along a b c (by_detail h k) (by_length i j) = by_detail h (sym i ∙ k)
beats_along a b c (by_detail h k) (by_modifiers i j m) = by_detail h (sym i ∙ k)
beats_along a b c (by_detail h k) (by_itself i j m) = by_detail h (ap last_has_detail (sym i) ∙ k)
beats_along a b c (by_length h k) (by_detail i j) = by_detail (h ∙ i) j
beats_along a b c (by_length h k) (by_length i j) = by_length (h ∙ i) (omega arith)
beats_along a b c (by_length h k) (by_modifiers i j m) = by_length (h ∙ i) (omega arith)
beats_along a b c (by_length h k) (by_itself i j m) = by_length (h ∙ ap last_has_detail i) (subst (λ s. length s < length a.sequence) i k)
beats_along a b c (by_modifiers h k o) (by_detail i j) = by_detail (h ∙ i) j
beats_along a b c (by_modifiers h k o) (by_length i j) = by_length (h ∙ i) (omega arith)
beats_along a b c (by_modifiers h k o) (by_modifiers i j m) =
    by_modifiers (h ∙ i) (k ∙ j) (overrides_along (turned a.sequence []) (turned b.sequence []) (turned c.sequence []) o m)
beats_along a b c (by_modifiers h k o) (by_itself i j m) =
    by_modifiers (h ∙ ap last_has_detail i) (k ∙ ap length i) (subst (λ s. Overrides (turned a.sequence []) (turned s [])) i o)
beats_along a b c (by_itself h k o) (by_detail i j) = by_detail (ap last_has_detail h ∙ i) j
beats_along a b c (by_itself h k o) (by_length i j) = by_length (ap last_has_detail h ∙ i) (subst (λ s. length c.sequence < length s) (sym h) j)
beats_along a b c (by_itself h k o) (by_modifiers i j m) =
    by_modifiers (ap last_has_detail h ∙ i) (ap length h ∙ j) (subst (λ s. Overrides (turned s []) (turned c.sequence [])) (sym h) m)
beats_along a b c (by_itself h k o) (by_itself i j m) = let e : true ≡ false = sym o ∙ j in absurd cc
