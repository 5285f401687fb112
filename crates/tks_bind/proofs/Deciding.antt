-- The test of beating decides it.
use Rattle.std.proofs.Common.{◌≡◌, ◌≢◌, ◌⊎◌, inl, inr, ◌<◌, ◌==◌, ◌&&◌, ◌||◌, not, if◌then◌else◌, Bool, true, false, bit_and, List, [], ◌∷◌, length, refl, ap, sym, ◌∙◌}
use Rattle.std.specs.Bool.{Decides}
use Rattle.std.proofs.lemmas.Bool.Decides.{Decides-and, Decides-or, Decides-like, Decides-eqb, Decides-ltb}
use Rattle.tks_event.specs.Equality.{equal_patterns}
use Rattle.tks_event.specs.declared.pattern.Pattern.{Pattern}
use Rattle.tks_event.proofs.Equal.{equal_so}
use Rattle.tks_bind.specs.Occurs.{turned}
use Rattle.tks_bind.specs.Choice.{Way, HasMore, Overrides, Beats, by_detail, by_length, by_modifiers, by_itself, last_has_detail}
use Rattle.tks_bind.specs.Beating.{overrides, beats, beats_alike, is_longer, is_more_modified, is_met_itself}

overrides_so : (ps qs : List Pattern) → Decides (overrides ps qs) (Overrides ps qs)
overrides_so [] qs = (λ e. absurd (let f : false ≡ true = e in cc), λ h. absurd h)
overrides_so (p ∷ ps) [] = (λ e. absurd (let f : false ≡ true = e in cc), λ h. absurd h)
overrides_so (p ∷ ps) (q ∷ qs) = by (p.modifiers == q.modifiers) (Decides-eqb p.modifiers q.modifiers) (overrides_so ps qs)
  where
    later : p.modifiers ≡ q.modifiers → HasMore p.modifiers q.modifiers ⊎ ((p.modifiers ≡ q.modifiers) × Overrides ps qs) → Overrides ps qs
    later e (inl h) = absurd (h.others e)
    later e (inr h) = h.1

    at_once : (p.modifiers ≢ q.modifiers) → HasMore p.modifiers q.modifiers ⊎ ((p.modifiers ≡ q.modifiers) × Overrides ps qs)
        → bit_and p.modifiers q.modifiers ≡ q.modifiers
    at_once n (inl h) = h.all
    at_once n (inr h) = absurd (n h.0)

    by : (b : Bool) → Decides b (p.modifiers ≡ q.modifiers) → Decides (overrides ps qs) (Overrides ps qs)
        → Decides (if b then overrides ps qs else (bit_and p.modifiers q.modifiers == q.modifiers)) (HasMore p.modifiers q.modifiers ⊎ ((p.modifiers ≡ q.modifiers) × Overrides ps qs))
    by true d rest = let e = d.0 refl in Decides-like (overrides ps qs) (λ o. inr (e, o)) (later e) rest
    by false d rest =
        let n : p.modifiers ≢ q.modifiers = λ e. let f : false ≡ true = d.1 e in cc in
        Decides-like (bit_and p.modifiers q.modifiers == q.modifiers) (λ a. inl (record { all = a; others = n })) (at_once n) (
        Decides-eqb (bit_and p.modifiers q.modifiers) q.modifiers
        )

not_so : (v : Bool) → Decides (not v) (v ≡ false)
not_so true = (λ e. sym e, λ e. sym e)
not_so false = (λ e. refl, λ e. refl)

is_so : (v : Bool) → Decides v (v ≡ true)
is_so v = (λ e. e, λ e. e)

-- what there is to tell where both last events have a detail, or none
abbrev Parts : Way → Way → Type 0
Parts a b =
    (length b.sequence < length a.sequence)
    ⊎ (((length a.sequence ≡ length b.sequence) × Overrides (turned a.sequence []) (turned b.sequence []))
    ⊎ ((a.sequence ≡ b.sequence) × ((a.is_virtual ≡ false) × (b.is_virtual ≡ true))))

parts_so : (a b : Way) → Decides (beats_alike a b) (Parts a b)
parts_so a b =
    Decides-or (is_longer a b) (is_more_modified a b || is_met_itself a b) (Decides-ltb (length b.sequence) (length a.sequence)) (
    Decides-or (is_more_modified a b) (is_met_itself a b)
    (Decides-and (length a.sequence == length b.sequence) (overrides (turned a.sequence []) (turned b.sequence []))
    (Decides-eqb (length a.sequence) (length b.sequence)) (overrides_so (turned a.sequence []) (turned b.sequence [])))
    (Decides-and (equal_patterns a.sequence b.sequence) (not a.is_virtual && b.is_virtual) (equal_so a.sequence b.sequence)
    (Decides-and (not a.is_virtual) b.is_virtual (not_so a.is_virtual) (is_so b.is_virtual)))
    )

module _ (a b : Way) where
  from_parts : last_has_detail a.sequence ≡ last_has_detail b.sequence → Parts a b → Beats a b
  from_parts e (inl h) = by_length e h
  from_parts e (inr (inl h)) = by_modifiers e h.0 h.1
  from_parts e (inr (inr h)) = by_itself h.0 h.1.0 h.1.1

  to_parts : last_has_detail a.sequence ≡ last_has_detail b.sequence → Beats a b → Parts a b
  to_parts e (by_detail h k) = let f : true ≡ false = sym h ∙ (e ∙ k) in absurd cc
  to_parts e (by_length h k) = inl k
  to_parts e (by_modifiers h k o) = inr (inl (k, o))
  to_parts e (by_itself h k m) = inr (inr (h, (k, m)))

  never_without : last_has_detail a.sequence ≡ false → last_has_detail b.sequence ≡ true → ¬ Beats a b
  never_without e f (by_detail h k) = let g : true ≡ false = sym h ∙ e in cc
  never_without e f (by_length h k) = let g : false ≡ true = sym e ∙ (h ∙ f) in cc
  never_without e f (by_modifiers h k o) = let g : false ≡ true = sym e ∙ (h ∙ f) in cc
  never_without e f (by_itself h k m) = let g : false ≡ true = sym e ∙ (ap last_has_detail h ∙ f) in cc

  alike : last_has_detail a.sequence ≡ last_has_detail b.sequence → Decides (beats_alike a b) (Beats a b)
  alike e = Decides-like (beats_alike a b) (from_parts e) (to_parts e) (parts_so a b)

  pub beats_so : Decides (beats a b) (Beats a b)
  beats_so = by (last_has_detail a.sequence) (last_has_detail b.sequence) refl refl
    where
      by : (x y : Bool) → last_has_detail a.sequence ≡ x → last_has_detail b.sequence ≡ y
          → Decides (if x then (if y then beats_alike a b else true) else (if y then false else beats_alike a b)) (Beats a b)
      by true true e f = alike (e ∙ sym f)
      by true false e f = (λ _. by_detail e f, λ _. refl)
      by false true e f = (λ g. absurd (let h : false ≡ true = g in cc), λ h. absurd (never_without e f h))
      by false false e f = alike (e ∙ sym f)
