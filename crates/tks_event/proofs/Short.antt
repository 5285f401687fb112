-- A sequence has at most eight patterns.
use Rattle.std.proofs.Common.{◌≡◌, ◌≤◌, ◌⊎◌, inl, inr, true, false, List, [], ◌∷◌, length, arith}
use Rattle.std.proofs.lemmas.Bool.{leb-true}
use Rattle.std.specs.Prelude.{Bool, ◌&&◌, ◌||◌, not, nat_le}
use Rattle.tks_text.proofs.Texts.{both}
use Rattle.tks_event.specs.declared.pattern.Pattern.{Pattern}
use Rattle.tks_event.specs.Sequences.{is_physical, may_follow, is_physical_sequence, is_virtual_sequence, is_sequence}

either : (a b : Bool) → a || b ≡ true → (a ≡ true) ⊎ (b ≡ true)
either true b e = inl cc
either false b e = inr e

physical_short : (ps : List Pattern) → is_physical_sequence ps ≡ true → length ps ≤ 8
physical_short [] e = omega arith
physical_short (p ∷ ps) e =
    let a = both (not p.near) (is_physical p && (may_follow p 3 ps && nat_le (length (p ∷ ps)) 8)) e in
    let b = both (is_physical p) (may_follow p 3 ps && nat_le (length (p ∷ ps)) 8) a.1 in
    let c = both (may_follow p 3 ps) (nat_le (length (p ∷ ps)) 8) b.1 in
    leb-true (length (p ∷ ps)) 8 c.1

virtual_short : (ps : List Pattern) → is_virtual_sequence ps ≡ true → length ps ≤ 8
virtual_short [] e = omega arith
virtual_short (p ∷ []) e = omega arith
virtual_short (p ∷ q ∷ ps) e = absurd cc

pub is_short : (ps : List Pattern) → is_sequence ps ≡ true → length ps ≤ 8
unfolding is_sequence
is_short ps e =
    elim (either (is_physical_sequence ps) (is_virtual_sequence ps) e) [
      | inl p ↦ physical_short ps p
      | inr v ↦ virtual_short ps v
    ]
