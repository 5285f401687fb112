-- A set is the union of those of its modifiers.
use Rattle.std.proofs.Common.{◌≡◌, ℕ, zero, suc, ◌*◌, ◌^◌, ◌<◌, ◌≤◌, min, max, Bool, true, false, not, ◌||◌, ◌==◌, List, [], ◌∷◌, map, refl, sym, ap, ◌∙◌, arith}
use Rattle.std.specs.Prelude.{bit_and, bit_or, if◌then◌else◌}
use Rattle.std.specs.Int.{bit_at}
use Rattle.std.specs.Int.Bits.{or_zero_r}
use Rattle.std.proofs.lemmas.Nat.{and_le_l}
use Rattle.std.proofs.lemmas.Nat.Bits.{bit_at_or, bit_at_and, bit_at-zero, bit_at-pow_same, bit_at-lt, same_from_bits_below, and_pow}
use Rattle.std.proofs.lemmas.Bool.{cond_both, eqb-true, eqb-false, agree_below_at}
use Rattle.std.proofs.Common.{◌⊎◌, inl, inr}
use Rattle.tks_text.proofs.Tests.{or_case}
use Rattle.tks_event.specs.Modifiers.{bit_of, has, all_modifiers}
use Rattle.tks_event.specs.declared.modifiers.Modifier.{Modifier}
use Rattle.tks_event.specs.declared.modifiers.Modifier.TheVariants as modifier
use Rattle.tks_event.proofs.Sets.{or_within}

-- those of some modifiers that are in a set
abbrev pub union_of : ℕ → List Modifier → ℕ
union_of set [] = 0
union_of set (m ∷ ms) = if has set m then bit_or (union_of set ms) (bit_of m) else union_of set ms

place : Modifier → ℕ
place modifier.Shift = 0
place modifier.Lock = 1
place modifier.Control = 2
place modifier.Mod1 = 3
place modifier.Mod2 = 4
place modifier.Mod3 = 5
place modifier.Mod4 = 6
place modifier.Mod5 = 7
place modifier.Button1 = 8
place modifier.Button2 = 9
place modifier.Button3 = 10
place modifier.Button4 = 11
place modifier.Button5 = 12

bit_at_place : (m : Modifier) → bit_of m ≡ 2 ^ place m
unfolding place
bit_at_place modifier.Shift = refl
bit_at_place modifier.Lock = refl
bit_at_place modifier.Control = refl
bit_at_place modifier.Mod1 = refl
bit_at_place modifier.Mod2 = refl
bit_at_place modifier.Mod3 = refl
bit_at_place modifier.Mod4 = refl
bit_at_place modifier.Mod5 = refl
bit_at_place modifier.Button1 = refl
bit_at_place modifier.Button2 = refl
bit_at_place modifier.Button3 = refl
bit_at_place modifier.Button4 = refl
bit_at_place modifier.Button5 = refl

-- a bit that is there is all of it
there_by : (b p x : ℕ) → x ≡ b * p → b < 2 → (x == 0) ≡ false → x ≡ p
there_by zero p x e lt h = let none : x ≡ 0 = omega arith in absurd (eqb-false x 0 h none)
there_by (suc zero) p x e lt h = omega arith
there_by (suc (suc b)) p x e lt h = absurd (omega arith)

bit_there : (set k : ℕ) → (bit_and set (2 ^ k) == 0) ≡ false → bit_and set (2 ^ k) ≡ 2 ^ k
bit_there set k h =
    let e = and_pow set k in
    let lt = bit_at-lt set k in
    there_by (bit_at set k) (2 ^ k) (bit_and set (2 ^ k)) e lt h

turned : (b : Bool) → not b ≡ true → b ≡ false
turned true h = absurd cc
turned false h = refl

turned_back : (b : Bool) → not b ≡ false → b ≡ true
turned_back true h = refl
turned_back false h = absurd cc

with_bit : (set u : ℕ) (m : Modifier) → (if has set m then bit_or u (bit_of m) else u) ≡ bit_or u (bit_and set (2 ^ place m))
with_bit set u m =
    let e = bit_at_place m in
    cond_both (not (bit_and set (bit_of m) == 0)) (bit_or u (bit_of m)) u (λ x. x ≡ bit_or u (bit_and set (2 ^ place m)))
    (λ h. ap (bit_or u) (e ∙ sym (bit_there set (place m) (ap (λ b. bit_and set b == 0) (sym e) ∙ turned _ h))))
    (λ h. sym (ap (bit_or u) (ap (bit_and set) (sym e) ∙ eqb-true (bit_and set (bit_of m)) 0 (turned_back _ h)) ∙ or_zero_r u))

ors : ℕ → List ℕ → ℕ
ors set [] = 0
ors set (j ∷ js) = bit_or (ors set js) (bit_and set (2 ^ j))

union_ors : (set : ℕ) (ms : List Modifier) → union_of set ms ≡ ors set (map place ms)
unfolding ors
union_ors set [] = refl
union_ors set (m ∷ ms) = with_bit set (union_of set ms) m ∙ ap (λ u. bit_or u (bit_and set (2 ^ place m))) (union_ors set ms)

ors_bit : (set j i : ℕ) (js : List ℕ) → bit_at (ors set (j ∷ js)) i ≡ max (bit_at (ors set js) i) (min (bit_at set i) (bit_at (2 ^ j) i))
unfolding ors
ors_bit set j i js = bit_at_or (ors set js) (bit_and set (2 ^ j)) i ∙ ap (max (bit_at (ors set js) i)) (bit_at_and set (2 ^ j) i)

ors_le : (set i : ℕ) (js : List ℕ) → bit_at (ors set js) i ≤ bit_at set i
unfolding ors
ors_le set i [] = omega (arith, bit_at-zero i)
ors_le set i (j ∷ js) = omega (arith, ors_bit set j i js, ors_le set i js)

among : List ℕ → ℕ → Bool
among [] i = false
among (j ∷ js) i = (i == j) || among js i

has_by : (set i j : ℕ) (js : List ℕ) → ((i == j) ≡ true) ⊎ (bit_at (ors set js) i ≡ bit_at set i) → bit_at (ors set (j ∷ js)) i ≡ bit_at set i
has_by set i j js (inl e) =
    let same = eqb-true i j e in
    let one : bit_at (2 ^ j) i ≡ 1 = ap (bit_at (2 ^ j)) same ∙ bit_at-pow_same j in
    omega (arith, ors_bit set j i js, ors_le set i js, bit_at-lt set i)
has_by set i j js (inr e) = omega (arith, ors_bit set j i js)

ors_has : (set i : ℕ) (js : List ℕ) → among js i ≡ true → bit_at (ors set js) i ≡ bit_at set i
unfolding among
ors_has set i [] h = absurd cc
ors_has set i (j ∷ js) h = or_case (i == j) (among js i) h (λ e. has_by set i j js (inl e)) (λ e. has_by set i j js (inr (ors_has set i js e)))

and_within : (set p : ℕ) → set < 8_192 → bit_and set p < 8_192
and_within set p h = omega (arith, and_le_l set p)

within : (set : ℕ) (js : List ℕ) → set < 8_192 → ors set js < 8_192
unfolding ors
within set [] h = omega arith
within set (j ∷ js) h = or_within (ors set js) (bit_and set (2 ^ j)) (within set js h) (and_within set (2 ^ j) h)

places : List ℕ
places = 0 ∷ 1 ∷ 2 ∷ 3 ∷ 4 ∷ 5 ∷ 6 ∷ 7 ∷ 8 ∷ 9 ∷ 10 ∷ 11 ∷ 12 ∷ []

all_places : (i : ℕ) → i < 13 → among places i ≡ true
unfolding among places
all_places i h = agree_below_at (among places) (λ _. true) 13 i refl h

pub union_all : (set : ℕ) → set < 8_192 → union_of set all_modifiers ≡ set
unfolding place places
union_all set h =
    union_ors set all_modifiers ∙ same_from_bits_below 13 (ors set places) set (within set places h) h (λ i l. ors_has set i places (all_places i l))
