-- The ranges of a tag.
use Rattle.std.proofs.Common.{◌≡◌, ℕ, zero, suc, ◌+◌, ◌<◌, ◌≤◌, ◌==◌, ◌&&◌, ◌||◌, nat_le, nat_lt, Bool, true, false, List, [], ◌∷◌, refl, ap, ◌∙◌, arith}
use Rattle.std.specs.Prelude.{slice_get}
use Rattle.std.proofs.lemmas.Bool.Decides.{nat_tests}
use Rattle.tks_lines.specs.Lines.{is_true}
use Rattle.tks_lines.specs.Commands.{edges}
use Rattle.tks_lines.specs.Laws.{AreRanges, in_ranges, RangesOf}

-- outside a range, and in one that began before
are_ranges : (on : List Bool) → ((low place : ℕ) → low ≤ place → AreRanges low (edges false place on)) × ((low first place : ℕ) → low ≤ first → first < place → AreRanges low (first ∷ edges true place on))
are_ranges [] = (λ low place h. tt, λ low first place h k. (h, k, tt))
are_ranges (true ∷ on) =
    let rest = are_ranges on in
    (λ low place h. rest.1 low place (place + 1) h (omega arith), λ low first place h k. rest.1 low first (place + 1) h (omega arith))
are_ranges (false ∷ on) =
    let rest = are_ranges on in
    (λ low place h. rest.0 low (place + 1) (omega arith), λ low first place h k. (h, k, rest.0 (place + 1) (place + 1) (omega arith)))

-- whether a character has the tag, where the flags begin at a place
abbrev pub has : ℕ → List Bool → ℕ → Bool
has place [] q = false
has place (b ∷ on) q = (b && (q == place)) || has (place + 1) on q

here_alone : (place q : ℕ) (later : Bool) → ((nat_le place q && nat_lt q (place + 1)) || later) ≡ ((true && (q == place)) || later)
here_alone place q later = grind (arith, nat_tests)

one_longer : (first place q : ℕ) (later : Bool) → first ≤ place
    → ((nat_le first q && nat_lt q (place + 1)) || later) ≡ ((nat_le first q && nat_lt q place) || ((true && (q == place)) || later))
one_longer first place q later h = grind (arith, nat_tests)

in_those : (on : List Bool) → ((place q : ℕ) → in_ranges q (edges false place on) ≡ has place on q)
    × ((first place q : ℕ) → first ≤ place → in_ranges q (first ∷ edges true place on) ≡ ((nat_le first q && nat_lt q place) || has place on q))
in_those [] = (λ place q. refl, λ first place q h. refl)
in_those (true ∷ on) =
    let rest = in_those on in (
      λ place q. rest.1 place (place + 1) q (omega arith) ∙ here_alone place q (has (place + 1) on q),
      λ first place q h. rest.1 first (place + 1) q (omega arith) ∙ one_longer first place q (has (place + 1) on q) h,
    )
in_those (false ∷ on) =
    let rest = in_those on in (
      λ place q. rest.0 (place + 1) q,
      λ first place q h. ap (λ b. (nat_le first q && nat_lt q place) || b) (rest.0 (place + 1) q),
    )

not_before : (on : List Bool) (place q : ℕ) → q < place → has place on q ≡ false
not_before [] place q h = refl
not_before (b ∷ on) place q h =
    let other : (q == place) ≡ false = grind (arith, nat_tests) in
    let rest = not_before on (place + 1) q (omega arith) in
    by b other rest
  where
    by : (b : Bool) → (q == place) ≡ false → has (place + 1) on q ≡ false → ((b && (q == place)) || has (place + 1) on q) ≡ false
    by true e f = ap (λ x. x || has (place + 1) on q) e ∙ f
    by false e f = f

at_first : (b : Bool) (place : ℕ) (later : Bool) → later ≡ false → ((b && (place == place)) || later) ≡ b
at_first true place later e = let same : (place == place) ≡ true = grind (arith, nat_tests) in ap (λ x. x || later) same
at_first false place later e = e

behind_first : (b : Bool) (place q : ℕ) (later : Bool) → place < q → ((b && (q == place)) || later) ≡ later
behind_first true place q later h = let other : (q == place) ≡ false = grind (arith, nat_tests) in ap (λ x. x || later) other
behind_first false place q later h = refl

has_flag : (on : List Bool) (place i : ℕ) → has place on (place + i) ≡ is_true (slice_get on i)
has_flag [] place i = refl
has_flag (b ∷ on) place zero =
    let none : place + 0 ≡ place = omega arith in
    ap (has place (b ∷ on)) none ∙ at_first b place (has (place + 1) on place) (not_before on (place + 1) place (omega arith))
has_flag (b ∷ on) place (suc i) =
    let next : place + suc i ≡ (place + 1) + i = omega arith in
    behind_first b place (place + suc i) (has (place + 1) on (place + suc i)) (omega arith) ∙ ap (has (place + 1) on) next ∙ has_flag on (place + 1) i

pub those_tagged : (on : List Bool) → RangesOf on
those_tagged on = ((are_ranges on).0 0 0 (omega arith), λ place. (in_those on).0 0 place ∙ (let none : place ≡ 0 + place = omega arith in ap (has 0 on) none ∙ has_flag on 0 place))
