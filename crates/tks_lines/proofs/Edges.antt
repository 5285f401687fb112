-- The flag of a place, and the places where flags change, by the ranges.
use Rattle.std.proofs.Common.{◌≡◌, ℕ, zero, suc, ◌+◌, ◌-◌, ◌<◌, ◌≤◌, ◌&&◌, ◌||◌, nat_le, nat_lt, nat_eq, not, Bool, true, false, cond, get_or, List, [], ◌∷◌, ◌++◌, replicate, Option, Some, None, ◌⊎◌, inl, inr, refl, sym, ap, ◌∙◌, arith}
use Rattle.std.specs.Prelude.{slice_get}
use Rattle.std.proofs.lemmas.Bool.{cases_lt}
use Rattle.std.proofs.lemmas.Bool.Decides.{nat_tests}
use Rattle.tks_lines.specs.declared.range.Range.{Range}
use Rattle.tks_lines.specs.Lines.{is_true}
use Rattle.tks_lines.specs.Commands.{edges}
use Rattle.tks_lines.specs.Ranges.{flags_at, flags_of, ranges_at, ranges_of, is_behind, beginning_up_to, ends_of, AreRanges}

abbrev offs : ℕ → List Bool
offs n = replicate n false

abbrev ons : ℕ → List Bool
ons n = replicate n true

abbrev low : Option Range → ℕ
low None = 0
low (Some r) = r.last

-- ---- ranges and edges

ends_at : (on : List Bool) → ((place : ℕ) → ends_of (ranges_at None place on) ≡ edges false place on) × ((first place : ℕ) → ends_of (ranges_at (Some first) place on) ≡ first ∷ edges true place on)
ends_at [] = (λ place. refl, λ first place. refl)
ends_at (true ∷ on) = let rest = ends_at on in (λ place. rest.1 place (place + 1), λ first place. rest.1 first (place + 1))
ends_at (false ∷ on) = let rest = ends_at on in (λ place. rest.0 (place + 1), λ first place. ap (λ ns. first ∷ (place ∷ ns)) (rest.0 (place + 1)))

pub ends_are_edges : (on : List Bool) → ends_of (ranges_of on) ≡ edges false 0 on
ends_are_edges on = (ends_at on).0 0

-- ---- the flag of a place

-- whether the character behind a place is in one of them
abbrev pub are_around : List Range → ℕ → Bool
are_around [] place = false
are_around (r ∷ ranges) place = (nat_le r.first place && nat_lt place r.last) || are_around ranges place

got_offs : (n i : ℕ) (ys : List Bool) → i < n → is_true (slice_get (offs n ++ ys) i) ≡ false
got_offs zero i ys h = absurd (omega arith)
got_offs (suc n) zero ys h = refl
got_offs (suc n) (suc i) ys h = got_offs n i ys (omega arith)

got_ons : (n i : ℕ) (ys : List Bool) → i < n → is_true (slice_get (ons n ++ ys) i) ≡ true
got_ons zero i ys h = absurd (omega arith)
got_ons (suc n) zero ys h = refl
got_ons (suc n) (suc i) ys h = got_ons n i ys (omega arith)

got_behind : (n i k : ℕ) (b : Bool) (ys : List Bool) → i ≡ n + k → slice_get (replicate n b ++ ys) i ≡ slice_get ys k
got_behind zero i k b ys e = let same : i ≡ k = omega arith in ap (slice_get ys) same
got_behind (suc n) zero k b ys e = absurd (omega arith)
got_behind (suc n) (suc i) k b ys e = got_behind n i k b ys (omega arith)

no_flags : (n i : ℕ) → is_true (slice_get (offs n) i) ≡ false
no_flags zero zero = refl
no_flags zero (suc i) = refl
no_flags (suc n) zero = refl
no_flags (suc n) (suc i) = no_flags n i

-- those from a place on are behind it
none_around : (len q : ℕ) (b : Range) (ranges : List Range) → AreRanges len (Some b) ranges → q < b.last → are_around ranges q ≡ false
none_around len q b [] h lt = refl
none_around len q b (r ∷ ranges) h lt =
    let far : b.last < r.first = grind (arith, nat_tests) in
    let off : (nat_le r.first q && nat_lt q r.last) ≡ false = grind (arith, nat_tests) in
    ap (λ x. x || are_around ranges q) off ∙ none_around len q r ranges h.3 (omega (arith, h.1))

around_at : (len : ℕ) (before : Option Range) (ranges : List Range) (q i : ℕ) → AreRanges len before ranges → q ≡ low before + i → is_true (slice_get (flags_at (low before) len ranges) i) ≡ are_around ranges q
around_at len before [] q i h e = no_flags (len - low before) i
around_at len before (r ∷ ranges) q i h e = by (cases_lt q r.first) (cases_lt q r.last) (λ past. around_at len (Some r) ranges q (q - r.last) h.3 (omega arith))
  where
    begins : (before : Option Range) → is_behind before r.first ≡ true → low before ≤ r.first
    begins None e = omega arith
    begins (Some b) e = grind (arith, nat_tests)

    middle : List Bool
    middle = ons (r.last - r.first) ++ flags_at r.last len ranges

    here : ℕ → ℕ → Bool
    here p n = is_true (slice_get (flags_at p len (r ∷ ranges)) n)

    by : (q < r.first) ⊎ (r.first ≤ q) → (q < r.last) ⊎ (r.last ≤ q) → (r.last ≤ q → is_true (slice_get (flags_at r.last len ranges) (q - r.last)) ≡ are_around ranges q) → here (low before) i ≡ are_around (r ∷ ranges) q
    by (inl lt) other rest =
        let far = begins before h.0 in
        let off : (nat_le r.first q && nat_lt q r.last) ≡ false = grind (arith, nat_tests) in
        got_offs (r.first - low before) i middle (omega arith) ∙ sym (ap (λ x. x || are_around ranges q) off ∙ none_around len q r ranges h.3 (omega (arith, h.1)))
    by (inr le) (inl lt) rest =
        let far = begins before h.0 in
        let on : (nat_le r.first q && nat_lt q r.last) ≡ true = grind (arith, nat_tests) in
        ap is_true (got_behind (r.first - low before) i (q - r.first) false middle (omega arith)) ∙ got_ons (r.last - r.first) (q - r.first) (flags_at r.last len ranges) (omega arith)
        ∙ sym (ap (λ x. x || are_around ranges q) on)
    by (inr le) (inr past) rest =
        let far = begins before h.0 in
        let off : (nat_le r.first q && nat_lt q r.last) ≡ false = grind (arith, nat_tests) in
        ap is_true (got_behind (r.first - low before) i (q - r.first) false middle (omega arith) ∙ got_behind (r.last - r.first) (q - r.first) (q - r.last) true (flags_at r.last len ranges) (omega (arith, h.1)))
        ∙ rest past
        ∙ sym (ap (λ x. x || are_around ranges q) off)

pub flag_around : (len : ℕ) (ranges : List Range) (place : ℕ) → AreRanges len None ranges → is_true (slice_get (flags_of len ranges) place) ≡ are_around ranges place
flag_around len ranges place h = around_at len None ranges place place h (omega arith)

-- ---- a search for the range around a place

-- none begins up to it
pub none_begun : (len q : ℕ) (before : Option Range) (ranges : List Range) → AreRanges len before ranges → beginning_up_to q ranges ≡ 0 → are_around ranges q ≡ false
none_begun len q before [] h e = refl
none_begun len q before (r ∷ ranges) h e = by (cases_lt q r.first)
  where
    by : (q < r.first) ⊎ (r.first ≤ q) → are_around (r ∷ ranges) q ≡ false
    by (inl lt) =
        let off : (nat_le r.first q && nat_lt q r.last) ≡ false = grind (arith, nat_tests) in
        ap (λ x. x || are_around ranges q) off ∙ none_around len q r ranges h.3 (omega (arith, h.1))
    by (inr le) =
        let on : nat_le r.first q ≡ true = grind (arith, nat_tests) in
        let some : cond true (1 + beginning_up_to q ranges) 0 ≡ 0 = ap (λ b. cond b (1 + beginning_up_to q ranges) 0) (sym on) ∙ e in
        absurd (omega arith)

-- those before one that begins up to it end before it
some_begun : (len q m : ℕ) (b : Range) (ranges : List Range) → AreRanges len (Some b) ranges → beginning_up_to q ranges ≡ suc m → b.last ≤ q
some_begun len q m b [] h e = absurd (omega arith)
some_begun len q m b (r ∷ ranges) h e = by (cases_lt q r.first)
  where
    by : (q < r.first) ⊎ (r.first ≤ q) → b.last ≤ q
    by (inl lt) =
        let off : nat_le r.first q ≡ false = grind (arith, nat_tests) in
        let nothing : cond false (1 + beginning_up_to q ranges) 0 ≡ suc m = ap (λ x. cond x (1 + beginning_up_to q ranges) 0) (sym off) ∙ e in
        absurd (omega arith)
    by (inr le) = let far : b.last < r.first = grind (arith, nat_tests) in omega arith

or_nothing : (b : Bool) → (b || false) ≡ b
or_nothing true = refl
or_nothing false = refl

and_nothing : (b : Bool) → (b && false) ≡ false
and_nothing true = refl
and_nothing false = refl

-- the last that begins up to it is the one that may be around it
pub last_begun : (len q n : ℕ) (before : Option Range) (ranges : List Range) (d : Range) → AreRanges len before ranges → beginning_up_to q ranges ≡ suc n → nat_lt q (get_or ranges n d).last ≡ are_around ranges q
last_begun len q n before [] d h e = absurd (omega arith)
last_begun len q n before (r ∷ ranges) d h e = by (cases_lt q r.first) n e (none_begun len q (Some r) ranges h.3) (λ m f. last_begun len q m (Some r) ranges d h.3 f) (λ m f. some_begun len q m r ranges h.3 f)
  where
    by : (q < r.first) ⊎ (r.first ≤ q) → (n : ℕ) → beginning_up_to q (r ∷ ranges) ≡ suc n → (beginning_up_to q ranges ≡ 0 → are_around ranges q ≡ false)
        → ((m : ℕ) → beginning_up_to q ranges ≡ suc m → nat_lt q (get_or ranges m d).last ≡ are_around ranges q)
        → ((m : ℕ) → beginning_up_to q ranges ≡ suc m → r.last ≤ q)
        → nat_lt q (get_or (r ∷ ranges) n d).last ≡ are_around (r ∷ ranges) q
    by (inl lt) n e none rest past =
        let off : nat_le r.first q ≡ false = grind (arith, nat_tests) in
        let nothing : cond false (1 + beginning_up_to q ranges) 0 ≡ suc n = ap (λ b. cond b (1 + beginning_up_to q ranges) 0) (sym off) ∙ e in
        absurd (omega arith)
    by (inr le) zero e none rest past =
        let on : nat_le r.first q ≡ true = grind (arith, nat_tests) in
        let some : cond true (1 + beginning_up_to q ranges) 0 ≡ suc 0 = ap (λ b. cond b (1 + beginning_up_to q ranges) 0) (sym on) ∙ e in
        let no_more : beginning_up_to q ranges ≡ 0 = omega arith in
        sym (ap (λ x. (x && nat_lt q r.last) || are_around ranges q) on ∙ ap (λ x. nat_lt q r.last || x) (none no_more) ∙ or_nothing (nat_lt q r.last))
    by (inr le) (suc m) e none rest past =
        let on : nat_le r.first q ≡ true = grind (arith, nat_tests) in
        let some : cond true (1 + beginning_up_to q ranges) 0 ≡ suc (suc m) = ap (λ b. cond b (1 + beginning_up_to q ranges) 0) (sym on) ∙ e in
        let further : beginning_up_to q ranges ≡ suc m = omega arith in
        let over : r.last ≤ q = past m further in
        let off : nat_lt q r.last ≡ false = grind (arith, nat_tests) in
        rest m further ∙ sym (ap (λ x. (nat_le r.first q && x) || are_around ranges q) off ∙ ap (λ x. x || are_around ranges q) (and_nothing (nat_le r.first q)))

pub found_around : (len q n : ℕ) (on : List Bool) (found ranges : List Range) (d : Range) → AreRanges len None ranges → found ≡ ranges → flags_of len ranges ≡ on → n ≡ beginning_up_to q found → (n ≡ 0 → ⊥)
    → nat_lt q (get_or found (n - 1) d).last ≡ is_true (slice_get on q)
found_around len q n on found ranges d h same is e some =
    let one : n ≡ suc (n - 1) = omega arith in
    ap (λ rs. nat_lt q (get_or rs (n - 1) d).last) same
    ∙ last_begun len q (n - 1) None ranges d h (sym (ap (beginning_up_to q) same) ∙ sym e ∙ one)
    ∙ sym (flag_around len ranges q h)
    ∙ ap (λ fs. is_true (slice_get fs q)) is

pub none_around_it : (len q n : ℕ) (on : List Bool) (found ranges : List Range) → AreRanges len None ranges → found ≡ ranges → flags_of len ranges ≡ on → n ≡ beginning_up_to q found → n ≡ 0 → not (nat_eq n 0) ≡ is_true (slice_get on q)
none_around_it len q n on found ranges h same is e none =
    ap (λ m. not (nat_eq m 0)) none
    ∙ sym (none_begun len q None ranges h (sym (ap (beginning_up_to q) same) ∙ sym e ∙ none))
    ∙ sym (flag_around len ranges q h)
    ∙ ap (λ fs. is_true (slice_get fs q)) is
