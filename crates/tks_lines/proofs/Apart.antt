-- Ranges that rise, taken apart and put together.
use Rattle.std.proofs.Common.{◌≡◌, ℕ, zero, suc, ◌+◌, ◌-◌, ◌<◌, ◌≤◌, ◌^◌, nat_le, nat_lt, Bool, true, false, cond, get_or, List, [], ◌∷◌, ◌++◌, length, take, drop, map, replicate, Option, Some, None, refl, sym, ap, ◌∙◌, subst, append_assoc, arith}
use Rattle.std.specs.List.{AllByRecursion, prefix_len}
use Rattle.std.specs.List.Sorted.{IsNonDecreasingBy, IsPartitionedBy, IsPartitionPoint}
use Rattle.std.proofs.lemmas.List.Sums.{prefix_len_is}
use Rattle.std.proofs.lemmas.Bool.Decides.{nat_tests}
use Rattle.std.proofs.lemmas.List.{take-append-drop, drop-drop, drop-take, take_at, drop_at, length-take-le, length-append, length-replicate, replicate-append-replicate}
use Rattle.tks_lines.specs.declared.range.Range.{Range}
use Rattle.tks_lines.specs.Ranges.{flags_at, is_behind, AreRanges, ending_before, beginning_up_to, moved, MayMove}

abbrev offs : ℕ → List Bool
offs n = replicate n false

abbrev ons : ℕ → List Bool
ons n = replicate n true

abbrev All : (Range → Type 0) → List Range → Type 0
All P ranges = AllByRecursion P ranges

-- ranges from a place on, which all end below another; none is empty, and none touches another
abbrev pub Apart : ℕ → ℕ → List Range → Type 0
Apart low limit [] = low ≤ limit
Apart low limit (r ∷ ranges) = (low ≤ r.first) × (r.first < r.last) × (r.last < limit) × Apart (r.last + 1) limit ranges

-- ---- they are ranges

abbrev next : Option Range → ℕ
next None = 0
next (Some r) = r.last + 1

next_from : (before : Option Range) (first : ℕ) → is_behind before first ≡ true → next before ≤ first
next_from None first e = omega arith
next_from (Some r) first e = grind (arith, nat_tests)

behind_from : (before : Option Range) (first : ℕ) → next before ≤ first → is_behind before first ≡ true
behind_from None first h = refl
behind_from (Some r) first h = grind (arith, nat_tests)

apart_from : (len : ℕ) (before : Option Range) (ranges : List Range) → next before ≤ len + 1 → AreRanges len before ranges → Apart (next before) (len + 1) ranges
apart_from len before [] e h = e
apart_from len before (r ∷ ranges) e h = (next_from before r.first h.0, h.1, omega (arith, h.2), apart_from len (Some r) ranges (omega (arith, h.2)) h.3)

pub apart : (len : ℕ) (ranges : List Range) → AreRanges len None ranges → Apart 0 (len + 1) ranges
apart len ranges h = apart_from len None ranges (omega arith) h

ranges_from : (len low : ℕ) (before : Option Range) (ranges : List Range) → next before ≤ low → Apart low (len + 1) ranges → AreRanges len before ranges
ranges_from len low before [] e h = tt
ranges_from len low before (r ∷ ranges) e h = (behind_from before r.first (omega (arith, h.0)), h.1, omega (arith, h.2), ranges_from len (r.last + 1) (Some r) ranges (omega arith) h.3)

pub are_ranges : (len : ℕ) (ranges : List Range) → Apart 0 (len + 1) ranges → AreRanges len None ranges
are_ranges len ranges h = ranges_from len 0 None ranges (omega arith) h

-- ---- limits

pub lower : (low other limit : ℕ) (ranges : List Range) → other ≤ low → Apart low limit ranges → Apart other limit ranges
lower low other limit [] e h = omega (arith, h)
lower low other limit (r ∷ ranges) e h = (omega (arith, h.0), h.1, h.2, h.3)

pub within : (low limit : ℕ) (ranges : List Range) → Apart low limit ranges → low ≤ limit
within low limit [] h = h
within low limit (r ∷ ranges) h = omega (arith, h.0, h.1, h.2)

pub rest_lower : (low limit : ℕ) (r : Range) (ranges : List Range) → Apart low limit (r ∷ ranges) → Apart r.last limit ranges
rest_lower low limit r ranges h = lower (r.last + 1) r.last limit ranges (omega arith) h.3

pub joined : (low middle limit : ℕ) (xs ys : List Range) → Apart low middle xs → Apart middle limit ys → Apart low limit (xs ++ ys)
joined low middle limit [] ys h k = lower middle low limit ys h k
joined low middle limit (r ∷ xs) ys h k =
    let inside = within middle limit ys k in
    (h.0, h.1, omega (arith, h.2, inside), joined (r.last + 1) middle limit xs ys h.3 k)

-- there are fewer of them than characters
few_from : (low limit : ℕ) (ranges : List Range) → Apart low limit ranges → low + (length ranges + length ranges) ≤ limit
few_from low limit [] h = omega (arith, h)
few_from low limit (r ∷ ranges) h = omega (arith, h.0, h.1, few_from (r.last + 1) limit ranges h.3)

pub few : (len limit : ℕ) (ranges : List Range) → AreRanges len None ranges → len < limit → 1 < limit → length ranges < limit
few len limit ranges h e f = omega (arith, few_from 0 (len + 1) ranges (apart len ranges h))

-- ---- flags

from_further : (q x len limit : ℕ) (ranges : List Range) → q ≤ x → x ≤ len → Apart x limit ranges → flags_at q len ranges ≡ offs (x - q) ++ flags_at x len ranges
from_further q x len limit [] e l h =
    let sum : len - q ≡ (x - q) + (len - x) = omega arith in
    ap offs sum ∙ sym (replicate-append-replicate (x - q) (len - x) false)
from_further q x len limit (r ∷ ranges) e l h =
    let sum : r.first - q ≡ (x - q) + (r.first - x) = omega (arith, h.0) in
    let rest : List Bool = ons (r.last - r.first) ++ flags_at r.last len ranges in
    ap (λ n. offs n ++ rest) sum
    ∙ ap (λ fs. fs ++ rest) (sym (replicate-append-replicate (x - q) (r.first - x) false))
    ∙ append_assoc (offs (x - q)) (offs (r.first - x)) rest

pub wider : (low limit other : ℕ) (ranges : List Range) → limit ≤ other → Apart low limit ranges → Apart low other ranges
wider low limit other [] e h = omega (arith, h)
wider low limit other (r ∷ ranges) e h = (h.0, h.1, omega (arith, h.2), wider (r.last + 1) limit other ranges e h.3)

pub joined_flags : (q x len limit : ℕ) (xs ys : List Range) → q ≤ x → x ≤ len → Apart q (x + 1) xs → Apart x limit ys → flags_at q len (xs ++ ys) ≡ flags_at q x xs ++ flags_at x len ys
joined_flags q x len limit [] ys e l h k = from_further q x len limit ys e l k
joined_flags q x len limit (r ∷ xs) ys e l h k =
    let front = offs (r.first - q) in
    let middle = ons (r.last - r.first) in
    ap (λ fs. front ++ (middle ++ fs)) (joined_flags r.last x len limit xs ys (omega (arith, h.2)) l (rest_lower q (x + 1) r xs h) k)
    ∙ ap (λ fs. front ++ fs) (sym (append_assoc middle (flags_at r.last x xs) (flags_at x len ys)))
    ∙ sym (append_assoc front (middle ++ flags_at r.last x xs) (flags_at x len ys))

pub flags_count : (q x : ℕ) (ranges : List Range) → q ≤ x → Apart q (x + 1) ranges → length (flags_at q x ranges) ≡ x - q
flags_count q x [] e h = length-replicate (x - q) false
flags_count q x (r ∷ ranges) e h =
    let rest = flags_count r.last x ranges (omega (arith, h.2)) (rest_lower q (x + 1) r ranges h) in
    omega (arith, length-append (offs (r.first - q)) (ons (r.last - r.first) ++ flags_at r.last x ranges), length-append (ons (r.last - r.first)) (flags_at r.last x ranges), length-replicate (r.first - q) false, length-replicate (r.last - r.first) true, rest, h.0, h.1, h.2)

-- ---- moved

pub moved_apart : (x y low limit : ℕ) (ranges : List Range) → x ≤ low → Apart low limit ranges → Apart (low - x + y) (limit - x + y) (map (moved x y) ranges)
moved_apart x y low limit [] e h = omega (arith, h)
moved_apart x y low limit (r ∷ ranges) e h =
    let same : (r.last + 1) - x + y ≡ (r.last - x + y) + 1 = omega (arith, h.0, h.1) in
    let inside = within (r.last + 1) limit ranges h.3 in
    (omega (arith, h.0), omega (arith, h.0, h.1), omega (arith, h.0, h.1, h.2), subst (λ n. Apart n (limit - x + y) (map (moved x y) ranges)) same (moved_apart x y (r.last + 1) limit ranges (omega (arith, h.0, h.1)) h.3))

pub moved_flags : (x y q len limit : ℕ) (ranges : List Range) → x ≤ q → x ≤ len → Apart q limit ranges → flags_at (q - x + y) (len - x + y) (map (moved x y) ranges) ≡ flags_at q len ranges
moved_flags x y q len limit [] e l h =
    let same : (len - x + y) - (q - x + y) ≡ len - q = omega arith in
    ap offs same
moved_flags x y q len limit (r ∷ ranges) e l h =
    let first : (r.first - x + y) - (q - x + y) ≡ r.first - q = omega (arith, h.0) in
    let second : (r.last - x + y) - (r.first - x + y) ≡ r.last - r.first = omega (arith, h.0, h.1) in
    let further : List Bool = flags_at (r.last - x + y) (len - x + y) (map (moved x y) ranges) in
    ap (λ n. offs n ++ (ons ((r.last - x + y) - (r.first - x + y)) ++ further)) first
    ∙ ap (λ n. offs (r.first - q) ++ (ons n ++ further)) second
    ∙ ap (λ fs. offs (r.first - q) ++ (ons (r.last - r.first) ++ fs)) (moved_flags x y r.last len limit ranges (omega (arith, h.0, h.1)) l (rest_lower q limit r ranges h))

pub may_move : (x y low limit : ℕ) (ranges : List Range) → x ≤ low → limit + y < 2 ^ 64 → Apart low limit ranges → AllByRecursion (MayMove x y) ranges
may_move x y low limit [] e l h = tt
may_move x y low limit (r ∷ ranges) e l h =
    ((omega (arith, h.0), omega (arith, h.0, h.1), omega (arith, h.1, h.2), omega (arith, h.2)), may_move x y (r.last + 1) limit ranges (omega (arith, h.0, h.1)) l h.3)

-- ---- where they begin and end

begins_at : (low limit : ℕ) (ranges : List Range) (j : ℕ) (d : Range) → Apart low limit ranges → j < length ranges → low ≤ (get_or ranges j d).first
begins_at low limit [] j d h l = absurd (omega arith)
begins_at low limit (r ∷ ranges) zero d h l = h.0
begins_at low limit (r ∷ ranges) (suc j) d h l = omega (arith, begins_at (r.last + 1) limit ranges j d h.3 (omega arith), h.0, h.1)

pub whole_at : (low limit : ℕ) (ranges : List Range) (j : ℕ) (d : Range) → Apart low limit ranges → j < length ranges → (get_or ranges j d).first < (get_or ranges j d).last
whole_at low limit [] j d h l = absurd (omega arith)
whole_at low limit (r ∷ ranges) zero d h l = h.1
whole_at low limit (r ∷ ranges) (suc j) d h l = whole_at (r.last + 1) limit ranges j d h.3 (omega arith)

begin_later : (low limit : ℕ) (ranges : List Range) → Apart low limit ranges → IsNonDecreasingBy (λ r. r.first) ranges
begin_later low limit [] h i j d le l = absurd (omega arith)
begin_later low limit (r ∷ ranges) h zero zero d le l = omega arith
begin_later low limit (r ∷ ranges) h zero (suc j) d le l = omega (arith, begins_at (r.last + 1) limit ranges j d h.3 (omega arith), h.1)
begin_later low limit (r ∷ ranges) h (suc i) zero d le l = absurd (omega arith)
begin_later low limit (r ∷ ranges) h (suc i) (suc j) d le l = begin_later (r.last + 1) limit ranges h.3 i j d (omega arith) (omega arith)

end_later : (low limit : ℕ) (ranges : List Range) → Apart low limit ranges → IsNonDecreasingBy (λ r. r.last) ranges
end_later low limit [] h i j d le l = absurd (omega arith)
end_later low limit (r ∷ ranges) h zero zero d le l = omega arith
end_later low limit (r ∷ ranges) h zero (suc j) d le l = omega (arith, begins_at (r.last + 1) limit ranges j d h.3 (omega arith), whole_at (r.last + 1) limit ranges j d h.3 (omega arith))
end_later low limit (r ∷ ranges) h (suc i) zero d le l = absurd (omega arith)
end_later low limit (r ∷ ranges) h (suc i) (suc j) d le l = end_later (r.last + 1) limit ranges h.3 i j d (omega arith) (omega arith)

pub begins_rise : (len : ℕ) (ranges : List Range) → AreRanges len None ranges → IsNonDecreasingBy (λ r. r.first) ranges
begins_rise len ranges h = begin_later 0 (len + 1) ranges (apart len ranges h)

pub ends_rise : (len : ℕ) (ranges : List Range) → AreRanges len None ranges → IsNonDecreasingBy (λ r. r.last) ranges
ends_rise len ranges h = end_later 0 (len + 1) ranges (apart len ranges h)

-- ---- those found in a list

all_take : (P : Range → Type 0) (n : ℕ) (ranges : List Range) → All P ranges → All P (take n ranges)
all_take P zero ranges a = tt
all_take P (suc n) [] a = tt
all_take P (suc n) (r ∷ ranges) a = (a.0, all_take P n ranges a.1)

all_drop : (P : Range → Type 0) (n : ℕ) (ranges : List Range) → All P ranges → All P (drop n ranges)
all_drop P zero ranges a = a
all_drop P (suc n) [] a = tt
all_drop P (suc n) (r ∷ ranges) a = all_drop P n ranges a.1

all_such : (P Q : Range → Type 0) → ((r : Range) → P r → Q r) → (ranges : List Range) → All P ranges → All Q ranges
all_such P Q f [] a = tt
all_such P Q f (r ∷ ranges) a = (f r a.0, all_such P Q f ranges a.1)

-- what passes stands in front
passing : (p : Range → Bool) (ranges : List Range) → All (λ r. p r ≡ true) (take (prefix_len p ranges) ranges)
passing p [] = tt
passing p (r ∷ ranges) = by (p r) refl (passing p ranges)
  where
    by : (b : Bool) → p r ≡ b → All (λ r. p r ≡ true) (take (prefix_len p ranges) ranges) → All (λ r. p r ≡ true) (take (cond b (1 + prefix_len p ranges) 0) (r ∷ ranges))
    by true e rest =
        let one : suc (prefix_len p ranges) ≡ 1 + prefix_len p ranges = omega arith in
        subst (λ n. All (λ r. p r ≡ true) (take n (r ∷ ranges))) one (e, rest)
    by false e rest = tt

-- what doesn't pass stands behind it, where ranges that don't stand behind others that don't
ending_later : (place low limit : ℕ) (ranges : List Range) → place ≤ low → Apart low limit ranges → All (λ r. place ≤ r.last) ranges
ending_later place low limit [] e h = tt
ending_later place low limit (r ∷ ranges) e h = (omega (arith, h.0, h.1), ending_later place (r.last + 1) limit ranges (omega (arith, h.0, h.1)) h.3)

beginning_later : (place low limit : ℕ) (ranges : List Range) → place < low → Apart low limit ranges → All (λ r. place < r.first) ranges
beginning_later place low limit [] e h = tt
beginning_later place low limit (r ∷ ranges) e h = (omega (arith, h.0), beginning_later place (r.last + 1) limit ranges (omega (arith, h.0, h.1)) h.3)

pub not_before : (place low limit : ℕ) (ranges : List Range) → Apart low limit ranges → All (λ r. place ≤ r.last) (drop (ending_before place ranges) ranges)
not_before place low limit [] h = tt
not_before place low limit (r ∷ ranges) h = by (nat_lt r.last place) refl (not_before place (r.last + 1) limit ranges h.3)
  where
    by : (b : Bool) → nat_lt r.last place ≡ b → All (λ r. place ≤ r.last) (drop (ending_before place ranges) ranges) → All (λ r. place ≤ r.last) (drop (cond b (1 + ending_before place ranges) 0) (r ∷ ranges))
    by true e rest =
        let one : suc (ending_before place ranges) ≡ 1 + ending_before place ranges = omega arith in
        subst (λ n. All (λ r. place ≤ r.last) (drop n (r ∷ ranges))) one rest
    by false e rest =
        let late : place ≤ r.last = grind (arith, nat_tests) in
        (late, ending_later place (r.last + 1) limit ranges (omega arith) h.3)

pub not_begun : (place low limit : ℕ) (ranges : List Range) → Apart low limit ranges → All (λ r. place < r.first) (drop (beginning_up_to place ranges) ranges)
not_begun place low limit [] h = tt
not_begun place low limit (r ∷ ranges) h = by (nat_le r.first place) refl (not_begun place (r.last + 1) limit ranges h.3)
  where
    by : (b : Bool) → nat_le r.first place ≡ b → All (λ r. place < r.first) (drop (beginning_up_to place ranges) ranges) → All (λ r. place < r.first) (drop (cond b (1 + beginning_up_to place ranges) 0) (r ∷ ranges))
    by true e rest =
        let one : suc (beginning_up_to place ranges) ≡ 1 + beginning_up_to place ranges = omega arith in
        subst (λ n. All (λ r. place < r.first) (drop n (r ∷ ranges))) one rest
    by false e rest =
        let late : place < r.first = grind (arith, nat_tests) in
        (late, beginning_later place (r.last + 1) limit ranges (omega (arith, h.1)) h.3)

pub ended : (place : ℕ) (ranges : List Range) → All (λ r. r.last < place) (take (ending_before place ranges) ranges)
ended place ranges = all_such (λ r. nat_lt r.last place ≡ true) (λ r. r.last < place) (λ r e. grind (arith, nat_tests)) (take (ending_before place ranges) ranges) (passing (λ r. nat_lt r.last place) ranges)

pub begun : (place : ℕ) (ranges : List Range) → All (λ r. r.first ≤ place) (take (beginning_up_to place ranges) ranges)
begun place ranges = all_such (λ r. nat_le r.first place ≡ true) (λ r. r.first ≤ place) (λ r e. grind (arith, nat_tests)) (take (beginning_up_to place ranges) ranges) (passing (λ r. nat_le r.first place) ranges)

-- what ends before a place begins up to one behind it
pub in_order : (first last low limit : ℕ) (ranges : List Range) → first ≤ last → Apart low limit ranges → ending_before first ranges ≤ beginning_up_to last ranges
in_order first last low limit [] e h = omega arith
in_order first last low limit (r ∷ ranges) e h = by (nat_lt r.last first) (nat_le r.first last) refl refl (in_order first last (r.last + 1) limit ranges e h.3)
  where
    by : (b c : Bool) → nat_lt r.last first ≡ b → nat_le r.first last ≡ c → ending_before first ranges ≤ beginning_up_to last ranges
        → cond b (1 + ending_before first ranges) 0 ≤ cond c (1 + beginning_up_to last ranges) 0
    by true true f g i = omega arith
    by true false f g i =
        let late : r.last < first = grind (arith, nat_tests) in
        let early : last < r.first = grind (arith, nat_tests) in
        absurd (omega (arith, h.1))
    by false c f g i = omega arith

-- those between two indices, and all three parts
pub middle_both : (first last low limit : ℕ) (ranges : List Range) → first ≤ last → Apart low limit ranges
    → All (λ r. first ≤ r.last) (take (beginning_up_to last ranges - ending_before first ranges) (drop (ending_before first ranges) ranges))
    × All (λ r. r.first ≤ last) (take (beginning_up_to last ranges - ending_before first ranges) (drop (ending_before first ranges) ranges))
middle_both first last low limit ranges e h =
    let i = ending_before first ranges in
    let j = beginning_up_to last ranges in
    let order = in_order first last low limit ranges e h in
    let sum : i + (j - i) ≡ j = omega arith in
    let same : drop i (take j ranges) ≡ take (j - i) (drop i ranges) = sym (ap (λ n. drop i (take n ranges)) sum) ∙ drop-take i (j - i) ranges in (
      all_take (λ r. first ≤ r.last) (j - i) (drop i ranges) (not_before first low limit ranges h),
      subst (All (λ r. r.first ≤ last)) same (all_drop (λ r. r.first ≤ last) i (take j ranges) (begun last ranges)),
    )

pub three_parts : (i j : ℕ) (ranges : List Range) → i ≤ j → ranges ≡ take i ranges ++ (take (j - i) (drop i ranges) ++ drop j ranges)
three_parts i j ranges e =
    let sum : i + (j - i) ≡ j = omega arith in
    sym (take-append-drop i ranges)
    ∙ ap (λ rs. take i ranges ++ rs) (sym (take-append-drop (j - i) (drop i ranges)) ∙ ap (λ rs. take (j - i) (drop i ranges) ++ rs) (drop-drop (j - i) i ranges ∙ ap (λ n. drop n ranges) sum))

-- ---- what a search finds

pub ends_parted : (place : ℕ) (ranges : List Range) → IsNonDecreasingBy (λ r. r.last) ranges → IsPartitionedBy (λ r. nat_lt r.last place) ranges
ends_parted place ranges up i j d le lt e = let a = up i j d le lt in grind (arith, nat_tests)

pub begins_parted : (place : ℕ) (ranges : List Range) → IsNonDecreasingBy (λ r. r.first) ranges → IsPartitionedBy (λ r. nat_le r.first place) ranges
begins_parted place ranges up i j d le lt e = let a = up i j d le lt in grind (arith, nat_tests)

abbrev pub no_range : Range
no_range = record { first = 0; last = 0 }

pub point_of : (p : Range → Bool) (ranges : List Range) (n : ℕ) → n ≤ length ranges → IsPartitionPoint (λ r. p r ≡ true) (λ r. p r ≡ false) ranges n → prefix_len p ranges ≡ n
point_of p ranges n inside point = prefix_len_is p ranges n no_range inside (λ k h. point.0 k no_range (omega arith) h) (λ h. point.1 n no_range (omega arith) h)

-- ---- changed where they stand

stays : (x : ℕ) (r : Range) → x ≤ r.first → x ≤ r.last → r ≡ moved x x r
stays x r e f =
    let first : r.first ≡ r.first - x + x = omega arith in
    let last : r.last ≡ r.last - x + x = omega arith in
    ap (λ n. record { first = n; last = r.last }) first ∙ ap (λ n. record { first = r.first - x + x; last = n }) last

pub all_stay : (x y : ℕ) (ranges : List Range) → x ≡ y → AllByRecursion (MayMove x y) ranges → ranges ≡ map (moved x y) ranges
all_stay x y ranges e a = subst (λ n. ranges ≡ map (moved x n) ranges) e (still ranges (all_such (MayMove x y) (λ r. (x ≤ r.first) × (x ≤ r.last)) (λ r m. (m.0, m.1)) ranges a))
  where
    still : (ranges : List Range) → All (λ r. (x ≤ r.first) × (x ≤ r.last)) ranges → ranges ≡ map (moved x x) ranges
    still [] a = refl
    still (r ∷ ranges) a = ap (λ s. s ∷ ranges) (stays x r a.0.0 a.0.1) ∙ ap (λ rs. moved x x r ∷ rs) (still ranges a.1)

-- what is put over some, and those behind it that are taken out
pub put_is : (from to : ℕ) (ranges more so_far : List Range) → from + length more ≤ to → to ≤ length ranges → so_far ≡ take from ranges ++ (more ++ drop (from + length more) ranges)
    → take (from + length more) so_far ++ drop to so_far ≡ take from ranges ++ (more ++ drop to ranges)
put_is from to ranges more so_far e l m =
    let long : length (take from ranges ++ more) ≡ from + length more = omega (arith, length-append (take from ranges) more, length-take-le from ranges (omega arith)) in
    let grouped : so_far ≡ (take from ranges ++ more) ++ drop (from + length more) ranges = m ∙ sym (append_assoc (take from ranges) more (drop (from + length more) ranges)) in
    let sum : (from + length more) + (to - (from + length more)) ≡ to = omega arith in
    let front : take (from + length more) so_far ≡ take from ranges ++ more = ap (take (from + length more)) grouped ∙ take_at (take from ranges ++ more) (drop (from + length more) ranges) (from + length more) long in
    let back : drop (from + length more) so_far ≡ drop (from + length more) ranges = ap (drop (from + length more)) grouped ∙ drop_at (take from ranges ++ more) (drop (from + length more) ranges) (from + length more) long in
    let further : drop to so_far ≡ drop to ranges =
    sym (drop-drop (to - (from + length more)) (from + length more) so_far ∙ ap (λ n. drop n so_far) sum)
    ∙ ap (drop (to - (from + length more))) back
    ∙ drop-drop (to - (from + length more)) (from + length more) ranges ∙ ap (λ n. drop n ranges) sum in
    ap (λ rs. rs ++ drop to so_far) front ∙ ap (λ rs. (take from ranges ++ more) ++ rs) further ∙ append_assoc (take from ranges) more (drop to ranges)

-- what is put, and those behind it
pub front_back : (n : ℕ) (ranges more so_far rest : List Range) → so_far ≡ ranges ++ (more ++ rest) → n ≡ length ranges + length more → (take n so_far ≡ ranges ++ more) × (drop n so_far ≡ rest)
front_back n ranges more so_far rest m e =
    let long : length (ranges ++ more) ≡ n = omega (arith, length-append ranges more) in
    let grouped : so_far ≡ (ranges ++ more) ++ rest = m ∙ sym (append_assoc ranges more rest) in
    (ap (take n) grouped ∙ take_at (ranges ++ more) rest n long, ap (drop n) grouped ∙ drop_at (ranges ++ more) rest n long)
