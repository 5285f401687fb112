-- Lines are found by where they end, and where those of a part of a text end is where those of the text do.
use Rattle.std.proofs.Common.{◌≡◌, ℕ, zero, suc, ◌+◌, ◌-◌, ◌<◌, ◌≤◌, nat_lt, not, Bool, true, false, if◌then◌else◌, List, [], ◌∷◌, ◌++◌, length, get_or, take, drop, map, Option, Some, None, refl, sym, ap, ◌∙◌, append_assoc, arith}
use Rattle.std.specs.Prelude.{slice_get, option_map}
use Rattle.std.specs.List.{prefix_len, suffix_len, count_by, AllByRecursion}
use Rattle.std.specs.List.Sorted.{IsNonDecreasingBy, IsPartitionedBy, IsPartitionPoint}
use Rattle.std.proofs.lemmas.Option.{slice_get-map}
use Rattle.std.proofs.lemmas.Bool.Decides.{nat_tests}
use Rattle.std.proofs.lemmas.List.{length-drop, append-nil, reverse-append, take-append-le}
use Rattle.std.proofs.lemmas.List.Sums.{sum_by-cons, prefix_len_is}
use Rattle.tks_lines.specs.Places.{is_newline, is_inner, within_line, place_at, column_of, line_end}
use Rattle.tks_lines.specs.Breaks.{breaks_from, breaks_of, below, behind_break, break_or_end, line_begin, line_break}
use Rattle.tks_lines.specs.Stretch.{part}
use Rattle.tks_lines.proofs.Far.{this_line}

-- the places, where the first character is a newline or isn't
abbrev step : Bool → ℕ → List ℕ → List ℕ
step b p text = if b then p ∷ breaks_from (suc p) text else breaks_from (suc p) text

-- ---- they rise, and lie in the text

from_here : (low p : ℕ) (text : List ℕ) (k d : ℕ) → low ≤ p → k < length (breaks_from p text) → low ≤ get_or (breaks_from p text) k d
from_here low p [] k d h lt = absurd (omega arith)
from_here low p (c ∷ text) k d h lt = by (is_newline c) (λ i l. from_here low (suc p) text i d (omega arith) l) k lt
  where
    by : (b : Bool) → ((i : ℕ) → i < length (breaks_from (suc p) text) → low ≤ get_or (breaks_from (suc p) text) i d) → (i : ℕ) → i < length (step b p text) → low ≤ get_or (step b p text) i d
    by true rest zero lt = h
    by true rest (suc i) lt = rest i (omega arith)
    by false rest i lt = rest i lt

pub rise_from : (p : ℕ) (text : List ℕ) → IsNonDecreasingBy (λ b. b) (breaks_from p text)
rise_from p [] i j d le lt = absurd (omega arith)
rise_from p (c ∷ text) i j d le lt = by (is_newline c) (λ i j. rise_from (suc p) text i j d) i j le lt
  where
    by : (b : Bool) → ((i j : ℕ) → i ≤ j → j < length (breaks_from (suc p) text) → get_or (breaks_from (suc p) text) i d ≤ get_or (breaks_from (suc p) text) j d)
        → (i j : ℕ) → i ≤ j → j < length (step b p text) → get_or (step b p text) i d ≤ get_or (step b p text) j d
    by true rest zero zero le lt = omega arith
    by true rest zero (suc j) le lt = from_here p (suc p) text j d (omega arith) (omega arith)
    by true rest (suc i) zero le lt = absurd (omega arith)
    by true rest (suc i) (suc j) le lt = rest i j (omega arith) (omega arith)
    by false rest i j le lt = rest i j le lt

pub breaks_rise : (text : List ℕ) → IsNonDecreasingBy (λ b. b) (breaks_of text)
breaks_rise text = rise_from 0 text

pub within_from : (high p : ℕ) (text : List ℕ) → p + length text ≤ high → AllByRecursion (λ b. b < high) (breaks_from p text)
within_from high p [] h = tt
within_from high p (c ∷ text) h = by (is_newline c) (within_from high (suc p) text (omega arith))
  where
    by : (b : Bool) → AllByRecursion (λ b. b < high) (breaks_from (suc p) text) → AllByRecursion (λ b. b < high) (step b p text)
    by true rest = (omega arith, rest)
    by false rest = rest

got_within : (high : ℕ) (bs : List ℕ) (n b : ℕ) → AllByRecursion (λ b. b < high) bs → Some b ≡ slice_get bs n → b < high
got_within high [] zero b h e = absurd cc
got_within high [] (suc n) b h e = absurd cc
got_within high (x ∷ bs) zero b h e = let same : b ≡ x = cc in omega (arith, h.0)
got_within high (x ∷ bs) (suc n) b h e = got_within high bs n b h.1 e

pub break_within : (p : ℕ) (text : List ℕ) (n b : ℕ) → Some b ≡ slice_get (breaks_from p text) n → b < p + length text
break_within p text n b e = got_within (p + length text) (breaks_from p text) n b (within_from (p + length text) p text (omega arith)) e

-- one of them is the place of a character
pub break_inside : (text : List ℕ) (n b : ℕ) → Some b ≡ slice_get (breaks_of text) n → b < length text
break_inside text n b e = omega (arith, break_within 0 text n b e)

-- ---- how many newlines stand before a place

-- of rising places, those below another stand first
pub parted : (place : ℕ) (bs : List ℕ) → IsNonDecreasingBy (λ b. b) bs → IsPartitionedBy (λ b. nat_lt b place) bs
parted place bs up i j d le lt e = let a = up i j d le lt in grind (arith, nat_tests)

-- where they end is how many there are
pub below_point : (place : ℕ) (bs : List ℕ) (n : ℕ) → n ≤ length bs → IsPartitionPoint (λ b. nat_lt b place ≡ true) (λ b. nat_lt b place ≡ false) bs n → below place bs ≡ n
below_point place bs n within point = prefix_len_is (λ b. nat_lt b place) bs n 0 within (λ k h. point.0 k 0 (omega arith) h) (λ h. point.1 n 0 (omega arith) h)

none_below : (low p : ℕ) (text : List ℕ) → low ≤ p → below low (breaks_from p text) ≡ 0
none_below low p [] h = refl
none_below low p (c ∷ text) h = by (is_newline c) (none_below low (suc p) text (omega arith))
  where
    by : (b : Bool) → below low (breaks_from (suc p) text) ≡ 0 → below low (step b p text) ≡ 0
    by true rest = let far : nat_lt p low ≡ false = grind (arith, nat_tests) in ap (λ b. if b then 1 + below low (breaks_from (suc p) text) else 0) far
    by false rest = rest

-- a newline at the front is before a place behind it
one_below : (p q : ℕ) (bs : List ℕ) → p < q → below q (p ∷ bs) ≡ suc (below q bs)
one_below p q bs h =
    let near : nat_lt p q ≡ true = grind (arith, nat_tests) in
    let one : 1 + below q bs ≡ suc (below q bs) = omega arith in
    ap (λ b. if b then 1 + below q bs else 0) near ∙ one

count_from : (p k q : ℕ) (text : List ℕ) → q ≡ p + k → count_by is_newline (take k text) ≡ below q (breaks_from p text)
count_from p zero q text e = sym (none_below q p text (omega arith))
count_from p (suc k) q [] e = refl
count_from p (suc k) q (c ∷ text) e = sum_by-cons (λ x. if is_newline x then 1 else 0) c (take k text) ∙ by (is_newline c) (count_from (suc p) k q text (omega arith))
  where
    by : (b : Bool) → count_by is_newline (take k text) ≡ below q (breaks_from (suc p) text) → (if b then 1 else 0) + count_by is_newline (take k text) ≡ below q (step b p text)
    by true rest = let some = one_below p q (breaks_from (suc p) text) (omega arith) in omega arith
    by false rest = omega arith

pub count_before : (text : List ℕ) (place : ℕ) → count_by is_newline (take place text) ≡ below place (breaks_of text)
count_before text place = count_from 0 place place text (omega arith)

pub count_all_from : (p : ℕ) (text : List ℕ) → count_by is_newline text ≡ length (breaks_from p text)
count_all_from p [] = refl
count_all_from p (c ∷ text) = sum_by-cons (λ x. if is_newline x then 1 else 0) c text ∙ by (is_newline c) (count_all_from (suc p) text)
  where
    by : (b : Bool) → count_by is_newline text ≡ length (breaks_from (suc p) text) → (if b then 1 else 0) + count_by is_newline text ≡ length (step b p text)
    by true rest = omega arith
    by false rest = omega arith

-- ---- where a line begins and ends

-- the place of a column of a line, in a text that begins at a place
abbrev begin_from : ℕ → ℕ → List ℕ → ℕ → ℕ
begin_from p len bs zero = p
begin_from p len bs (suc n) = behind_break len (slice_get bs n)

abbrev found : ℕ → ℕ → List ℕ → ℕ → Option ℕ → ℕ
found p len bs n column = begin_from p len bs n + within_line column (line_break len bs n - begin_from p len bs n)

first_break : (p len : ℕ) (text : List ℕ) → len ≡ p + length text → line_break len (breaks_from p text) 0 ≡ p + prefix_len is_inner text
first_break p len [] e = omega arith
first_break p len (c ∷ text) e = by (is_newline c) (first_break (suc p) len text (omega arith))
  where
    by : (b : Bool) → line_break len (breaks_from (suc p) text) 0 ≡ suc p + prefix_len is_inner text → line_break len (step b p text) 0 ≡ p + (if not b then 1 + prefix_len is_inner text else 0)
    by true rest = omega arith
    by false rest = omega arith

no_columns : (column : Option ℕ) → within_line column 0 ≡ 0
no_columns None = refl
no_columns (Some n) = omega arith

past : (p len : ℕ) (column : Option ℕ) → len ≡ p + 0 → p + 1 ≡ (len + 1) + within_line column (len - (len + 1))
past p len column e =
    let none : len - (len + 1) ≡ 0 = omega arith in
    let same : within_line column (len - (len + 1)) ≡ 0 = ap (within_line column) none ∙ no_columns column in
    omega arith

found_from : (p len : ℕ) (text : List ℕ) (n : ℕ) (column : Option ℕ) → len ≡ p + length text → p + place_at text n column ≡ found p len (breaks_from p text) n column
found_from p len text zero column e =
    let first = first_break p len text e in
    let same : prefix_len is_inner text ≡ line_break len (breaks_from p text) 0 - p = omega arith in
    ap (λ n. p + n) (this_line text column ∙ ap (within_line column) same)
found_from p len [] (suc zero) column e = past p len column e
found_from p len [] (suc (suc n)) column e = past p len column e
found_from p len (c ∷ text) (suc n) column e = by (is_newline c) n (λ m. found_from (suc p) len text m column (omega arith))
  where
    by : (b : Bool) (n : ℕ) → ((m : ℕ) → suc p + place_at text m column ≡ found (suc p) len (breaks_from (suc p) text) m column)
        → p + suc (place_at text (if b then n else suc n) column) ≡ found p len (step b p text) (suc n) column
    by true zero rest =
        let next : p + suc (place_at text zero column) ≡ suc p + place_at text zero column = omega arith in
        let one : suc p ≡ p + 1 = omega arith in
        next ∙ rest zero ∙ ap (λ s. s + within_line column (line_break len (breaks_from (suc p) text) 0 - s)) one
    by true (suc n) rest =
        let next : p + suc (place_at text (suc n) column) ≡ suc p + place_at text (suc n) column = omega arith in
        next ∙ rest (suc n)
    by false n rest =
        let next : p + suc (place_at text (suc n) column) ≡ suc p + place_at text (suc n) column = omega arith in
        next ∙ rest (suc n)

pub found_line : (text : List ℕ) (lines : ℕ) (column : Option ℕ)
    → place_at text lines column ≡ line_begin (length text) (breaks_of text) lines + within_line column (line_break (length text) (breaks_of text) lines - line_begin (length text) (breaks_of text) lines)
found_line text lines column = zero_more ∙ found_from 0 (length text) text lines column (omega arith) ∙ same lines
  where
    zero_more : place_at text lines column ≡ 0 + place_at text lines column
    zero_more = omega arith

    same : (n : ℕ) → found 0 (length text) (breaks_of text) n column ≡ line_begin (length text) (breaks_of text) n + within_line column (line_break (length text) (breaks_of text) n - line_begin (length text) (breaks_of text) n)
    same zero = refl
    same (suc n) = refl

-- ---- parts of a text

pub breaks_append : (p : ℕ) (xs ys : List ℕ) → breaks_from p (xs ++ ys) ≡ breaks_from p xs ++ breaks_from (p + length xs) ys
breaks_append p [] ys = let same : p ≡ p + 0 = omega arith in ap (λ n. breaks_from n ys) same
breaks_append p (x ∷ xs) ys = by (is_newline x) (breaks_append (suc p) xs ys ∙ ap (λ n. breaks_from (suc p) xs ++ breaks_from n ys) same)
  where
    same : suc p + length xs ≡ p + suc (length xs)
    same = omega arith

    by : (b : Bool) → breaks_from (suc p) (xs ++ ys) ≡ breaks_from (suc p) xs ++ breaks_from (p + suc (length xs)) ys → step b p (xs ++ ys) ≡ step b p xs ++ breaks_from (p + suc (length xs)) ys
    by true rest = ap (λ bs. p ∷ bs) rest
    by false rest = rest

breaks_on : (p d q : ℕ) (text : List ℕ) → q ≡ p + d → breaks_from q text ≡ map (λ b. b + d) (breaks_from p text)
breaks_on p d q [] e = refl
breaks_on p d q (c ∷ text) e = by (is_newline c) (breaks_on (suc p) d (suc q) text (omega arith))
  where
    by : (b : Bool) → breaks_from (suc q) text ≡ map (λ b. b + d) (breaks_from (suc p) text) → step b q text ≡ map (λ b. b + d) (step b p text)
    by true rest = ap (λ n. n ∷ breaks_from (suc q) text) e ∙ ap (λ bs. (p + d) ∷ bs) rest
    by false rest = rest

pub front_from : (p k q : ℕ) (text : List ℕ) → q ≡ p + k → breaks_from p (take k text) ≡ take (below q (breaks_from p text)) (breaks_from p text)
front_from p zero q text e = ap (λ n. take n (breaks_from p text)) (sym (none_below q p text (omega arith)))
front_from p (suc k) q [] e = refl
front_from p (suc k) q (c ∷ text) e = by (is_newline c) (front_from (suc p) k q text (omega arith))
  where
    by : (b : Bool) → breaks_from (suc p) (take k text) ≡ take (below q (breaks_from (suc p) text)) (breaks_from (suc p) text) → step b p (take k text) ≡ take (below q (step b p text)) (step b p text)
    by true rest = ap (λ bs. p ∷ bs) rest ∙ ap (λ n. take n (p ∷ breaks_from (suc p) text)) (sym (one_below p q (breaks_from (suc p) text) (omega arith)))
    by false rest = rest

pub back_from : (p k q : ℕ) (text : List ℕ) → q ≡ p + k → breaks_from q (drop k text) ≡ drop (below q (breaks_from p text)) (breaks_from p text)
back_from p zero q text e =
    let same : q ≡ p = omega arith in
    ap (λ n. breaks_from n text) same ∙ ap (λ n. drop n (breaks_from p text)) (sym (none_below q p text (omega arith)))
back_from p (suc k) q [] e = refl
back_from p (suc k) q (c ∷ text) e = by (is_newline c) (back_from (suc p) k q text (omega arith))
  where
    by : (b : Bool) → breaks_from q (drop k text) ≡ drop (below q (breaks_from (suc p) text)) (breaks_from (suc p) text) → breaks_from q (drop k text) ≡ drop (below q (step b p text)) (step b p text)
    by true rest = rest ∙ ap (λ n. drop n (p ∷ breaks_from (suc p) text)) (sym (one_below p q (breaks_from (suc p) text) (omega arith)))
    by false rest = rest

-- the places from one on
pub behind_place : (first : ℕ) (text : List ℕ) → drop (below first (breaks_of text)) (breaks_of text) ≡ breaks_from first (drop first text)
behind_place first text = sym (back_from 0 first first text (omega arith))

-- those up to another
pub up_to_place : (first last : ℕ) (text : List ℕ) → first ≤ last → take (below last (breaks_from first (drop first text))) (breaks_from first (drop first text)) ≡ breaks_from first (part first last text)
up_to_place first last text le = sym (front_from first (last - first) last (drop first text) (omega arith))

off_and_on : (from to : ℕ) (bs : List ℕ) → map (λ b. b - from + to) (map (λ b. b + from) bs) ≡ map (λ b. b + to) bs
off_and_on from to [] = refl
off_and_on from to (b ∷ bs) =
    let same : (b + from) - from + to ≡ b + to = omega arith in
    ap (λ n. n ∷ map (λ b. b - from + to) (map (λ b. b + from) bs)) same ∙ ap (λ bs. (b + to) ∷ bs) (off_and_on from to bs)

-- those of a text at one place are those of it at another, moved
pub moved_breaks : (from to : ℕ) (text : List ℕ) → map (λ b. b - from + to) (breaks_from from text) ≡ breaks_from to text
moved_breaks from to text =
    ap (map (λ b. b - from + to)) (breaks_on 0 from from text (omega arith)) ∙ off_and_on from to (breaks_from 0 text) ∙ sym (breaks_on 0 to to text (omega arith))

-- within numbers that can be told
pub moved_small : (high from to limit : ℕ) (bs : List ℕ) → high + to ≤ limit → AllByRecursion (λ b. b < high) bs → AllByRecursion (λ b. b - from + to < limit) bs
moved_small high from to limit [] e h = h
moved_small high from to limit (b ∷ bs) e h = (omega (arith, h.0), moved_small high from to limit bs e h.1)

pub small_moved : (from to limit : ℕ) (text : List ℕ) → from + length text + to ≤ limit → AllByRecursion (λ b. b - from + to < limit) (breaks_from from text)
small_moved from to limit text e = moved_small (from + length text) from to limit (breaks_from from text) e (within_from (from + length text) from text (omega arith))

-- one behind so many others
pub moved_break : (from to : ℕ) (text : List ℕ) (n b : ℕ) → Some b ≡ slice_get (breaks_from from text) n → Some (b - from + to) ≡ slice_get (breaks_from to text) n
moved_break from to text n b e =
    ap (option_map (λ b. b - from + to)) e ∙ sym (slice_get-map (λ b. b - from + to) (breaks_from from text) n) ∙ ap (λ bs. slice_get bs n) (moved_breaks from to text)

pub no_break : (from to : ℕ) (text : List ℕ) (n : ℕ) → None ≡ slice_get (breaks_from from text) n → None ≡ slice_get (breaks_from to text) n
no_break from to text n e =
    ap (option_map (λ b. b - from + to)) e ∙ sym (slice_get-map (λ b. b - from + to) (breaks_from from text) n) ∙ ap (λ bs. slice_get bs n) (moved_breaks from to text)

-- three texts, one behind the other
pub three_breaks : (xs ys zs : List ℕ) → (breaks_from 0 xs ++ breaks_from (length xs) ys) ++ breaks_from (length xs + length ys) zs ≡ breaks_of (xs ++ (ys ++ zs))
three_breaks xs ys zs =
    let at : 0 + length xs ≡ length xs = omega arith in
    append_assoc (breaks_from 0 xs) (breaks_from (length xs) ys) (breaks_from (length xs + length ys) zs)
    ∙ ap (λ bs. breaks_from 0 xs ++ bs) (sym (breaks_append (length xs) ys zs))
    ∙ ap (λ n. breaks_from 0 xs ++ breaks_from n (ys ++ zs)) (sym at)
    ∙ sym (breaks_append 0 xs (ys ++ zs))

-- ---- the line of a place

got_first : {X : Type 0} (n : ℕ) (xs : List X) → slice_get (drop n xs) 0 ≡ slice_get xs n
got_first zero xs = refl
got_first (suc n) [] = refl
got_first (suc n) (x ∷ xs) = got_first n xs

-- where it ends
pub line_ends : (text : List ℕ) (place : ℕ) → place ≤ length text → line_end text place ≡ line_break (length text) (breaks_of text) (below place (breaks_of text))
line_ends text place inside =
    let behind = drop place text in
    let long : length text ≡ place + length behind = omega (arith, length-drop place text) in
    sym (first_break place (length text) behind long)
    ∙ ap (λ bs. line_break (length text) bs 0) (back_from 0 place place text (omega arith))
    ∙ ap (break_or_end (length text)) (got_first (below place (breaks_of text)) (breaks_of text))

-- how many characters stand before the place so far on, where so many stand before the first
column_on : ℕ → List ℕ → ℕ → ℕ
column_on before text zero = before
column_on before [] (suc k) = before
column_on before (c ∷ text) (suc k) = column_on (if is_inner c then 1 + before else 0) text k

one_behind : (xs : List ℕ) (c : ℕ) → suffix_len is_inner (xs ++ c ∷ []) ≡ (if is_inner c then 1 + suffix_len is_inner xs else 0)
one_behind xs c = ap (prefix_len is_inner) (reverse-append xs (c ∷ []))

columns : (xs text : List ℕ) (k : ℕ) → column_on (suffix_len is_inner xs) text k ≡ suffix_len is_inner (xs ++ take k text)
unfolding column_on
columns xs text zero = ap (suffix_len is_inner) (sym (append-nil xs))
columns xs [] (suc k) = ap (suffix_len is_inner) (sym (append-nil xs))
columns xs (c ∷ text) (suc k) =
    ap (λ n. column_on n text k) (sym (one_behind xs c))
    ∙ columns (xs ++ c ∷ []) text k
    ∙ ap (suffix_len is_inner) (append_assoc xs (c ∷ []) (take k text))

-- where the line begins that goes on before the text
abbrev begun : ℕ → ℕ → List ℕ → ℕ → ℕ
begun start len bs zero = start
begun start len bs (suc n) = behind_break len (slice_get bs n)

column_from : (p start len k q : ℕ) (text : List ℕ) → start ≤ p → k ≤ length text → q ≡ p + k → column_on (p - start) text k ≡ q - begun start len (breaks_from p text) (below q (breaks_from p text))
unfolding column_on
column_from p start len zero q text s le e =
    let same : p - start ≡ q - start = omega arith in
    same ∙ ap (λ n. q - begun start len (breaks_from p text) n) (sym (none_below q p text (omega arith)))
column_from p start len (suc k) q [] s le e = absurd (omega arith)
column_from p start len (suc k) q (c ∷ text) s le e = by (is_newline c) (λ first h. column_from (suc p) first len k q text h (omega arith) (omega arith))
  where
    by : (b : Bool) → ((first : ℕ) → first ≤ suc p → column_on (suc p - first) text k ≡ q - begun first len (breaks_from (suc p) text) (below q (breaks_from (suc p) text)))
        → column_on (if not b then 1 + (p - start) else 0) text k ≡ q - begun start len (step b p text) (below q (step b p text))
    by true rest =
        let none : 0 ≡ suc p - suc p = omega arith in
        ap (λ n. column_on n text k) none ∙ rest (suc p) (omega arith) ∙ ap (λ n. q - n) (same (below q (breaks_from (suc p) text)))
        ∙ sym (ap (λ n. q - begun start len (p ∷ breaks_from (suc p) text) n) (one_below p q (breaks_from (suc p) text) (omega arith)))
      where
        same : (n : ℕ) → begun (suc p) len (breaks_from (suc p) text) n ≡ begun start len (p ∷ breaks_from (suc p) text) (suc n)
        same zero = omega arith
        same (suc n) = refl
    by false rest =
        let more : 1 + (p - start) ≡ suc p - start = omega arith in
        ap (λ n. column_on n text k) more ∙ rest start (omega arith)

-- where it begins, so how many characters stand before the place on it
pub column_is : (text : List ℕ) (place : ℕ) → place ≤ length text → column_of text place ≡ place - line_begin (length text) (breaks_of text) (below place (breaks_of text))
column_is text place inside =
    let none : 0 ≡ 0 - 0 = omega arith in
    ap (suffix_len is_inner) (take-append-le place text (10 ∷ []) inside)
    ∙ sym (columns [] text place)
    ∙ ap (λ n. column_on n text place) none
    ∙ column_from 0 0 (length text) place place text (omega arith) inside (omega arith)
    ∙ ap (λ n. place - n) (same (below place (breaks_of text)))
  where
    same : (n : ℕ) → begun 0 (length text) (breaks_of text) n ≡ line_begin (length text) (breaks_of text) n
    same zero = refl
    same (suc n) = refl
