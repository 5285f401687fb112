-- Parts of a text, and texts in pieces.
use Rattle.std.proofs.Common.{◌≡◌, ℕ, zero, suc, ◌+◌, ◌-◌, ◌<◌, ◌≤◌, min, max, if◌then◌else◌, ◌⊎◌, inl, inr, List, [], ◌∷◌, ◌++◌, length, take, drop, refl, sym, ap, ◌∙◌, append_assoc, arith}
use Rattle.std.proofs.lemmas.List.{length-take-le, length-drop, drop-drop, drop-take, take-take, take_all, drop_all, take_min, drop_min, take-append-le, drop-append-le, take-append-drop}
use Rattle.std.proofs.lemmas.List.Sums.{sum_by-append}
use Rattle.std.proofs.lemmas.Bool.{cases_lt}
use Rattle.std.specs.Prelude.{slice_get}
use Rattle.std.specs.List.{count_by}
use Rattle.tks_lines.specs.Places.{is_newline}
use Rattle.tks_lines.specs.Lines.{spliced, cut}
use Rattle.tks_lines.specs.Breaks.{breaks_from, breaks_of}
use Rattle.tks_lines.specs.Stretch.{part}
use Rattle.tks_lines.proofs.Breaking.{count_all_from, breaks_append}

-- ---- parts of a text

pub part_long : {X : Type 0} (first last : ℕ) (xs : List X) → first ≤ last → last ≤ length xs → length (part first last xs) ≡ last - first
part_long first last xs le within = length-take-le (last - first) (drop first xs) (omega (arith, length-drop first xs))

-- the front of a part, and what stands behind that
pub part_front : {X : Type 0} (first last count : ℕ) (xs : List X) → first + count ≤ last → part first (first + count) xs ≡ take count (part first last xs)
part_front first last count xs le =
    let same : first + count - first ≡ count = omega arith in
    ap (λ n. take n (drop first xs)) same ∙ sym (take-take count (last - first) (drop first xs) (omega arith))

pub part_behind : {X : Type 0} (first last count : ℕ) (xs : List X) → first + count ≤ last → part (first + count) last xs ≡ drop count (part first last xs)
part_behind first last count xs le =
    let rest : last - (first + count) ≡ last - first - count = omega arith in
    let whole : count + (last - first - count) ≡ last - first = omega arith in
    ap (λ n. take n (drop (first + count) xs)) rest
    ∙ ap (take (last - first - count)) (sym (drop-drop count first xs))
    ∙ sym (drop-take count (last - first - count) (drop first xs))
    ∙ ap (λ n. drop count (take n (drop first xs))) whole

-- its newlines before a place are as many as there are places of them
pub count_part : (first last place count : ℕ) (text : List ℕ) → first ≤ last → last ≤ length text → count ≡ min place (length (part first last text))
    → length (breaks_from first (part first (first + count) text)) ≡ count_by is_newline (take place (part first last text))
count_part first last place count text le within e =
    let long = part_long first last text le within in
    sym (count_all_from first (part first (first + count) text))
    ∙ ap (count_by is_newline) (part_front first last count text (omega (arith, long)) ∙ ap (λ n. take n (part first last text)) e ∙ take_min place (part first last text))

-- ---- parts of texts that stand one behind the other

pub take_both : {X : Type 0} (n : ℕ) (xs ys : List X) → take n (xs ++ ys) ≡ take n xs ++ take (n - length xs) ys
take_both zero [] ys = refl
take_both (suc n) [] ys = let same : suc n ≡ suc n - 0 = omega arith in ap (λ k. take k ys) same
take_both zero (x ∷ xs) ys = let none : 0 - suc (length xs) ≡ 0 = omega arith in sym (ap (λ k. take k ys) none)
take_both (suc n) (x ∷ xs) ys = let same : suc n - suc (length xs) ≡ n - length xs = omega arith in ap (λ zs. x ∷ zs) (take_both n xs ys) ∙ ap (λ k. x ∷ (take n xs ++ take k ys)) (sym same)

pub drop_both : {X : Type 0} (n : ℕ) (xs ys : List X) → drop n (xs ++ ys) ≡ drop n xs ++ drop (n - length xs) ys
drop_both zero [] ys = refl
drop_both (suc n) [] ys = let same : suc n ≡ suc n - 0 = omega arith in ap (λ k. drop k ys) same
drop_both zero (x ∷ xs) ys = let none : 0 - suc (length xs) ≡ 0 = omega arith in sym (ap (λ k. (x ∷ xs) ++ drop k ys) none)
drop_both (suc n) (x ∷ xs) ys = let same : suc n - suc (length xs) ≡ n - length xs = omega arith in drop_both n xs ys ∙ ap (λ k. drop n xs ++ drop k ys) (sym same)

-- ---- a text in three pieces

pub moved_back : {X : Type 0} (place : ℕ) (front typed behind : List X) → take place front ++ ([] ++ (drop place front ++ (typed ++ behind))) ≡ front ++ (typed ++ behind)
moved_back place front typed behind = sym (append_assoc (take place front) (drop place front) (typed ++ behind)) ∙ ap (λ xs. xs ++ (typed ++ behind)) (take-append-drop place front)

pub moved_on : {X : Type 0} (count : ℕ) (front typed behind : List X) → (front ++ (typed ++ take count behind)) ++ ([] ++ drop count behind) ≡ front ++ (typed ++ behind)
moved_on count front typed behind =
    append_assoc front (typed ++ take count behind) (drop count behind)
    ∙ ap (λ xs. front ++ xs) (append_assoc typed (take count behind) (drop count behind) ∙ ap (λ xs. typed ++ xs) (take-append-drop count behind))

-- what stands before a place among those typed, and behind it
gap_front : {X : Type 0} (place : ℕ) (front typed behind : List X) → length front ≤ place → place ≤ length front + length typed → take place (front ++ (typed ++ behind)) ≡ front ++ take (place - length front) typed
gap_front place front typed behind low high =
    take_both place front (typed ++ behind) ∙ ap (λ xs. xs ++ take (place - length front) (typed ++ behind)) (take_all place front low) ∙ ap (λ xs. front ++ xs) (take-append-le (place - length front) typed behind (omega arith))

gap_behind : {X : Type 0} (place : ℕ) (front typed behind : List X) → length front ≤ place → place ≤ length front + length typed → drop place (front ++ (typed ++ behind)) ≡ drop (place - length front) typed ++ behind
gap_behind place front typed behind low high =
    drop_both place front (typed ++ behind) ∙ ap (λ xs. xs ++ drop (place - length front) (typed ++ behind)) (drop_all place front low) ∙ drop-append-le (place - length front) typed behind (omega arith)

gap_spliced : {X : Type 0} (place : ℕ) (front typed behind more : List X) → length front ≤ place → place ≤ length front + length typed
    → spliced place more (front ++ (typed ++ behind)) ≡ (front ++ take (place - length front) typed) ++ (more ++ (drop (place - length front) typed ++ behind))
gap_spliced place front typed behind more low high =
    ap (λ xs. xs ++ (more ++ drop place (front ++ (typed ++ behind)))) (gap_front place front typed behind low high)
    ∙ ap (λ xs. (front ++ take (place - length front) typed) ++ (more ++ xs)) (gap_behind place front typed behind low high)

-- more among those typed
pub typed_more : {X : Type 0} (place : ℕ) (front typed behind more : List X) → length front ≤ place → place ≤ length front + length typed
    → front ++ ((take (place - length front) typed ++ (more ++ drop (place - length front) typed)) ++ behind) ≡ spliced place more (front ++ (typed ++ behind))
typed_more place front typed behind more low high =
    let before = take (place - length front) typed in
    let after = drop (place - length front) typed in
    ap (λ xs. front ++ xs) (append_assoc before (more ++ after) behind ∙ ap (λ xs. before ++ xs) (append_assoc more after behind))
    ∙ sym (append_assoc front before (more ++ (after ++ behind)))
    ∙ sym (gap_spliced place front typed behind more low high)

-- more at the end of those in front
pub front_more : {X : Type 0} (place : ℕ) (front typed behind more : List X) → length front ≤ place → place ≤ length front + length typed
    → (front ++ (take (place - length front) typed ++ more)) ++ ([] ++ (drop (place - length front) typed ++ behind)) ≡ spliced place more (front ++ (typed ++ behind))
front_more place front typed behind more low high =
    let before = take (place - length front) typed in
    let after = drop (place - length front) typed in
    ap (λ xs. xs ++ (after ++ behind)) (sym (append_assoc front before more))
    ∙ append_assoc (front ++ before) more (after ++ behind)
    ∙ sym (gap_spliced place front typed behind more low high)

-- less, around those typed
pub less : {X : Type 0} (first last : ℕ) (front typed behind : List X) → first ≤ last → first ≤ length front + length typed → length front ≤ last
    → take (min first (length front)) front ++ ((take (first - length front) typed ++ drop (min (last - length front) (length typed)) typed) ++ drop (last - length front - length typed) behind) ≡ cut first last (front ++ (typed ++ behind))
less first last front typed behind le high low =
    let before = take (first - length front) typed in
    let after = drop (last - length front) typed in
    let rest = drop (last - length front - length typed) behind in
    let at : max first last ≡ last = omega arith in
    let start : take first (front ++ (typed ++ behind)) ≡ take first front ++ before = take_both first front (typed ++ behind) ∙ ap (λ xs. take first front ++ xs) (take-append-le (first - length front) typed behind (omega arith)) in
    let end : drop (max first last) (front ++ (typed ++ behind)) ≡ after ++ rest =
    ap (λ n. drop n (front ++ (typed ++ behind))) at ∙ drop_both last front (typed ++ behind) ∙ ap (λ xs. xs ++ drop (last - length front) (typed ++ behind)) (drop_all last front low) ∙ drop_both (last - length front) typed behind in
    ap (λ xs. xs ++ ((before ++ drop (min (last - length front) (length typed)) typed) ++ rest)) (take_min first front)
    ∙ ap (λ xs. take first front ++ ((before ++ xs) ++ rest)) (drop_min (last - length front) typed)
    ∙ ap (λ xs. take first front ++ xs) (append_assoc before after rest)
    ∙ sym (append_assoc (take first front) before (after ++ rest))
    ∙ sym (ap (λ xs. xs ++ drop (max first last) (front ++ (typed ++ behind))) start ∙ ap (λ xs. (take first front ++ before) ++ xs) end)

-- what two have between two places
pub part_both : {X : Type 0} (first last : ℕ) (xs ys : List X) → first ≤ last → part first last (xs ++ ys) ≡ part first last xs ++ part (first - length xs) (last - length xs) ys
part_both first last xs ys le =
    let left : last - first - length (drop first xs) ≡ last - length xs - (first - length xs) = omega (arith, length-drop first xs) in
    ap (take (last - first)) (drop_both first xs ys)
    ∙ take_both (last - first) (drop first xs) (drop (first - length xs) ys)
    ∙ ap (λ n. part first last xs ++ take n (drop (first - length xs) ys)) left

pub part_within : {X : Type 0} (first last : ℕ) (xs : List X) → take (min last (length xs) - min first (length xs)) (drop (min first (length xs)) xs) ≡ part first last xs
part_within first last xs =
    let left : min (last - first) (length (drop first xs)) ≡ min last (length xs) - min first (length xs) = omega (arith, length-drop first xs) in
    ap (take (min last (length xs) - min first (length xs))) (drop_min first xs)
    ∙ ap (λ n. take n (drop first xs)) (sym left)
    ∙ take_min (last - first) (drop first xs)

pub three_parts : {X : Type 0} (first last a b : ℕ) (front typed behind : List X) → first ≤ last → a ≡ first - (length front + length typed) → b ≡ last - (length front + length typed)
    → (part first last front ++ part (first - length front) (last - length front) typed) ++ part a b behind ≡ part first last (front ++ (typed ++ behind))
three_parts first last a b front typed behind le ea eb =
    let one = part first last front in
    let two = part (first - length front) (last - length front) typed in
    let from : a ≡ first - length front - length typed = omega arith in
    let to : b ≡ last - length front - length typed = omega arith in
    ap (λ n. (one ++ two) ++ part n b behind) from
    ∙ ap (λ n. (one ++ two) ++ part (first - length front - length typed) n behind) to
    ∙ append_assoc one two (part (first - length front - length typed) (last - length front - length typed) behind)
    ∙ sym (part_both first last front (typed ++ behind) le ∙ ap (λ xs. one ++ xs) (part_both (first - length front) (last - length front) typed behind (omega arith)))

-- ---- newlines

count_both : (xs ys : List ℕ) → count_by is_newline (xs ++ ys) ≡ count_by is_newline xs + count_by is_newline ys
count_both xs ys = sum_by-append (λ x. if is_newline x then 1 else 0) xs ys

pub three_counts : (place a : ℕ) (front typed behind : List ℕ) → a ≡ place - (length front + length typed)
    → count_by is_newline (take place front) + count_by is_newline (take (place - length front) typed) + count_by is_newline (take a behind) ≡ count_by is_newline (take place (front ++ (typed ++ behind)))
three_counts place a front typed behind e =
    let one = take place front in
    let two = take (place - length front) typed in
    let at : a ≡ place - length front - length typed = omega arith in
    let rest = take (place - length front - length typed) behind in
    let all : take place (front ++ (typed ++ behind)) ≡ one ++ (two ++ rest) = take_both place front (typed ++ behind) ∙ ap (λ xs. one ++ xs) (take_both (place - length front) typed behind) in
    let sums : count_by is_newline (one ++ (two ++ rest)) ≡ count_by is_newline one + (count_by is_newline two + count_by is_newline rest) = count_both one (two ++ rest) ∙ ap (λ n. count_by is_newline one + n) (count_both two rest) in
    let same : count_by is_newline one + count_by is_newline two + count_by is_newline rest ≡ count_by is_newline one + (count_by is_newline two + count_by is_newline rest) = omega arith in
    ap (λ n. count_by is_newline one + count_by is_newline two + count_by is_newline (take n behind)) at ∙ same ∙ sym (ap (count_by is_newline) all ∙ sums)

got_front : {X : Type 0} (n : ℕ) (xs ys : List X) → n < length xs → slice_get xs n ≡ slice_get (xs ++ ys) n
got_front n [] ys h = absurd (omega arith)
got_front zero (x ∷ xs) ys h = refl
got_front (suc n) (x ∷ xs) ys h = got_front n xs ys (omega arith)

got_behind : {X : Type 0} (n : ℕ) (xs ys : List X) → length xs ≤ n → slice_get ys (n - length xs) ≡ slice_get (xs ++ ys) n
got_behind n [] ys h = let same : n - 0 ≡ n = omega arith in ap (slice_get ys) same
got_behind zero (x ∷ xs) ys h = absurd (omega arith)
got_behind (suc n) (x ∷ xs) ys h = let same : suc n - suc (length xs) ≡ n - length xs = omega arith in ap (slice_get ys) same ∙ got_behind n xs ys (omega arith)

-- the place of a newline in front, of one among those typed, and of one behind
pub break_front : (n : ℕ) (front typed behind : List ℕ) → n < count_by is_newline front → slice_get (breaks_from 0 front) n ≡ slice_get (breaks_of (front ++ (typed ++ behind))) n
break_front n front typed behind h =
    got_front n (breaks_from 0 front) (breaks_from (0 + length front) (typed ++ behind)) (omega (arith, count_all_from 0 front))
    ∙ ap (λ bs. slice_get bs n) (sym (breaks_append 0 front (typed ++ behind)))

behind_front : (n : ℕ) (front rest : List ℕ) → count_by is_newline front ≤ n → slice_get (breaks_from (length front) rest) (n - count_by is_newline front) ≡ slice_get (breaks_of (front ++ rest)) n
behind_front n front rest h =
    let at : length front ≡ 0 + length front = omega arith in
    ap (λ k. slice_get (breaks_from k rest) (n - count_by is_newline front)) at
    ∙ ap (λ k. slice_get (breaks_from (0 + length front) rest) (n - k)) (count_all_from 0 front)
    ∙ got_behind n (breaks_from 0 front) (breaks_from (0 + length front) rest) (omega (arith, count_all_from 0 front))
    ∙ ap (λ bs. slice_get bs n) (sym (breaks_append 0 front rest))

pub break_typed : (n : ℕ) (front typed behind : List ℕ) → count_by is_newline front ≤ n → n < count_by is_newline front + count_by is_newline typed
    → slice_get (breaks_from (length front) typed) (n - count_by is_newline front) ≡ slice_get (breaks_of (front ++ (typed ++ behind))) n
break_typed n front typed behind low high =
    got_front (n - count_by is_newline front) (breaks_from (length front) typed) (breaks_from (length front + length typed) behind) (omega (arith, count_all_from (length front) typed))
    ∙ ap (λ bs. slice_get bs (n - count_by is_newline front)) (sym (breaks_append (length front) typed behind))
    ∙ behind_front n front (typed ++ behind) low

pub break_behind : (n : ℕ) (front typed behind : List ℕ) → count_by is_newline front + count_by is_newline typed ≤ n
    → slice_get (breaks_from (length front + length typed) behind) (n - (count_by is_newline front + count_by is_newline typed)) ≡ slice_get (breaks_of (front ++ (typed ++ behind))) n
break_behind n front typed behind low =
    let count = n - count_by is_newline front in
    let same : n - (count_by is_newline front + count_by is_newline typed) ≡ count - count_by is_newline typed = omega arith in
    ap (slice_get (breaks_from (length front + length typed) behind)) same
    ∙ ap (λ k. slice_get (breaks_from (length front + length typed) behind) (count - k)) (count_all_from (length front) typed)
    ∙ got_behind count (breaks_from (length front) typed) (breaks_from (length front + length typed) behind) (omega (arith, count_all_from (length front) typed))
    ∙ ap (λ bs. slice_get bs count) (sym (breaks_append (length front) typed behind))
    ∙ behind_front n front (typed ++ behind) (omega arith)

-- places behind the last character are as good as the last
pub cut_inside : {X : Type 0} (first last : ℕ) (xs : List X) → cut (min first (length xs)) (min (max last first) (length xs)) xs ≡ cut first last xs
cut_inside first last xs = ap (λ ys. ys ++ drop (max (min first (length xs)) (min (max last first) (length xs))) xs) (front (cases_lt (length xs) first)) ∙ ap (λ ys. take first xs ++ ys) (behind (cases_lt (length xs) (max first last)))
  where
    front : (length xs < first) ⊎ (first ≤ length xs) → take (min first (length xs)) xs ≡ take first xs
    front (inl far) = take_all (min first (length xs)) xs (omega arith) ∙ sym (take_all first xs (omega arith))
    front (inr near) = let same : min first (length xs) ≡ first = omega arith in ap (λ n. take n xs) same

    behind : (length xs < max first last) ⊎ (max first last ≤ length xs) → drop (max (min first (length xs)) (min (max last first) (length xs))) xs ≡ drop (max first last) xs
    behind (inl far) = drop_all (max (min first (length xs)) (min (max last first) (length xs))) xs (omega arith) ∙ sym (drop_all (max first last) xs (omega arith))
    behind (inr near) = let same : max (min first (length xs)) (min (max last first) (length xs)) ≡ max first last = omega arith in ap (λ n. drop n xs) same
