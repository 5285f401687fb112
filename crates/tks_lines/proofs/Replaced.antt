-- Characters that come in the place of others, by the ranges of a tag.
use Rattle.std.proofs.Common.{◌≡◌, ℕ, zero, suc, ◌+◌, ◌-◌, ◌<◌, ◌≤◌, ◌^◌, ◌==◌, ◌||◌, nat_le, nat_lt, min, max, Bool, true, false, cond, if◌then◌else◌, List, [], ◌∷◌, ◌++◌, length, take, drop, map, replicate, None, ◌⊎◌, inl, inr, refl, sym, ap, ◌∙◌, subst, append_assoc, arith}
use Rattle.std.specs.Prelude.{slice_get}
use Rattle.std.specs.List.{AllByRecursion}
use Rattle.std.proofs.lemmas.Bool.{cases_lt}
use Rattle.std.proofs.lemmas.Bool.Decides.{nat_tests}
use Rattle.std.proofs.lemmas.List.Sums.{prefix_len-le-length}
use Rattle.std.proofs.lemmas.List.{append-nil, drop-replicate, take-append-drop, take_at, drop_at, length-take-le, length-drop, length-append, length-replicate, replicate-append-replicate}
use Rattle.tks_lines.specs.declared.range.Range.{Range}
use Rattle.tks_lines.specs.Ranges.{flags_at, flags_of, AreRanges, ending_before, beginning_up_to, begin_of, end_or, end_of, moved, MayMove, unless_empty, untagged}
use Rattle.tks_lines.proofs.Apart.{Apart, apart, are_ranges, lower, within, wider, rest_lower, joined, joined_flags, flags_count, moved_apart, moved_flags, may_move, in_order, ended, not_begun, middle_both, three_parts}

abbrev offs : ℕ → List Bool
offs n = replicate n false

abbrev ons : ℕ → List Bool
ons n = replicate n true

abbrev range : ℕ → ℕ → Range
range first last = record { first = first; last = last }

-- ---- parts of runs

take_run : (n a : ℕ) (b : Bool) (ys : List Bool) → take n (replicate a b ++ ys) ≡ replicate (min a n) b ++ take (n - a) ys
take_run zero zero b ys = refl
take_run zero (suc a) b ys = let none : min (suc a) zero ≡ 0 = omega arith in let less : zero - suc a ≡ 0 = omega arith in sym (ap (λ n. replicate n b ++ take (zero - suc a) ys) none ∙ ap (λ n. take n ys) less)
take_run (suc n) zero b ys = let none : min zero (suc n) ≡ 0 = omega arith in let same : suc n - zero ≡ suc n = omega arith in sym (ap (λ m. replicate m b ++ take (suc n - zero) ys) none ∙ ap (λ m. take m ys) same)
take_run (suc n) (suc a) b ys =
    let one : suc (min a n) ≡ min (suc a) (suc n) = omega arith in
    let less : n - a ≡ suc n - suc a = omega arith in
    ap (λ zs. b ∷ zs) (take_run n a b ys) ∙ ap (λ m. replicate m b ++ take (n - a) ys) one ∙ ap (λ m. replicate (min (suc a) (suc n)) b ++ take m ys) less

drop_run : (n a : ℕ) (b : Bool) (ys : List Bool) → drop n (replicate a b ++ ys) ≡ replicate (a - n) b ++ drop (n - a) ys
drop_run zero a b ys = let same : a ≡ a - zero = omega arith in let none : 0 ≡ zero - a = omega arith in ap (λ m. replicate m b ++ ys) same ∙ ap (λ m. replicate (a - zero) b ++ drop m ys) none
drop_run (suc n) zero b ys = let none : 0 ≡ zero - suc n = omega arith in let same : suc n ≡ suc n - zero = omega arith in ap (λ m. replicate m b ++ drop (suc n) ys) none ∙ ap (λ m. replicate (zero - suc n) b ++ drop m ys) same
drop_run (suc n) (suc a) b ys =
    let one : a - n ≡ suc a - suc n = omega arith in
    let less : n - a ≡ suc n - suc a = omega arith in
    drop_run n a b ys ∙ ap (λ m. replicate m b ++ drop (n - a) ys) one ∙ ap (λ m. replicate (suc a - suc n) b ++ drop m ys) less

-- ---- where ranges end

-- where the last of ranges ends, or a place behind it, by recursion
abbrev pub top : List Range → ℕ → ℕ
top [] place = place
top (r ∷ ranges) place = max r.last (top ranges place)

above : (ranges : List Range) (place : ℕ) → place ≤ top ranges place
above [] place = omega arith
above (r ∷ ranges) place = omega (arith, above ranges place)

pub top_is : (low limit place : ℕ) (ranges : List Range) → Apart low limit ranges → end_of ranges place ≡ top ranges place
top_is low limit place [] h = refl
top_is low limit place (r ∷ []) h = refl
top_is low limit place (r ∷ (s ∷ ranges)) h =
    let before : length (s ∷ ranges) - 1 ≡ length ranges = omega arith in
    let here : length (r ∷ (s ∷ ranges)) - 1 ≡ suc (length ranges) = omega arith in
    let less : top (s ∷ ranges) place ≡ max r.last (top (s ∷ ranges) place) = omega (arith, h.3.0, h.3.1) in
    ap (λ n. end_or (slice_get (r ∷ (s ∷ ranges)) n) place) here
    ∙ sym (ap (λ n. end_or (slice_get (s ∷ ranges) n) place) before)
    ∙ top_is (r.last + 1) limit place (s ∷ ranges) h.3
    ∙ less

-- ---- those before, those that touch, those behind

-- the parts of ranges: those that end before a place, those that touch what lies between it and another, and those behind that
pub record Parts (len first last : ℕ) (before touching behind : List Range) : Type 0 where
  pub fore : Apart 0 (begin_of touching first) before
  pub near : Apart (begin_of touching first) (top touching last + 1) touching
  pub rear : Apart (top touching last + 1) (len + 1) behind
  pub begins : begin_of touching first ≤ first
  pub ends : last ≤ top touching last
  pub inside : top touching last ≤ len
  pub fronts : AllByRecursion (λ r. first ≤ r.last) touching
  pub backs : AllByRecursion (λ r. r.first ≤ last) touching

begins_low : (low first limit : ℕ) (touching behind : List Range) → low ≤ first → Apart low limit (touching ++ behind) → low ≤ begin_of touching first
begins_low low first limit [] behind e h = e
begins_low low first limit (r ∷ touching) behind e h = omega (arith, h.0)

-- those before it end before those that touch begin
before_apart : (low first limit : ℕ) (before touching behind : List Range) → low ≤ first → Apart low limit (before ++ (touching ++ behind)) → AllByRecursion (λ r. r.last < first) before
    → Apart low (begin_of touching first) before × ((n : ℕ) × (n ≤ first) × Apart n limit (touching ++ behind))
before_apart low first limit [] touching behind e h a = (begins_low low first limit touching behind e h, (low, e, h))
before_apart low first limit (r ∷ before) touching behind e h a =
    let rest = before_apart (r.last + 1) first limit before touching behind (omega (arith, a.0)) h.3 a.1 in
    let inside = within (r.last + 1) (begin_of touching first) before rest.0 in
    ((h.0, h.1, omega (arith, inside), rest.0), rest.1)

-- those behind begin behind those that touch
touching_apart : (low last len : ℕ) (touching behind : List Range) → low ≤ last + 1 → last ≤ len → Apart low (len + 1) (touching ++ behind)
    → AllByRecursion (λ r. r.first ≤ last) touching → AllByRecursion (λ r. last < r.first) behind
    → Apart low (top touching last + 1) touching × Apart (top touching last + 1) (len + 1) behind × (top touching last ≤ len)
touching_apart low last len [] [] e l h a b = (e, omega arith, l)
touching_apart low last len [] (r ∷ behind) e l h a b = (e, (omega (arith, b.0), h.1, h.2, h.3), l)
touching_apart low last len (r ∷ []) [] e l h a b = ((h.0, h.1, omega arith, omega arith), omega (arith, h.2), omega (arith, h.2))
touching_apart low last len (r ∷ []) (s ∷ behind) e l h a b =
    ((h.0, h.1, omega arith, omega arith), (omega (arith, b.0, h.3.0), h.3.1, h.3.2, h.3.3), omega (arith, h.2))
touching_apart low last len (r ∷ (s ∷ touching)) behind e l h a b =
    let rest = touching_apart (r.last + 1) last len (s ∷ touching) behind (omega (arith, h.3.0, a.1.0)) l h.3 a.1 b in
    let less : top (s ∷ touching) last ≡ max r.last (top (s ∷ touching) last) = omega (arith, h.3.0, h.3.1) in
    let some = within (r.last + 1) (top (s ∷ touching) last + 1) (s ∷ touching) rest.0 in (
      (h.0, h.1, omega arith, subst (λ n. Apart (r.last + 1) (n + 1) (s ∷ touching)) less rest.0),
      subst (λ n. Apart (n + 1) (len + 1) behind) less rest.1,
      omega (arith, rest.2),
    )

-- they begin no earlier than the first of them, or the place
from_begin : (n first limit : ℕ) (touching : List Range) → first ≤ limit → Apart n limit touching → Apart (begin_of touching first) limit touching
from_begin n first limit [] e h = e
from_begin n first limit (r ∷ touching) e h = (omega arith, h.1, h.2, h.3)

begin_least : (touching : List Range) (first : ℕ) → begin_of touching first ≤ first
begin_least [] first = omega arith
begin_least (r ∷ touching) first = omega arith

pub parts : (len first last : ℕ) (before touching behind : List Range) → first ≤ last → last ≤ len → Apart 0 (len + 1) (before ++ (touching ++ behind))
    → AllByRecursion (λ r. r.last < first) before → AllByRecursion (λ r. first ≤ r.last) touching → AllByRecursion (λ r. r.first ≤ last) touching → AllByRecursion (λ r. last < r.first) behind
    → Parts len first last before touching behind
parts len first last before touching behind e l h a f b c =
    let split = before_apart 0 first (len + 1) before touching behind (omega arith) h a in
    let low = split.1.0 in
    let rest = touching_apart low last len touching behind (omega (arith, split.1.1)) l split.1.2 b c in
    let up = above touching last in
    record {
      fore = split.0;
      near = from_begin low first (top touching last + 1) touching (omega (arith, up)) rest.0;
      rear = rest.1;
      begins = begin_least touching first;
      ends = up;
      inside = rest.2;
      fronts = f;
      backs = b;
    }

-- ---- the flags of those that touch

-- from where they begin up to the place, all are on
front_on : (first e : ℕ) (touching : List Range) → AllByRecursion (λ r. first ≤ r.last) touching
    → take (first - begin_of touching first) (flags_at (begin_of touching first) e touching) ≡ ons (first - begin_of touching first)
front_on first e [] a =
    let none : first - first ≡ 0 = omega arith in
    ap (λ n. take n (flags_at first e [])) none ∙ sym (ap ons none)
front_on first e (r ∷ touching) a = by (cases_lt r.first first)
  where
    rest : List Bool
    rest = flags_at r.last e touching

    at : ℕ → Type 0
    at b = take (first - b) (flags_at b e (r ∷ touching)) ≡ ons (first - b)

    by : (r.first < first) ⊎ (first ≤ r.first) → at (min r.first first)
    by (inl lt) =
        let here : r.first ≡ min r.first first = omega arith in
        let none : r.first - r.first ≡ 0 = omega arith in
        let all : min (r.last - r.first) (first - r.first) ≡ first - r.first = omega (arith, a.0) in
        let no_more : (first - r.first) - (r.last - r.first) ≡ 0 = omega (arith, a.0) in
        subst at here (
        ap (λ n. take (first - r.first) (offs n ++ (ons (r.last - r.first) ++ rest))) none
        ∙ take_run (first - r.first) (r.last - r.first) true rest
        ∙ ap (λ n. ons n ++ take ((first - r.first) - (r.last - r.first)) rest) all
        ∙ ap (λ n. ons (first - r.first) ++ take n rest) no_more
        ∙ append-nil (ons (first - r.first))
        )
    by (inr le) =
        let here : first ≡ min r.first first = omega arith in
        let none : first - first ≡ 0 = omega arith in
        subst at here (ap (λ n. take n (flags_at first e (r ∷ touching))) none ∙ sym (ap ons none))

-- what is left of them behind the place, where the first one begins before it
first_dropped : (last q e : ℕ) (r : Range) (ranges : List Range) → q ≤ r.first → r.first < r.last → r.first ≤ last
    → drop (last - q) (flags_at q e (r ∷ ranges)) ≡ ons (r.last - last) ++ drop (last - r.last) (flags_at r.last e ranges)
first_dropped last q e r ranges h k a =
    let rest = flags_at r.last e ranges in
    let none : (r.first - q) - (last - q) ≡ 0 = omega arith in
    let less : (last - q) - (r.first - q) ≡ last - r.first = omega arith in
    let some : (r.last - r.first) - (last - r.first) ≡ r.last - last = omega arith in
    let further : (last - r.first) - (r.last - r.first) ≡ last - r.last = omega arith in
    drop_run (last - q) (r.first - q) false (ons (r.last - r.first) ++ rest)
    ∙ ap (λ n. offs n ++ drop ((last - q) - (r.first - q)) (ons (r.last - r.first) ++ rest)) none
    ∙ ap (λ n. drop n (ons (r.last - r.first) ++ rest)) less
    ∙ drop_run (last - r.first) (r.last - r.first) true rest
    ∙ ap (λ n. ons n ++ drop ((last - r.first) - (r.last - r.first)) rest) some
    ∙ ap (λ n. ons (r.last - last) ++ drop n rest) further

-- from the other place up to where they end too
back_on : (last q : ℕ) (touching : List Range) → q ≤ last → Apart q (top touching last + 1) touching → AllByRecursion (λ r. r.first ≤ last) touching
    → drop (last - q) (flags_at q (top touching last) touching) ≡ ons (top touching last - last)
back_on last q [] e h a =
    let none : (last - q) - (last - q) ≡ 0 = omega arith in
    let none_too : last - last ≡ 0 = omega arith in
    drop-replicate (last - q) (last - q) false ∙ ap offs none ∙ sym (ap ons none_too)
back_on last q (r ∷ []) e h a =
    let none : (max r.last last - r.last) - (last - r.last) ≡ 0 = omega arith in
    let same : r.last - last ≡ max r.last last - last = omega arith in
    first_dropped last q (max r.last last) r [] h.0 h.1 a.0
    ∙ ap (λ fs. ons (r.last - last) ++ fs) (drop-replicate (last - r.last) (max r.last last - r.last) false ∙ ap offs none)
    ∙ append-nil (ons (r.last - last))
    ∙ ap ons same
back_on last q (r ∷ (s ∷ touching)) e h a =
    let end = top (s ∷ touching) last in
    let less : max r.last end ≡ end = omega (arith, h.3.0, h.3.1) in
    let none : r.last - last ≡ 0 = omega (arith, h.3.0, a.1.0) in
    let low = rest_lower q (max r.last end + 1) r (s ∷ touching) h in
    first_dropped last q (max r.last end) r (s ∷ touching) h.0 h.1 a.0
    ∙ ap (λ n. ons n ++ drop (last - r.last) (flags_at r.last (max r.last end) (s ∷ touching))) none
    ∙ ap (λ n. drop (last - r.last) (flags_at r.last n (s ∷ touching))) less
    ∙ back_on last r.last (s ∷ touching) (omega (arith, h.3.0, a.1.0)) (subst (λ n. Apart r.last (n + 1) (s ∷ touching)) less low) a.1
    ∙ ap (λ n. ons (n - last)) (sym less)

-- ---- others in their place

-- the flags of all, in three parts
in_parts : (len first last : ℕ) (before touching behind : List Range) → first ≤ last → Parts len first last before touching behind
    → flags_of len (before ++ (touching ++ behind)) ≡ flags_at 0 (begin_of touching first) before ++ (flags_at (begin_of touching first) (top touching last) touching ++ flags_at (top touching last) len behind)
in_parts len first last before touching behind e p =
    let b = begin_of touching first in
    let t = top touching last in
    let behind_low = lower (t + 1) t (len + 1) behind (omega arith) p.rear in
    let both = joined b (t + 1) (len + 1) touching behind p.near p.rear in
    joined_flags 0 b len (len + 1) before (touching ++ behind) (omega arith) (omega (arith, p.begins, p.ends, p.inside)) (wider 0 b (b + 1) before (omega arith) p.fore) both
    ∙ ap (λ fs. flags_at 0 b before ++ fs) (joined_flags b t len (len + 1) touching behind (omega (arith, p.begins, p.ends)) p.inside p.near behind_low)

-- those before the one place
front_of : (x : List Bool) (n k : ℕ) (g y : List Bool) → take k g ≡ ons k → length x + k ≡ n → take n (x ++ (g ++ y)) ≡ x ++ ons k
front_of x n k g y e l =
    let long : length (x ++ ons k) ≡ n = omega (arith, length-append x (ons k), length-replicate k true) in
    let whole : x ++ (g ++ y) ≡ (x ++ ons k) ++ (drop k g ++ y) =
    ap (λ fs. x ++ (fs ++ y)) (sym (take-append-drop k g) ∙ ap (λ fs. fs ++ drop k g) e) ∙ simp append_assoc in
    ap (take n) whole ∙ take_at (x ++ ons k) (drop k g ++ y) n long

-- those behind the other
back_of : (x : List Bool) (n k j : ℕ) (g y : List Bool) → drop k g ≡ ons j → k ≤ length g → length x + k ≡ n → drop n (x ++ (g ++ y)) ≡ ons j ++ y
back_of x n k j g y e l m =
    let long : length (x ++ take k g) ≡ n = omega (arith, length-append x (take k g), length-take-le k g l) in
    let whole : x ++ (g ++ y) ≡ (x ++ take k g) ++ (ons j ++ y) =
    ap (λ fs. x ++ (fs ++ y)) (sym (take-append-drop k g) ∙ ap (λ fs. take k g ++ fs) e) ∙ simp append_assoc in
    ap (drop n) whole ∙ drop_at (x ++ take k g) (ons j ++ y) n long

-- ranges that stand for what comes between two places, up to where others end
pub record Fill (begin first end last behind : ℕ) (middle : List Bool) (ranges : List Range) : Type 0 where
  pub apart : Apart begin (end - last + behind + 1) ranges
  pub flags : flags_at begin (end - last + behind) ranges ≡ ons (first - begin) ++ (middle ++ ons (end - last))

pub record Replaced (len first last behind : ℕ) (middle : List Bool) (old new : List Range) : Type 0 where
  pub are : AreRanges (len - last + behind) None new
  pub flags : flags_of (len - last + behind) new ≡ take first (flags_of len old) ++ (middle ++ drop last (flags_of len old))

pub replaced : (len first last behind : ℕ) (middle : List Bool) (fronts touching backs more : List Range) → first ≤ last → first ≤ behind → Parts len first last fronts touching backs
    → Fill (begin_of touching first) first (top touching last) last behind middle more
    → Replaced len first last behind middle (fronts ++ (touching ++ backs)) (fronts ++ (more ++ map (moved last behind) backs))
replaced len first last behind middle fronts touching backs more e f p w =
    let b = begin_of touching first in
    let t = top touching last in
    let len2 = len - last + behind in
    let t2 = t - last + behind in
    let moves = map (moved last behind) backs in
    let x = flags_at 0 b fronts in
    let g = flags_at b t touching in
    let y = flags_at t len backs in
    let wide = wider 0 b (b + 1) fronts (omega arith) p.fore in
    let long : length x ≡ b - 0 = flags_count 0 b fronts (omega arith) wide in
    let long_too : length g ≡ t - b = flags_count b t touching (omega (arith, p.begins, p.ends)) p.near in
    let all = in_parts len first last fronts touching backs e p in
    let before : take first (flags_of len (fronts ++ (touching ++ backs))) ≡ x ++ ons (first - b) =
    ap (take first) all ∙ front_of x first (first - b) g y (front_on first t touching p.fronts) (omega (arith, long, p.begins)) in
    let after : drop last (flags_of len (fronts ++ (touching ++ backs))) ≡ ons (t - last) ++ y =
    ap (drop last) all ∙ back_of x last (last - b) (t - last) g y (back_on last b touching (omega (arith, p.begins)) p.near p.backs) (omega (arith, long_too, p.begins, p.ends)) (omega (arith, long, p.begins)) in
    let low_one : (t + 1) - last + behind ≡ t2 + 1 = omega (arith, p.ends) in
    let high_one : (len + 1) - last + behind ≡ len2 + 1 = omega (arith, p.ends, p.inside) in
    let moved_one : Apart (t2 + 1) (len2 + 1) moves =
    subst (λ n. Apart n (len2 + 1) moves) low_one (subst (λ n. Apart ((t + 1) - last + behind) n moves) high_one (moved_apart last behind (t + 1) (len + 1) backs (omega (arith, p.ends)) p.rear)) in
    let new_apart : Apart b (len2 + 1) (more ++ moves) = joined b (t2 + 1) (len2 + 1) more moves w.apart moved_one in
    let back : flags_at t2 len2 moves ≡ y = moved_flags last behind t len (len + 1) backs p.ends (omega (arith, p.ends, p.inside)) (lower (t + 1) t (len + 1) backs (omega arith) p.rear) in
    let rest : flags_at b len2 (more ++ moves) ≡ (ons (first - b) ++ (middle ++ ons (t - last))) ++ y =
    joined_flags b t2 len2 (len2 + 1) more moves (omega (arith, p.begins, p.ends)) (omega (arith, p.ends, p.inside)) w.apart (lower (t2 + 1) t2 (len2 + 1) moves (omega arith) moved_one)
    ∙ ap (λ fs. fs ++ flags_at t2 len2 moves) w.flags
    ∙ ap (λ fs. (ons (first - b) ++ (middle ++ ons (t - last))) ++ fs) back in
    let made : flags_of len2 (fronts ++ (more ++ moves)) ≡ x ++ ((ons (first - b) ++ (middle ++ ons (t - last))) ++ y) =
    joined_flags 0 b len2 (len2 + 1) fronts (more ++ moves) (omega arith) (omega (arith, p.begins, p.ends, p.inside)) wide new_apart
    ∙ ap (λ fs. x ++ fs) rest in
    let regrouped : x ++ ((ons (first - b) ++ (middle ++ ons (t - last))) ++ y) ≡ (x ++ ons (first - b)) ++ (middle ++ (ons (t - last) ++ y)) = simp append_assoc in
    record {
      are = are_ranges len2 (fronts ++ (more ++ moves)) (joined 0 b (len2 + 1) fronts (more ++ moves) p.fore new_apart);
      flags = made ∙ regrouped ∙ sym (ap (λ fs. fs ++ (middle ++ drop last (flags_of len (fronts ++ (touching ++ backs))))) before ∙ ap (λ fs. (x ++ ons (first - b)) ++ (middle ++ fs)) after);
    }

-- ---- what is put in their place

-- those that aren't empty of two, by whether they are
abbrev picked : Bool → Bool → Range → Range → List Range
picked b c r s = cond b (r ∷ cond c (s ∷ []) []) (cond c (s ∷ []) [])

picked_is : (b c : Bool) (r s : Range) → nat_lt r.first r.last ≡ b → nat_lt s.first s.last ≡ c → unless_empty (r ∷ (s ∷ [])) ≡ picked b c r s
picked_is b c r s e f = ap (λ x. picked x (nat_lt s.first s.last) r s) e ∙ ap (λ x. picked b x r s) f

none_in : (n : ℕ) → nat_lt n n ≡ false
none_in n = grind (arith, nat_tests)

abbrev pub OneFills : ℕ → ℕ → List Range → Type 0
OneFills b e more = Apart b (e + 1) more × (flags_at b e more ≡ ons (e - b)) × (length more ≤ 1) × (b ≡ e → length more ≡ 0)

abbrev pub TwoFill : ℕ → ℕ → ℕ → ℕ → List Range → Type 0
TwoFill b first x e more = Apart b (e + 1) more × (flags_at b e more ≡ ons (first - b) ++ (offs (x - first) ++ ons (e - x))) × (length more ≤ 2) × (b ≡ first → x ≡ e → length more ≡ 0)

-- one range, where nothing is left out between
pub one_filled : (b e : ℕ) → b ≤ e → OneFills b e (unless_empty (range b e ∷ (range e e ∷ [])))
one_filled b e le = by (cases_lt b e)
  where
    by : (b < e) ⊎ (e ≤ b) → OneFills b e (unless_empty (range b e ∷ (range e e ∷ [])))
    by (inl lt) =
        let some : nat_lt b e ≡ true = grind (arith, nat_tests) in
        let none : b - b ≡ 0 = omega arith in
        let none_too : e - e ≡ 0 = omega arith in
        let is = picked_is true false (range b e) (range e e) some (none_in e) in
        subst (OneFills b e) (sym is) (
          (omega arith, lt, omega arith, omega arith),
          ap (λ n. offs n ++ (ons (e - b) ++ offs (e - e))) none ∙ ap (λ n. ons (e - b) ++ offs n) none_too ∙ append-nil (ons (e - b)),
          omega arith,
          λ same. absurd (omega arith),
        )
    by (inr ge) =
        let empty : nat_lt b e ≡ false = grind (arith, nat_tests) in
        let none : e - b ≡ 0 = omega arith in
        let is = picked_is false false (range b e) (range e e) empty (none_in e) in
        subst (OneFills b e) (sym is) (omega arith, ap offs none ∙ sym (ap ons none), omega arith, λ same. refl)

-- two ranges, where characters without the tag come in between
pub two_filled : (b first x e : ℕ) → b ≤ first → first < x → x ≤ e → TwoFill b first x e (unless_empty (range b first ∷ (range x e ∷ [])))
two_filled b first x e l m n = by (cases_lt b first) (cases_lt x e)
  where
    by : (b < first) ⊎ (first ≤ b) → (x < e) ⊎ (e ≤ x) → TwoFill b first x e (unless_empty (range b first ∷ (range x e ∷ [])))
    by (inl lt) (inl lt2) =
        let some : nat_lt b first ≡ true = grind (arith, nat_tests) in
        let some_too : nat_lt x e ≡ true = grind (arith, nat_tests) in
        let none : b - b ≡ 0 = omega arith in
        let none_too : e - e ≡ 0 = omega arith in
        let is = picked_is true true (range b first) (range x e) some some_too in
        subst (TwoFill b first x e) (sym is) (
          (omega arith, lt, omega arith, (omega arith, lt2, omega arith, omega arith)),
          ap (λ k. offs k ++ (ons (first - b) ++ (offs (x - first) ++ (ons (e - x) ++ offs (e - e))))) none
              ∙ ap (λ k. ons (first - b) ++ (offs (x - first) ++ (ons (e - x) ++ offs k))) none_too
              ∙ ap (λ fs. ons (first - b) ++ (offs (x - first) ++ fs)) (append-nil (ons (e - x))),
          omega arith,
          λ same other. absurd (omega arith),
        )
    by (inl lt) (inr ge) =
        let some : nat_lt b first ≡ true = grind (arith, nat_tests) in
        let empty : nat_lt x e ≡ false = grind (arith, nat_tests) in
        let none : b - b ≡ 0 = omega arith in
        let none_too : e - x ≡ 0 = omega arith in
        let long : e - first ≡ x - first = omega arith in
        let is = picked_is true false (range b first) (range x e) some empty in
        subst (TwoFill b first x e) (sym is) (
          (omega arith, lt, omega arith, omega arith),
          ap (λ k. offs k ++ (ons (first - b) ++ offs (e - first))) none
              ∙ ap (λ k. ons (first - b) ++ offs k) long
              ∙ ap (λ fs. ons (first - b) ++ fs) (sym (append-nil (offs (x - first))) ∙ sym (ap (λ k. offs (x - first) ++ ons k) none_too)),
          omega arith,
          λ same other. absurd (omega arith),
        )
    by (inr ge) (inl lt2) =
        let empty : nat_lt b first ≡ false = grind (arith, nat_tests) in
        let some : nat_lt x e ≡ true = grind (arith, nat_tests) in
        let none : first - b ≡ 0 = omega arith in
        let none_too : e - e ≡ 0 = omega arith in
        let long : x - b ≡ x - first = omega arith in
        let is = picked_is false true (range b first) (range x e) empty some in
        subst (TwoFill b first x e) (sym is) (
          (omega arith, lt2, omega arith, omega arith),
          ap (λ k. offs k ++ (ons (e - x) ++ offs (e - e))) long
              ∙ ap (λ k. offs (x - first) ++ (ons (e - x) ++ offs k)) none_too
              ∙ ap (λ fs. offs (x - first) ++ fs) (append-nil (ons (e - x)))
              ∙ sym (ap (λ k. ons k ++ (offs (x - first) ++ ons (e - x))) none),
          omega arith,
          λ same other. absurd (omega arith),
        )
    by (inr ge) (inr ge2) =
        let empty : nat_lt b first ≡ false = grind (arith, nat_tests) in
        let empty_too : nat_lt x e ≡ false = grind (arith, nat_tests) in
        let none : first - b ≡ 0 = omega arith in
        let none_too : e - x ≡ 0 = omega arith in
        let long : e - b ≡ x - first = omega arith in
        let is = picked_is false false (range b first) (range x e) empty empty_too in
        subst (TwoFill b first x e) (sym is) (
          omega arith,
          ap offs long ∙ sym (append-nil (offs (x - first))) ∙ sym (ap (λ k. offs (x - first) ++ ons k) none_too) ∙ sym (ap (λ k. ons k ++ (offs (x - first) ++ ons (e - x))) none),
          omega arith,
          λ same other. refl,
        )

-- the two ranges that are put, where so many characters come in
abbrev pub two_of : ℕ → ℕ → ℕ × ℕ → List Range
two_of b e at = range b at.0 ∷ (range at.1 e ∷ [])

-- they stand for what comes in; there is one more than those that touch at the most, and none more where nothing comes in
pub record Fits (first last count : ℕ) (value : Bool) (i j : ℕ) (touching : List Range) (more : List Range) : Type 0 where
  pub fill : Fill (begin_of touching first) first (top touching last) last (first + count) (replicate count value) more
  pub one : i + length more ≤ j + 1
  pub none : count ≡ 0 → i + length more ≤ j

all_on : (a n c : ℕ) → ons (a + (n + c)) ≡ ons a ++ (ons n ++ ons c)
all_on a n c = sym (ap (λ fs. ons a ++ fs) (replicate-append-replicate n c true) ∙ replicate-append-replicate a (n + c) true)

-- where none touch, they begin and end at the places
bare : (first last : ℕ) (touching : List Range) → length touching ≡ 0 → (begin_of touching first ≡ first) × (top touching last ≡ last)
bare first last [] e = (refl, refl)
bare first last (r ∷ ranges) e = absurd (omega arith)

none_or_some : (n : ℕ) → (n ≡ 0) ⊎ (0 < n)
none_or_some zero = inl refl
none_or_some (suc n) = inr (omega arith)

-- no more of them than may be
room : (i j n b t : ℕ) (first last : ℕ) (touching : List Range) → i + length touching ≡ j → n ≤ 1 → (begin_of touching first ≡ first → top touching last ≡ last → n ≡ 0) → i + n ≤ j
room i j n b t first last touching l few none = by (none_or_some (length touching))
  where
    by : (length touching ≡ 0) ⊎ (0 < length touching) → i + n ≤ j
    by (inl z) = let at = bare first last touching z in omega (arith, none at.0 at.1)
    by (inr s) = omega arith

room_two : (i j n : ℕ) (first last : ℕ) (touching : List Range) → i + length touching ≡ j → n ≤ 2 → (begin_of touching first ≡ first → top touching last ≡ last → n ≡ 0) → i + n ≤ j + 1
room_two i j n first last touching l few none = by (none_or_some (length touching))
  where
    by : (length touching ≡ 0) ⊎ (0 < length touching) → i + n ≤ j + 1
    by (inl z) = let at = bare first last touching z in omega (arith, none at.0 at.1)
    by (inr s) = omega arith

pub fits : (len first last count : ℕ) (value : Bool) (i j : ℕ) (fronts touching backs : List Range) → first ≤ last → Parts len first last fronts touching backs → i + length touching ≡ j
    → Fits first last count value i j touching (unless_empty (two_of (begin_of touching first) (top touching last - last + (first + count)) (untagged first (first + count) (top touching last - last + (first + count)) value)))
fits len first last count value i j fronts touching backs e p l = by value (first == first + count) refl
  where
    b : ℕ
    b = begin_of touching first

    t : ℕ
    t = top touching last

    t2 : ℕ
    t2 = top touching last - last + (first + count)

    fit : Bool → ℕ × ℕ → Type 0
    fit v at = Fits first last count v i j touching (unless_empty (two_of b t2 at))

    merged : (v : Bool) → ons (t2 - b) ≡ ons (first - b) ++ (replicate count v ++ ons (t - last)) → fit v (t2, t2)
    merged v same =
        let inside : b ≤ t2 = omega (arith, p.begins, p.ends) in
        let w = one_filled b t2 inside in
        record {
          fill = record { apart = w.0; flags = w.1 ∙ same };
          one = omega (arith, w.2, l);
          none = λ z. room i j (length (unless_empty (two_of b t2 (t2, t2)))) b t first last touching l w.2 (λ f g. w.3 (omega (arith, f, g, z)));
        }

    by : (v c : Bool) → (first == first + count) ≡ c → fit v (if v || c then (t2, t2) else (first, first + count))
    by true c f =
        let sum : t2 - b ≡ (first - b) + (count + (t - last)) = omega (arith, p.begins, p.ends) in
        merged true (ap ons sum ∙ all_on (first - b) count (t - last))
    by false true f =
        let zero_more : count ≡ 0 = grind (arith, nat_tests) in
        let sum : t2 - b ≡ (first - b) + (t - last) = omega (arith, p.begins, p.ends) in
        merged false (
        ap ons sum
        ∙ sym (replicate-append-replicate (first - b) (t - last) true)
        ∙ sym (ap (λ n. ons (first - b) ++ (offs n ++ ons (t - last))) zero_more)
        )
    by false false f =
        let some : 0 < count = grind (arith, nat_tests) in
        let w = two_filled b first (first + count) t2 p.begins (omega arith) (omega (arith, p.ends)) in
        let counts : (first + count) - first ≡ count = omega arith in
        let rest : t2 - (first + count) ≡ t - last = omega arith in
        record {
          fill = record {
            apart = w.0;
            flags = w.1 ∙ ap (λ n. ons (first - b) ++ (offs n ++ ons (t2 - (first + count)))) counts ∙ ap (λ n. ons (first - b) ++ (offs count ++ ons n)) rest;
          };
          one = room_two i j (length (unless_empty (two_of b t2 (first, first + count)))) first last touching l w.2 (λ g h. w.3 g (omega (arith, g, h)));
          none = λ z. absurd (omega arith);
        }

-- ---- all of it

-- those that touch what lies between two places
abbrev pub near_of : ℕ → ℕ → List Range → List Range
near_of first last ranges = take (beginning_up_to last ranges - ending_before first ranges) (drop (ending_before first ranges) ranges)

-- where they end, when so many characters came in the place of others
abbrev pub end_for : ℕ → ℕ → ℕ → List Range → ℕ
end_for first last count ranges = end_of (near_of first last ranges) last - last + (first + count)

-- the two ranges that are put in their place
abbrev pub put_for : ℕ → ℕ → ℕ → Bool → List Range → List Range
put_for first last count value ranges = two_of (begin_of (near_of first last ranges) first) (end_for first last count ranges) (untagged first (first + count) (end_for first last count ranges) value)

-- what becomes of all
abbrev pub all_for : ℕ → ℕ → ℕ → Bool → List Range → List Range
all_for first last count value ranges = take (ending_before first ranges) ranges ++ (unless_empty (put_for first last count value ranges) ++ map (moved last (first + count)) (drop (beginning_up_to last ranges) ranges))

pub record Put (len first last count : ℕ) (value : Bool) (ranges : List Range) : Type 0 where
  pub order : ending_before first ranges ≤ beginning_up_to last ranges
  pub bound : last ≤ end_of (near_of first last ranges) last
  pub inside : end_of (near_of first last ranges) last ≤ len
  pub one : ending_before first ranges + length (unless_empty (put_for first last count value ranges)) ≤ beginning_up_to last ranges + 1
  pub none : count ≡ 0 → ending_before first ranges + length (unless_empty (put_for first last count value ranges)) ≤ beginning_up_to last ranges
  pub small : len + (first + count) < 2 ^ 63 → AllByRecursion (MayMove last (first + count)) (drop (beginning_up_to last ranges) ranges)
  pub all : Replaced len first last (first + count) (replicate count value) ranges (all_for first last count value ranges)

pub put : (len first last count : ℕ) (value : Bool) (ranges : List Range) → first ≤ last → last ≤ len → AreRanges len None ranges → Put len first last count value ranges
put len first last count value ranges e l h =
    let i = ending_before first ranges in
    let j = beginning_up_to last ranges in
    let rises = apart len ranges h in
    let order = in_order first last 0 (len + 1) ranges e rises in
    let fronts = take i ranges in
    let near = near_of first last ranges in
    let backs = drop j ranges in
    let three = three_parts i j ranges order in
    let both = middle_both first last 0 (len + 1) ranges e rises in
    let p = parts len first last fronts near backs e l (subst (Apart 0 (len + 1)) three rises) (ended first ranges) both.0 both.1 (not_begun last 0 (len + 1) ranges rises) in
    let top_end : end_of near last ≡ top near last = top_is (begin_of near first) (top near last + 1) last near p.near in
    let inside : j ≤ length ranges = prefix_len-le-length (λ r. nat_le r.first last) ranges in
    let room : j - i ≤ length (drop i ranges) = omega (arith, length-drop i ranges) in
    let count_near : i + length near ≡ j = omega (arith, length-take-le (j - i) (drop i ranges) room, order) in
    let f = fits len first last count value i j fronts near backs e p count_near in
    let t2 : top near last - last + (first + count) ≡ end_for first last count ranges = ap (λ n. n - last + (first + count)) (sym top_end) in
    let fit = λ (n : ℕ). Fits first last count value i j near (unless_empty (two_of (begin_of near first) n (untagged first (first + count) n value))) in
    let g = subst fit t2 f in
    let w = replaced len first last (first + count) (replicate count value) fronts near backs (unless_empty (put_for first last count value ranges)) e (omega arith) p g.fill in
    record {
      order = order;
      bound = omega (arith, top_end, p.ends);
      inside = omega (arith, top_end, p.inside);
      one = g.one;
      none = g.none;
      small = λ s. may_move last (first + count) (top near last + 1) (len + 1) backs (omega (arith, p.ends)) (omega arith) p.rear;
      all = subst (λ rs. Replaced len first last (first + count) (replicate count value) rs (all_for first last count value ranges)) (sym three) w;
    }

-- where a range ends stays small
pub small_end : (end last first count len : ℕ) → end ≤ len → last ≤ end → len ≤ 4294967295 → count ≤ last - first + (4294967295 - len) → first ≤ last → end - last + (first + count) < 2 ^ 34
small_end end last first count len a b c d e = omega arith
