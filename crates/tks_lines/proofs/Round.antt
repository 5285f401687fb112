-- What comes in and goes out again.
use Rattle.std.proofs.Common.{◌≡◌, ℕ, zero, suc, ◌+◌, ◌-◌, ◌≤◌, nat_le, min, max, Bool, true, false, if◌then◌else◌, List, [], ◌∷◌, ◌++◌, length, take, drop, map, refl, sym, ap, ◌∙◌, arith}
use Rattle.std.specs.Prelude.{replicate}
use Rattle.std.specs.List.{AllByRecursion}
use Rattle.std.proofs.lemmas.Bool.Decides.{nat_tests}
use Rattle.std.proofs.lemmas.List.{length-take-le, length-replicate, drop-drop, drop_at, take-append-drop}
use Rattle.std.proofs.Math.Seq.{take-append_seam}
use Rattle.tks_lines.specs.declared.parts.Tag.{Tag}
use Rattle.tks_lines.specs.declared.parts.Mark.{Mark}
use Rattle.tks_lines.specs.Lines.{Lines, Formed, AreLong, is_editable, at_most_last, spliced, cut, put_in, inserted, deleted, grown, shrunk, is_around, is_among, goes_on, moved_on, moved_back}
use Rattle.tks_lines.specs.Laws.{in_and_out}

-- a list with more in it, and without it again
pub same_list : {X : Type 0} (place : ℕ) (more xs : List X) → place ≤ length xs → cut place (place + length more) (spliced place more xs) ≡ xs
same_list place more xs here =
    let last : max place (place + length more) ≡ place + length more = omega arith in
    let front = length-take-le place xs here in
    ap (λ n. take place (spliced place more xs) ++ drop n (spliced place more xs)) last
    ∙ ap (λ t. t ++ drop (place + length more) (spliced place more xs)) (ap (λ n. take n (spliced place more xs)) (sym front) ∙ take-append_seam (take place xs) (more ++ drop place xs))
    ∙ ap (λ t. take place xs ++ t) (sym (drop-drop (length more) place (spliced place more xs)) ∙ ap (drop (length more)) (drop_at (take place xs) (more ++ drop place xs) place front) ∙ drop_at more (drop place xs) (length more) refl)
    ∙ take-append-drop place xs

same_flags : (place count : ℕ) (value : Bool) (on : List Bool) → place ≤ length on → cut place (place + count) (spliced place (replicate count value) on) ≡ on
same_flags place count value on here =
    ap (λ n. cut place (place + n) (spliced place (replicate count value) on)) (sym (length-replicate count value)) ∙ same_list place (replicate count value) on here

pub same_tags : (place count len : ℕ) (test : Tag → Bool) (tags : List Tag) → place ≤ len → AreLong len tags → map (shrunk place (place + count)) (map (λ g. grown place count (test g) g) tags) ≡ tags
same_tags place count len test [] here a = refl
same_tags place count len test (g ∷ tags) here a =
    let on = same_flags place count (test g) g.on (omega arith) in
    ap (λ o. (record g { on = o }) ∷ map (shrunk place (place + count)) (map (λ g. grown place count (test g) g) tags)) on
    ∙ ap (λ r. g ∷ r) (same_tags place count len test tags here a.1)

-- a tag that grows by what both sides have, and one that does where it has one of some names
abbrev pub around_grown : ℕ → ℕ → Tag → Tag
around_grown place count g = grown place count (is_around place g) g

abbrev pub among_grown : ℕ → ℕ → List (List ℕ) → Tag → Tag
among_grown place count names g = grown place count (is_among names g) g

-- of tags of which the first so many have grown
pub same_first : (place count n : ℕ) (test : Tag → Bool) (so_far tags : List Tag) → AllByRecursion (λ g. place ≤ length g.on) tags → n ≤ length tags → so_far ≡ map (λ g. grown place count (test g) g) (take n tags) ++ drop n tags
    → map (shrunk place (place + count)) (take n so_far) ++ drop n so_far ≡ tags
same_first place count n test so_far tags a h e = ap (λ gs. map (shrunk place (place + count)) (take n gs) ++ drop n gs) e ∙ of n tags a h
  where
    of : (n : ℕ) (tags : List Tag) → AllByRecursion (λ g. place ≤ length g.on) tags → n ≤ length tags
        → map (shrunk place (place + count)) (take n (map (λ g. grown place count (test g) g) (take n tags) ++ drop n tags)) ++ drop n (map (λ g. grown place count (test g) g) (take n tags) ++ drop n tags) ≡ tags
    of zero tags a h = refl
    of (suc n) [] a h = absurd (omega arith)
    of (suc n) (g ∷ tags) a h =
        let on = same_flags place count (test g) g.on a.0 in
        let rest = of n tags a.1 (omega arith) in
        ap (λ o. (record g { on = o }) ∷ (map (shrunk place (place + count)) (take n (map (λ g. grown place count (test g) g) (take n tags) ++ drop n tags)) ++ drop n (map (λ g. grown place count (test g) g) (take n tags) ++ drop n tags))) on
        ∙ ap (λ r. g ∷ r) rest

behind_place : (place : ℕ) (m : Mark) → goes_on place m ≡ true → place ≤ m.place
behind_place place m e = grind (arith, nat_tests)

before_place : (place : ℕ) (m : Mark) → goes_on place m ≡ false → m.place ≤ place
before_place place m e = grind (arith, nat_tests)

come_back : (place count : ℕ) (m : Mark) → place ≤ m.place → moved_back place (place + count) (record m { place = m.place + count }) ≡ m
come_back place count m h = by (nat_le (m.place + count) place) refl
  where
    by : (b : Bool) → nat_le (m.place + count) place ≡ b
        → (if b then record m { place = m.place + count } else record m { place = (m.place + count) - (min (m.place + count) (place + count) - place) }) ≡ m
    by true e = let same : m.place + count ≡ m.place = grind (arith, nat_tests) in ap (λ n. record m { place = n }) same
    by false e = let same : (m.place + count) - (min (m.place + count) (place + count) - place) ≡ m.place = omega arith in ap (λ n. record m { place = n }) same

stays_back : (place last : ℕ) (m : Mark) → m.place ≤ place → moved_back place last m ≡ m
stays_back place last m h =
    let test : nat_le m.place place ≡ true = grind (arith, nat_tests) in
    ap (λ b. if b then m else record m { place = m.place - (min m.place last - place) }) test

same_mark : (place count : ℕ) (m : Mark) → moved_back place (place + count) (moved_on place count m) ≡ m
same_mark place count m = by (goes_on place m) refl
  where
    by : (b : Bool) → goes_on place m ≡ b → moved_back place (place + count) (if b then record m { place = m.place + count } else m) ≡ m
    by true e = come_back place count m (behind_place place m e)
    by false e = stays_back place (place + count) m (before_place place m e)

same_marks : (place count : ℕ) (marks : List Mark) → map (moved_back place (place + count)) (map (moved_on place count) marks) ≡ marks
same_marks place count [] = refl
same_marks place count (m ∷ marks) =
    ap (λ n. n ∷ map (moved_back place (place + count)) (map (moved_on place count) marks)) (same_mark place count m) ∙ ap (λ r. m ∷ r) (same_marks place count marks)

both : (t : Lines) (place : ℕ) (more : List ℕ) → Formed t → place ≤ length t.text
    → record t { text = cut place (place + length more) (spliced place more t.text); tags = map (shrunk place (place + length more)) (map (λ g. grown place (length more) (is_around place g) g) t.tags); marks = map (moved_back place (place + length more)) (map (moved_on place (length more)) t.marks) } ≡ t
both t place more f here =
    let text = same_list place more t.text here in
    let tags = same_tags place (length more) (length t.text) (is_around place) t.tags here f.long in
    let marks = same_marks place (length more) t.marks in
    λ i. record t { text = text i; tags = tags i; marks = marks i }

pub undone : (t : Lines) (place : ℕ) (more : List ℕ) → Formed t → place ≤ length t.text → in_and_out place more t ≡ t
undone t place more f here = by (is_editable t) refl
  where
    by : (b : Bool) → is_editable t ≡ b → in_and_out place more t ≡ t
    by true e =
        let same : min place (length t.text) ≡ place = omega arith in
        let once : inserted place more t ≡ put_in place more (is_around place) t =
        ap (λ b. if b then put_in (at_most_last t place) more (is_around (at_most_last t place)) t else t) e ∙ ap (λ p. put_in p more (is_around p) t) same in
        ap (deleted place (place + length more)) once
        ∙ ap (λ b. if b then record t { text = cut place (place + length more) (spliced place more t.text); tags = map (shrunk place (place + length more)) (map (λ g. grown place (length more) (is_around place g) g) t.tags); marks = map (moved_back place (place + length more)) (map (moved_on place (length more)) t.marks) } else put_in place more (is_around place) t) e
        ∙ both t place more f here
    by false e =
        let once : inserted place more t ≡ t = ap (λ b. if b then put_in (at_most_last t place) more (is_around (at_most_last t place)) t else t) e in
        ap (deleted place (place + length more)) once
        ∙ ap (λ b. if b then record t { text = cut place (place + length more) t.text; tags = map (shrunk place (place + length more)) t.tags; marks = map (moved_back place (place + length more)) t.marks } else t) e
