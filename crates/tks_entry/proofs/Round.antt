-- What comes in and goes out again.
use Rattle.std.proofs.Common.{◌≡◌, ℕ, ◌+◌, ◌^◌, ◌<◌, ◌≤◌, ◌&&◌, nat_lt, min, Bool, true, false, if◌then◌else◌, List, [], ◌∷◌, ◌++◌, length, take, drop, refl, sym, ap, subst, ◌∙◌, arith}
use Rattle.std.proofs.lemmas.Bool.Decides.{nat_tests}
use Rattle.std.proofs.lemmas.List.{length-append, length-take-le, length-drop, drop-drop, drop_at, take-append-drop}
use Rattle.std.proofs.Math.Seq.{take-append_seam}
use Rattle.tks_entry.specs.Entry.{Entry, cursor_place, kept_place, is_editable, moved_on, moved_back, put_in, taken_out, deleted}
use Rattle.tks_entry.specs.Laws.{in_and_out, StandsAs}

-- the text with more in it
long : (place : ℕ) (more text : List ℕ) → place ≤ length text → length (take place text ++ (more ++ drop place text)) ≡ length text + length more
long place more text within = omega (arith, length-append (take place text) (more ++ drop place text), length-append more (drop place text), length-take-le place text within, length-drop place text)

-- what is in front of the place
front : (place : ℕ) (text behind : List ℕ) → place ≤ length text → take place (take place text ++ behind) ≡ take place text
front place text behind within = ap (λ n. take n (take place text ++ behind)) (sym (length-take-le place text within)) ∙ take-append_seam (take place text) behind

-- what is behind what came in
back : (place : ℕ) (more text : List ℕ) → place ≤ length text → drop (place + length more) (take place text ++ (more ++ drop place text)) ≡ drop place text
back place more text within =
    sym (drop-drop (length more) place (take place text ++ (more ++ drop place text)))
    ∙ ap (drop (length more)) (drop_at (take place text) (more ++ drop place text) place (length-take-le place text within))
    ∙ drop_at more (drop place text) (length more) refl

-- without what came in
same_text : (place : ℕ) (more text : List ℕ) → place ≤ length text
    → take place (take place text ++ (more ++ drop place text)) ++ drop (place + length more) (take place text ++ (more ++ drop place text)) ≡ text
same_text place more text within =
    ap (λ t. t ++ drop (place + length more) (take place text ++ (more ++ drop place text))) (front place text (more ++ drop place text) within)
    ∙ ap (λ t. take place text ++ t) (back place more text within) ∙ take-append-drop place text

-- the cursor goes as far back as it went on
same_cursor : (place count cursor long : ℕ) → cursor ≤ long → long + count < 2 ^ 32
    → moved_back place (place + count) (min (kept_place (moved_on place count cursor)) (long + count)) ≡ cursor
same_cursor place count cursor long within short = grind (arith, nat_tests)

none_out : (first last : ℕ) (e : Entry) → last ≤ first → deleted first last e ≡ e
none_out first last e none =
    let test : nat_lt first (min last (length e.text)) ≡ false = grind (arith, nat_tests) in
    ap (λ b. if b && is_editable e then taken_out first (min last (length e.text)) e else e) test

not_out : (first last : ℕ) (e : Entry) → is_editable e ≡ false → deleted first last e ≡ e
not_out first last e kept = by (nat_lt first (min last (length e.text))) ∙ ap (λ b. if b then taken_out first (min last (length e.text)) e else e) kept
  where
    by : (b : Bool) → (if b && is_editable e then taken_out first (min last (length e.text)) e else e) ≡ (if is_editable e then taken_out first (min last (length e.text)) e else e)
    by true = refl
    by false = ap (λ b. if b then taken_out first (min last (length e.text)) e else e) (sym kept)

some_out : (first last : ℕ) (e : Entry) → first < last → last ≤ length e.text → is_editable e ≡ true → deleted first last e ≡ taken_out first last e
some_out first last e some within free =
    let least : min last (length e.text) ≡ last = omega arith in
    let test : nat_lt first last ≡ true = grind (arith, nat_tests) in
    ap (λ m. if nat_lt first m && is_editable e then taken_out first m e else e) least
    ∙ ap (λ b. if b && is_editable e then taken_out first last e else e) test
    ∙ ap (λ b. if b then taken_out first last e else e) free

-- in an entry that may be changed
both : (e : Entry) (place : ℕ) (more : List ℕ) → place ≤ length e.text → length e.text + length more < 2 ^ 32
    → StandsAs e (taken_out place (place + length more) (put_in place more e))
both e place more within short =
    let here = same_cursor place (length more) (cursor_place e) (length e.text) (omega arith) short in (
      same_text place more e.text within,
      ap (λ n. min (moved_back place (place + length more) (min (kept_place (moved_on place (length more) (cursor_place e))) n)) (length (taken_out place (place + length more) (put_in place more e)).text)) (long place more e.text within)
          ∙ ap (λ n. min n (length (taken_out place (place + length more) (put_in place more e)).text)) here
          ∙ ap (λ t. min (cursor_place e) (length t)) (same_text place more e.text within) ∙ omega arith,
    )

pub stands_as_before : (e : Entry) (place : ℕ) (more : List ℕ) → place ≤ length e.text → length e.text + length more < 2 ^ 32 → StandsAs e (in_and_out place more e)
stands_as_before e place [] within short = subst (StandsAs e) (sym (none_out place (place + 0) e (omega arith))) (refl, refl)
stands_as_before e place (c ∷ more) within short = by (is_editable e) refl
  where
    by : (b : Bool) → is_editable e ≡ b → StandsAs e (in_and_out place (c ∷ more) e)
    by false kept =
        subst (StandsAs e) (sym (ap (λ b. deleted place (place + length (c ∷ more)) (if b then put_in place (c ∷ more) e else e)) kept ∙ not_out place (place + length (c ∷ more)) e kept)) (refl, refl)
    by true free =
        subst (StandsAs e) (sym (ap (λ b. deleted place (place + length (c ∷ more)) (if b then put_in place (c ∷ more) e else e)) free
        ∙ some_out place (place + length (c ∷ more)) (put_in place (c ∷ more) e) (omega arith) (omega (arith, long place (c ∷ more) e.text within)) free))
        (both e place (c ∷ more) within short)
