-- Numbers that are read as far as 64 bits go name the same place as they are, and modifiers stay inside the text.
use Rattle.std.proofs.Common.{◌≡◌, ℕ, zero, suc, ◌+◌, ◌-◌, ◌^◌, ◌<◌, ◌≤◌, ◌==◌, min, Bool, true, false, if◌then◌else◌, List, [], ◌∷◌, length, drop, Option, Some, None, refl, sym, ap, ◌∙◌, ◌⊎◌, inl, inr, arith}
use Rattle.std.specs.List.{prefix_len}
use Rattle.std.proofs.lemmas.Bool.{cases_lt}
use Rattle.std.proofs.lemmas.Bool.Decides.{nat_tests}
use Rattle.std.proofs.lemmas.List.{length-take, length-append, length-drop}
use Rattle.std.proofs.lemmas.List.Sums.{prefix_len-le-length, count_by-le-length}
use Rattle.std.specs.Prelude.{take}
use Rattle.tks_lines.specs.declared.modifier.Step.{Step}
use Rattle.tks_lines.specs.declared.modifier.Modifier.{Modifier}
use Rattle.tks_lines.specs.declared.modifier.Modifier.TheVariants as modifier
use Rattle.tks_lines.specs.Places.{is_newline, is_inner, with_newline, end_place, lines_before, column_of, within_line, place_at, place_of_line, along, changed}
use Rattle.tks_lines.proofs.Far.{far_line}

-- a number as it is read
abbrev pub as_read : ℕ → ℕ
as_read n = min n (2 ^ 64 - 1)

abbrev pub column_read : Option ℕ → Option ℕ
column_read None = None
column_read (Some n) = Some (as_read n)

abbrev pub step_read : Step → Step
step_read s = record s { count = as_read s.count }

abbrev pub modifier_read : Modifier → Modifier
modifier_read (modifier.Chars s) = modifier.Chars (step_read s)
modifier_read (modifier.Lines s) = modifier.Lines (step_read s)
modifier_read modifier.LineStart = modifier.LineStart
modifier_read modifier.LineEnd = modifier.LineEnd

-- ---- lines and columns

kept_within : (column : Option ℕ) (len : ℕ) → len < 2 ^ 64 → within_line (column_read column) len ≡ within_line column len
kept_within None len h = refl
kept_within (Some n) len h = omega arith

kept_column : (text : List ℕ) (lines : ℕ) (column : Option ℕ) → length text < 2 ^ 63 → place_at text lines (column_read column) ≡ place_at text lines column
kept_column [] zero column h = kept_within column 0 (omega arith)
kept_column (c ∷ text) zero column h = kept_within column (prefix_len is_inner (c ∷ text)) (omega (arith, prefix_len-le-length is_inner (c ∷ text)))
kept_column [] (suc lines) column h = refl
kept_column (c ∷ text) (suc lines) column h = ap suc (kept_column text (if is_newline c then lines else suc lines) column (omega arith))

kept_at : (text : List ℕ) (k n : ℕ) (column : Option ℕ) → length text < 2 ^ 63 → (k ≡ n) ⊎ ((length text < k) × (length text < n)) → place_at text k column ≡ place_at text n column
kept_at text k n column h (inl e) = ap (λ i. place_at text i column) e
kept_at text k n column h (inr far) = far_line text k column far.0 ∙ sym (far_line text n column far.1)

cut_or_far : (len n : ℕ) → len < 2 ^ 63 → (as_read n - 1 ≡ n - 1) ⊎ ((len < as_read n - 1) × (len < n - 1))
cut_or_far len n h = by (cases_lt (2 ^ 64 - 1) n)
  where
    by : (2 ^ 64 - 1 < n) ⊎ (n ≤ 2 ^ 64 - 1) → (as_read n - 1 ≡ n - 1) ⊎ ((len < as_read n - 1) × (len < n - 1))
    by (inl g) = inr (omega arith, omega arith)
    by (inr g) = inl (omega arith)

same_zero : (n : ℕ) → (as_read n == 0) ≡ (n == 0)
same_zero zero = refl
same_zero (suc n) =
    let a : (as_read (suc n) == 0) ≡ false = (let some : 0 < as_read (suc n) = omega arith in grind (arith, nat_tests)) in
    let b : (suc n == 0) ≡ false = grind (arith, nat_tests) in
    a ∙ sym b

pub kept_place : (text : List ℕ) (line : ℕ) (column : Option ℕ) → length text < 2 ^ 63 → place_of_line text (as_read line) (column_read column) ≡ place_of_line text line column
kept_place text line column h =
    ap (λ b. if b then 0 else place_at text (as_read line - 1) (column_read column)) (same_zero line)
    ∙ ap (λ p. if line == 0 then 0 else p) (kept_column text (as_read line - 1) column h ∙ kept_at text (as_read line - 1) (line - 1) column h (cut_or_far (length text) line h))

-- ---- modifiers

lines_small : (text : List ℕ) (place : ℕ) → lines_before text place ≤ length text + 1
lines_small text place = omega (arith, count_by-le-length is_newline (take place (with_newline text)), length-take place (with_newline text), length-append text (10 ∷ []))

kept_chars : (s : Step) (place len : ℕ) → len < 2 ^ 63 → place ≤ len + 1 → min (along (step_read s) place) (len + 1) ≡ min (along s place) (len + 1)
kept_chars s place len h k = by s.back
  where
    by : (b : Bool) → min (if b then place - as_read s.count else place + as_read s.count) (len + 1) ≡ min (if b then place - s.count else place + s.count) (len + 1)
    by true = omega arith
    by false = omega arith

-- so many lines on or back
abbrev gone : Bool → ℕ → ℕ → ℕ
gone back count lines = if back then lines - count else lines + count

kept_by : (back : Bool) (count lines len : ℕ) → len < 2 ^ 63 → lines ≤ len + 1 → (2 ^ 64 - 1 < count) ⊎ (count ≤ 2 ^ 64 - 1)
    → (gone back (as_read count) lines ≡ gone back count lines) ⊎ ((len < gone back (as_read count) lines) × (len < gone back count lines))
kept_by true count lines len h k (inl g) = inl (omega arith)
kept_by true count lines len h k (inr g) = inl (omega arith)
kept_by false count lines len h k (inl g) = inr (omega arith, omega arith)
kept_by false count lines len h k (inr g) = inl (omega arith)

kept_lines : (s : Step) (lines len : ℕ) → len < 2 ^ 63 → lines ≤ len + 1 → (along (step_read s) lines ≡ along s lines) ⊎ ((len < along (step_read s) lines) × (len < along s lines))
kept_lines s lines len h k = kept_by s.back s.count lines len h k (cases_lt (2 ^ 64 - 1) s.count)

pub kept_changed : (text : List ℕ) (place : ℕ) (m : Modifier) → length text < 2 ^ 63 → place ≤ end_place text → changed text place (modifier_read m) ≡ changed text place m
kept_changed text place (modifier.Chars s) h k = kept_chars s place (length text) h k
kept_changed text place (modifier.Lines s) h k =
    kept_at text (along (step_read s) (lines_before text place)) (along s (lines_before text place)) (Some (column_of text place)) h (kept_lines s (lines_before text place) (length text) h (lines_small text place))
kept_changed text place modifier.LineStart h k = refl
kept_changed text place modifier.LineEnd h k = refl

-- ---- inside the text

within_inside : (column : Option ℕ) (len : ℕ) → within_line column len ≤ len
within_inside None len = omega arith
within_inside (Some n) len = omega arith

at_inside : (text : List ℕ) (lines : ℕ) (column : Option ℕ) → place_at text lines column ≤ length text + 1
at_inside [] zero column = omega (arith, within_inside column 0)
at_inside (c ∷ text) zero column = omega (arith, within_inside column (prefix_len is_inner (c ∷ text)), prefix_len-le-length is_inner (c ∷ text))
at_inside [] (suc lines) column = omega arith
at_inside (c ∷ text) (suc lines) column = omega (arith, at_inside text (if is_newline c then lines else suc lines) column)

pub line_inside : (text : List ℕ) (line : ℕ) (column : Option ℕ) → place_of_line text line column ≤ end_place text
line_inside text line column = by (line == 0)
  where
    by : (b : Bool) → (if b then 0 else place_at text (line - 1) column) ≤ length text + 1
    by true = omega arith
    by false = at_inside text (line - 1) column

pub changed_inside : (text : List ℕ) (place : ℕ) (m : Modifier) → place ≤ end_place text → changed text place m ≤ end_place text
changed_inside text place (modifier.Chars s) h = omega arith
changed_inside text place (modifier.Lines s) h = at_inside text (along s (lines_before text place)) (Some (column_of text place))
changed_inside text place modifier.LineStart h = omega arith
changed_inside text place modifier.LineEnd h = omega (arith, prefix_len-le-length is_inner (drop place text), length-drop place text)
