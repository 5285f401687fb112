-- An index as it is told is read as the place it tells.
use Rattle.std.proofs.Common.{◌≡◌, ℕ, ◌+◌, ◌-◌, ◌^◌, ◌<◌, ◌≤◌, ◌==◌, ◌&&◌, min, Bool, true, false, if◌then◌else◌, List, [], ◌∷◌, ◌++◌, length, take, drop, Option, Some, None, refl, sym, ap, ◌∙◌, arith, append-nil, length-append}
use Rattle.std.specs.Prelude.{codes}
use Rattle.std.proofs.lemmas.Bool.Decides.{nat_tests}
use Rattle.std.proofs.lemmas.Grind.{common_steps}
use Rattle.std.proofs.lemmas.Fmt.{decimal_is_IsNumeral}
use Rattle.std.proofs.lemmas.Str.Parse.{digit_from_value}
use Rattle.std.proofs.lemmas.List.Sums.{count_by-le-length, suffix_len-le-length}
use Rattle.std.proofs.lemmas.List.{length-take}
use Rattle.std.proofs.Math.Seq.{take-append_seam, drop-append_seam}
use Rattle.std.specs.Char.{digit_value, is_digit}
use Rattle.std.specs.Fmt.{decimal}
use Rattle.std.specs.List.{prefix_len}
use Rattle.std.specs.Option.{option_map}
use Rattle.std.specs.Str.Parse.{AllDigits, digits_value}
use Rattle.tks_text.specs.Integer.{is_space}
use Rattle.tks_text.specs.Text.{same_text, BeginsNot}
use Rattle.tks_text.proofs.Prefixes.{Pass, prefix_of}
use Rattle.tks_lines.specs.Places.{is_newline, is_inner, with_newline, end_place, lines_before, column_of, place_at, place_of_line}
use Rattle.tks_lines.specs.Indices.{digits_len, number_at, column_at, behind_dot, line_column, numbered, if_at_end, or_else, named, based, index_place}
use Rattle.tks_lines.specs.IndexText.{is_minus}
use Rattle.tks_lines.specs.Lines.{Lines}
use Rattle.tks_lines.specs.Commands.{spelled}
use Rattle.tks_lines.proofs.Returning.{leads_back}

abbrev is_decimal : ℕ → Bool
is_decimal c = is_digit c 10

-- digits, and what they begin with
digit_passes : (c : ℕ) → digit_value c < 10 → is_digit c 10 ≡ true
digit_passes c h = grind (arith, common_steps)

digits_pass : (ds : List ℕ) → AllDigits 10 ds → Pass is_decimal ds
digits_pass [] h = tt
digits_pass (c ∷ ds) h = (digit_passes c h.0, digits_pass ds h.1)

no_minus : (c : ℕ) → digit_value c < 10 → is_minus c ≡ false
no_minus c h = let r = digit_from_value c h in grind (arith, nat_tests)

no_e : (c : ℕ) → digit_value c < 10 → (c == 101) ≡ false
no_e c h = let r = digit_from_value c h in grind (arith, nat_tests)

-- how many digits there are, and which number they write
len_of : (ds rest : List ℕ) → AllDigits 10 ds → BeginsNot is_decimal rest → digits_len (ds ++ rest) ≡ length ds
len_of ds rest d b = prefix_of is_decimal ds rest (digits_pass ds d) b

number_of : (n : ℕ) (rest : List ℕ) → n < 2 ^ 64 → BeginsNot is_decimal rest → number_at (decimal n ++ rest) ≡ n
number_of n rest small b =
    let num = decimal_is_IsNumeral n small in
    ap (λ k. min (digits_value 10 (take k (decimal n ++ rest))) (2 ^ 64 - 1)) (len_of (decimal n) rest num.0.1 b)
    ∙ ap (λ ds. min (digits_value 10 ds) (2 ^ 64 - 1)) (take-append_seam (decimal n) rest)
    ∙ ap (λ v. min v (2 ^ 64 - 1)) num.1 ∙ omega arith

-- a column in digits
no_end : (ds : List ℕ) → 0 < length ds → AllDigits 10 ds → same_text (take 3 ds) (codes "end") ≡ false
no_end [] some d = absurd (omega arith)
no_end (c ∷ ds) some d = ap (λ b. b && same_text (take 2 ds) (codes "nd")) (no_e c d.0)

column_told : (n : ℕ) → n < 2 ^ 64 → column_at (decimal n) ≡ Some (Some n, length (decimal n))
column_told n small =
    let num = decimal_is_IsNumeral n small in
    let len : digits_len (decimal n) ≡ length (decimal n) = ap digits_len (sym (append-nil (decimal n))) ∙ len_of (decimal n) [] num.0.1 tt in
    let value : number_at (decimal n) ≡ n = ap number_at (sym (append-nil (decimal n))) ∙ number_of n [] small tt in
    let some : (digits_len (decimal n) == 0) ≡ false = grind (arith, nat_tests) in
    ap (λ b. if b then Some (None, 3) else (if digits_len (decimal n) == 0 then None else Some (Some (number_at (decimal n)), digits_len (decimal n)))) (no_end (decimal n) num.0.0 num.0.1)
    ∙ ap (λ b. if b then None else Some (Some (number_at (decimal n)), digits_len (decimal n))) some
    ∙ ap (λ v. Some (Some v, digits_len (decimal n))) value ∙ ap (λ k. Some (Some n, k)) len

-- a line and a column
both_told : (line column : ℕ) → line < 2 ^ 64 → column < 2 ^ 64 → line_column (decimal line ++ 46 ∷ decimal column) ≡ Some (line, Some column, length (decimal line) + (length (decimal column) + 1))
both_told line column h k =
    let num = decimal_is_IsNumeral line h in
    let word = decimal line ++ 46 ∷ decimal column in
    let len : digits_len word ≡ length (decimal line) = len_of (decimal line) (46 ∷ decimal column) num.0.1 refl in
    let value : number_at word ≡ line = number_of line (46 ∷ decimal column) h refl in
    let some : (digits_len word == 0) ≡ false = grind (arith, nat_tests) in
    let rest : drop (digits_len word) word ≡ 46 ∷ decimal column = ap (λ n. drop n word) len ∙ drop-append_seam (decimal line) (46 ∷ decimal column) in
    ap (λ b. if b then None else option_map (λ (x : Option ℕ × ℕ). (number_at word, x.0, digits_len word + x.1)) (behind_dot (drop (digits_len word) word))) some
    ∙ ap (λ t. option_map (λ (x : Option ℕ × ℕ). (number_at word, x.0, digits_len word + x.1)) (behind_dot t)) rest
    ∙ ap (λ o. option_map (λ (x : Option ℕ × ℕ). (number_at word, x.0, digits_len word + x.1)) (option_map (λ (x : Option ℕ × ℕ). (x.0, x.1 + 1)) o)) (column_told column k)
    ∙ ap (λ v. Some (v, Some column, digits_len word + (length (decimal column) + 1))) value
    ∙ ap (λ n. Some (line, Some column, n + (length (decimal column) + 1))) len

-- no sign stands before digits
unsigned : (text ds rest : List ℕ) → 0 < length ds → AllDigits 10 ds → numbered text (ds ++ rest) ≡ option_map (λ (x : ℕ × Option ℕ × ℕ). (place_of_line text x.0 x.1, x.2)) (line_column (ds ++ rest))
unsigned text [] rest some d = absurd (omega arith)
unsigned text (c ∷ ds) rest some d =
    ap (λ b. if b then option_map (λ (x : ℕ × Option ℕ × ℕ). (0, x.2 + 1)) (line_column (ds ++ rest)) else option_map (λ (x : ℕ × Option ℕ × ℕ). (place_of_line text x.0 x.1, x.2)) (line_column (c ∷ ds ++ rest))) (no_minus c d.0)

-- the whole
read_all : (text : List ℕ) (line column : ℕ) → line < 2 ^ 64 → column < 2 ^ 64 → let word = decimal line ++ 46 ∷ decimal column in if_at_end (length word) (numbered text word) ≡ Some (place_of_line text line (Some column))
read_all text line column h k =
    let num = decimal_is_IsNumeral line h in
    let word = decimal line ++ 46 ∷ decimal column in
    let taken = length (decimal line) + (length (decimal column) + 1) in
    let all : (taken == length word) ≡ true = let e : taken ≡ length word = omega (arith, length-append (decimal line) (46 ∷ decimal column)) in grind (arith, nat_tests) in
    ap (if_at_end (length word)) (unsigned text (decimal line) (46 ∷ decimal column) num.0.0 num.0.1 ∙ ap (option_map (λ (x : ℕ × Option ℕ × ℕ). (place_of_line text x.0 x.1, x.2))) (both_told line column h k))
    ∙ ap (λ b. if b then Some (place_of_line text line (Some column)) else None) all

pub spelled_names : (t : Lines) (place : ℕ) → length t.text < 2 ^ 63 → place ≤ end_place t.text → index_place t (spelled t.text place) ≡ Some place
unfolding index_place
spelled_names t place short h =
    let lines : lines_before t.text place ≤ length t.text + 1 = omega (arith, count_by-le-length is_newline (take place (with_newline t.text)), length-take place (with_newline t.text), length-append t.text (10 ∷ [])) in
    let column : column_of t.text place ≤ length t.text + 1 = omega (arith, suffix_len-le-length is_inner (take place (with_newline t.text)), length-take place (with_newline t.text), length-append t.text (10 ∷ [])) in
    let line = lines_before t.text place + 1 in
    let some : (line == 0) ≡ false = grind (arith, nat_tests) in
    let one : line - 1 ≡ lines_before t.text place = omega arith in
    let word = spelled t.text place in
    ap (λ o. or_else o (or_else (named t word) (based t (drop (prefix_len is_space word) word)))) (read_all t.text line (column_of t.text place) (omega arith) (omega arith))
    ∙ ap (λ b. Some (if b then 0 else place_at t.text (line - 1) (Some (column_of t.text place)))) some
    ∙ ap (λ n. Some (place_at t.text n (Some (column_of t.text place)))) one
    ∙ ap Some (leads_back t.text place h)
