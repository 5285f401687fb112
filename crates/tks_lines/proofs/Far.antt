-- Lines past the last.
use Rattle.std.proofs.Common.{◌≡◌, ℕ, zero, suc, ◌+◌, ◌-◌, ◌^◌, ◌<◌, ◌≤◌, min, Bool, true, false, if◌then◌else◌, List, [], ◌∷◌, length, Option, sym, refl, ap, ◌∙◌, ◌⊎◌, inl, inr, arith}
use Rattle.std.proofs.lemmas.Bool.{cases_lt}
use Rattle.std.specs.List.{prefix_len}
use Rattle.tks_lines.specs.Places.{is_newline, is_inner, within_line, place_at}

behind_char : (n : ℕ) (b : Bool) (text : List ℕ) (lines : ℕ) (column : Option ℕ) → ((l : ℕ) → length text < l → place_at text l column ≡ length text + 1) → suc (length text) < suc lines
    → suc (place_at text (if b then lines else suc lines) column) ≡ suc (length text) + 1
behind_char n true text lines column rest h = let e = rest lines (omega arith) in omega arith
behind_char n false text lines column rest h = let e = rest (suc lines) (omega arith) in omega arith

-- a line with more before it than there are characters is past the last
pub far_line : (text : List ℕ) (lines : ℕ) (column : Option ℕ) → length text < lines → place_at text lines column ≡ length text + 1
far_line text zero column h = absurd (omega arith)
far_line [] (suc lines) column h = omega arith
far_line (c ∷ text) (suc lines) column h = behind_char lines (is_newline c) text lines column (λ l. far_line text l column) (omega arith)

-- so a number that is cut to 64 bits names the same line
pub kept_line : (text : List ℕ) (lines : ℕ) (column : Option ℕ) → length text < 2 ^ 63 → place_at text (min lines (2 ^ 64 - 1)) column ≡ place_at text lines column
kept_line text lines column short = by (cases_lt (2 ^ 64 - 1) lines)
  where
    by : (2 ^ 64 - 1 < lines) ⊎ (lines ≤ 2 ^ 64 - 1) → place_at text (min lines (2 ^ 64 - 1)) column ≡ place_at text lines column
    by (inr h) = let e : min lines (2 ^ 64 - 1) ≡ lines = omega arith in ap (λ n. place_at text n column) e
    by (inl h) = far_line text (min lines (2 ^ 64 - 1)) column (omega arith) ∙ sym (far_line text lines column (omega arith))

-- the line itself
pub this_line : (text : List ℕ) (column : Option ℕ) → place_at text 0 column ≡ within_line column (prefix_len is_inner text)
this_line [] column = refl
this_line (c ∷ text) column = refl
