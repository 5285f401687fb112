-- The text of a checkbutton's block.
use Rattle.std.proofs.Common.{◌≡◌, ℕ, ◌<◌, ◌≤◌, Bool, true, false, ◌==◌, List, [], ◌∷◌, ◌++◌, length, drop, if◌then◌else◌, refl, sym, ap, ◌∙◌, arith}
use Rattle.std.specs.Prelude.{map}
use Rattle.std.specs.List.{onto_first}
use Rattle.std.proofs.lemmas.List.{append-nil, drop_all}
use Rattle.std.proofs.lemmas.List.Splits.{length-slice_split}
use Rattle.tks_button.specs.Block.{lines}
use Rattle.tks_button.specs.Checkbutton.{mark, indent, marked}

-- a text with spaces behind each newline
abbrev pub indented : List ℕ → List ℕ
indented [] = []
indented (c ∷ text) = if c == 10 then c ∷ (indent ++ indented text) else c ∷ indented text

-- its lines, by those of the text
abbrev but_first : List (List ℕ) → List (List ℕ)
but_first [] = []
but_first (line ∷ others) = line ∷ map (λ other. indent ++ other) others

pub some_line : (text : List ℕ) → 0 < length (lines text)
some_line text = omega (arith, length-slice_split (λ b. b == 10) text)

behind_newline : (ls : List (List ℕ)) → 0 < length ls → onto_first 32 (onto_first 32 (onto_first 32 (onto_first 32 (but_first ls)))) ≡ map (λ other. indent ++ other) ls
behind_newline [] some = absurd (omega arith)
behind_newline (line ∷ others) some = refl

behind_other : (c : ℕ) (ls : List (List ℕ)) → onto_first c (but_first ls) ≡ but_first (onto_first c ls)
behind_other c [] = refl
behind_other c (line ∷ others) = refl

lines_indented : (text : List ℕ) → lines (indented text) ≡ but_first (lines text)
lines_indented [] = refl
lines_indented (c ∷ text) = by (c == 10) refl (lines_indented text)
  where
    by : (b : Bool) → (c == 10) ≡ b → lines (indented text) ≡ but_first (lines text) → lines (if b then c ∷ (indent ++ indented text) else c ∷ indented text) ≡ but_first (if b then [] ∷ lines text else onto_first c (lines text))
    by true e ih =
        ap (λ d. if d then [] ∷ lines (indent ++ indented text) else onto_first c (lines (indent ++ indented text))) e
        ∙ ap (λ ls. [] ∷ onto_first 32 (onto_first 32 (onto_first 32 (onto_first 32 ls)))) ih
        ∙ ap (λ ls. [] ∷ ls) (behind_newline (lines text) (some_line text))
    by false e ih =
        ap (λ d. if d then [] ∷ lines (indented text) else onto_first c (lines (indented text))) e
        ∙ ap (onto_first c) ih
        ∙ behind_other c (lines text)

first_marked : (on : Bool) (ls : List (List ℕ)) → 0 < length ls
    → (if on then onto_first 91 (onto_first 120 (onto_first 93 (onto_first 32 (but_first ls)))) else onto_first 91 (onto_first 32 (onto_first 93 (onto_first 32 (but_first ls)))))
    ≡ marked on ls
first_marked on [] some = absurd (omega arith)
first_marked true (line ∷ others) some = refl
first_marked false (line ∷ others) some = refl

-- the mark, and behind it a text with spaces behind each newline, has the lines of the block
pub lines_marked : (on : Bool) (text : List ℕ) → lines (mark on ++ indented text) ≡ marked on (lines text)
lines_marked true text = ap (λ ls. onto_first 91 (onto_first 120 (onto_first 93 (onto_first 32 ls)))) (lines_indented text) ∙ first_marked true (lines text) (some_line text)
lines_marked false text = ap (λ ls. onto_first 91 (onto_first 32 (onto_first 93 (onto_first 32 ls)))) (lines_indented text) ∙ first_marked false (lines text) (some_line text)

-- once nothing is left of the text
pub all_marked : (on : Bool) (text block : List ℕ) (index : ℕ) → length text ≤ index → block ++ indented (drop index text) ≡ mark on ++ indented text → lines block ≡ marked on (lines text)
all_marked on text block index end so_far = ap lines (sym (append-nil block) ∙ ap (λ rest. block ++ indented rest) (sym (drop_all index text end)) ∙ so_far) ∙ lines_marked on text
