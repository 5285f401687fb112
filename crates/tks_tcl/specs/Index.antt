-- The indices of lists and texts (lindex(n), string(n)): N, end and end-N. That there are no others is this
-- project's own rule.
use Rattle.std.specs.Prelude.{ℕ, if◌then◌else◌, List, [], ◌∷◌, length, take, drop, codes, ℤ, pos, negsuc, ◌+ℤ◌, ◌-ℤ◌, Option, Some, None, Result, Ok, Err}
use Rattle.tks_text.specs.Text.{same_text}
use Rattle.tks_text.specs.Integer.{is_space, integer_of}
use Rattle.tks_text.specs.declared.fault.ErrorNumber.TheVariants.{BadIndex, OutOfRange}
use Rattle.tks_text.specs.declared.integer.Range.{Range}
use Rattle.tks_tcl.specs.Cause.{Cause, Fault, after, about, bare}

-- an index counts on from the first member, or back from the last; either is 0
pub data Index : Type 0 where
  FromStart : (n : ℤ) → Index
  FromEnd : (n : ℤ) → Index

-- the error of a text that is no index
abbrev pub bad_index : {X : Type 0} → List ℕ → Result X Cause
bad_index text = Err (Fault (about BadIndex text))

-- what reading the number of an index comes to
abbrev pub number_read : List ℕ → Result (Option ℤ) Range → Result ℤ Cause
number_read text (Ok (Some z)) = Ok z
number_read text (Ok None) = bad_index text
number_read text (Err range) = Err (Fault (bare OutOfRange))

-- the number in the text of an index
abbrev pub number_in : List ℕ → List ℕ → Result ℤ Cause
number_in text numeral = number_read text (integer_of numeral)

-- the number behind `end-`, where no white space may stand before it
abbrev pub number_behind_end : List ℕ → List ℕ → Result ℤ Cause
number_behind_end text [] = bad_index text
number_behind_end text (c ∷ numeral) = if is_space c then bad_index text else number_in text (c ∷ numeral)

-- the index that a text spells
abbrev pub index_in : List ℕ → Result Index Cause
index_in text =
    if same_text text (codes "end") then Ok (FromEnd (pos 0))
    else (if same_text (take 4 text) (codes "end-") then after (number_behind_end text (drop 4 text)) (λ z. Ok (FromEnd z))
    else after (number_in text text) (λ z. Ok (FromStart z)))

-- the place that an index names, counted from 0, among so many members; it need not be there
abbrev pub place : Index → ℕ → ℤ
place (FromStart n) len = n
place (FromEnd n) len = (pos len -ℤ pos 1) -ℤ n

-- how many members stand before a place
abbrev pub before : ℤ → ℕ
before (pos n) = n
before (negsuc n) = 0

-- the members from one index to another, of those that are there
abbrev pub range : {A : Type 0} → Index → Index → List A → List A
range first last l = drop (before (place first (length l))) (take (before (place last (length l) +ℤ pos 1)) l)
