-- Indices (text(n), "INDICES"): a base, `L.C`, `L.end`, `end` or a mark, then modifiers. That keywords are written in full,
-- that white space may stand around each part, and that numbers are decimal, are this project's own rules.
use Rattle.std.specs.Prelude.{ℕ, zero, suc, ◌+◌, ◌-◌, ◌^◌, ◌==◌, ◌||◌, min, not, Bool, false, if◌then◌else◌, List, [], ◌∷◌, length, take, drop, codes, Option, Some, None, option_and_then, Result, Ok, Err}
use Rattle.std.specs.Char.{is_digit}
use Rattle.std.specs.List.{prefix_len}
use Rattle.std.specs.Option.{option_map}
use Rattle.std.specs.Str.Parse.{digits_value}
use Rattle.tks_text.specs.Text.{same_text}
use Rattle.tks_text.specs.Integer.{is_space}
use Rattle.tks_text.specs.Fault.{fault_about}
use Rattle.tks_text.specs.declared.fault.ErrorNumber.TheVariants.{BadIndex}
use Rattle.tks_text.specs.declared.fault.ScriptFault.{ScriptFault}
use Rattle.tks_lines.specs.declared.modifier.Step.{Step}
use Rattle.tks_lines.specs.declared.modifier.Modifier.{Modifier}
use Rattle.tks_lines.specs.declared.modifier.Modifier.TheVariants as modifier
use Rattle.tks_lines.specs.IndexText.{is_minus, is_sign, is_of_word}
use Rattle.tks_lines.specs.Lines.{Lines, mark_named}
use Rattle.tks_lines.specs.Places.{end_place, place_of_line, changed}

-- ---- characters

abbrev pub space_len : List ℕ → ℕ
space_len t = prefix_len is_space t

abbrev pub digits_len : List ℕ → ℕ
digits_len t = prefix_len (λ c. is_digit c 10) t

abbrev pub word_len : List ℕ → ℕ
word_len t = prefix_len is_of_word t

abbrev pub word_at : List ℕ → List ℕ
word_at t = take (word_len t) t

-- the number that the digits at the front write; one that 64 bits don't hold counts as the greatest (texts are shorter)
abbrev pub number_at : List ℕ → ℕ
number_at t = min (digits_value 10 (take (digits_len t) t)) (2 ^ 64 - 1)

-- ---- bases

abbrev pub or_else : {X : Type 0} → Option X → Option X → Option X
or_else None other = other
or_else (Some x) other = Some x

-- a column, or `end` for that of the line's end, and how many bytes it takes
abbrev pub column_at : List ℕ → Option (Option ℕ × ℕ)
column_at t =
    if same_text (take 3 t) (codes "end") then Some (None, 3)
    else (if digits_len t == 0 then None else Some (Some (number_at t), digits_len t))

abbrev pub behind_dot : List ℕ → Option (Option ℕ × ℕ)
behind_dot [] = None
behind_dot (c ∷ t) = if c == 46 then option_map (λ x. (x.0, x.1 + 1)) (column_at t) else None

-- a line and its column, and how many bytes they take
abbrev pub line_column : List ℕ → Option (ℕ × Option ℕ × ℕ)
line_column t = if digits_len t == 0 then None else option_map (λ x. (number_at t, x.0, digits_len t + x.1)) (behind_dot (drop (digits_len t) t))

-- the place that `L.C` or `L.end` at the front names, and how many bytes it takes; L may be below 0
abbrev pub numbered : List ℕ → List ℕ → Option (ℕ × ℕ)
numbered text [] = None
numbered text (c ∷ t) =
    if is_minus c then option_map (λ x. (0, x.2 + 1)) (line_column t)
    else option_map (λ x. (place_of_line text x.0 x.1, x.2)) (line_column (c ∷ t))

-- the place that a name stands for: `end`, or a mark
abbrev pub named : Lines → List ℕ → Option ℕ
named t name = if same_text name (codes "end") then Some (end_place t.text) else option_map (λ m. m.place) (mark_named name t.marks)

-- the place of the base at the front, and how many bytes it takes
unfoldable pub base_at : Lines → List ℕ → Option (ℕ × ℕ)
base_at t word = or_else (numbered t.text word) (option_map (λ p. (p, word_len word)) (named t (word_at word)))

-- ---- modifiers

-- a count: a sign or none, and digits; whether it is below 0, and how many bytes it takes
abbrev pub sign_len : List ℕ → ℕ
sign_len [] = 0
sign_len (c ∷ t) = if is_sign c then 1 else 0

abbrev pub begins_minus : List ℕ → Bool
begins_minus [] = false
begins_minus (c ∷ t) = is_minus c

abbrev pub count_at : List ℕ → Option (Step × ℕ)
count_at t =
    let digits = drop (sign_len t) t in
    if digits_len digits == 0 then None else Some (record { back = begins_minus t; count = number_at digits }, sign_len t + digits_len digits)

abbrev pub is_one_of_three : List ℕ → List ℕ → List ℕ → List ℕ → Bool
is_one_of_three a b c word = same_text word a || (same_text word b || same_text word c)

-- what is counted
abbrev pub unit_named : List ℕ → Step → Option Modifier
unit_named word s =
    if is_one_of_three (codes "c") (codes "char") (codes "chars") word then Some (modifier.Chars s)
    else (if is_one_of_three (codes "l") (codes "line") (codes "lines") word then Some (modifier.Lines s) else None)

abbrev pub edge_named : List ℕ → Option Modifier
edge_named word =
    if same_text word (codes "linestart") then Some modifier.LineStart
    else (if same_text word (codes "lineend") then Some modifier.LineEnd else None)

-- the other direction
abbrev pub turned_back : Bool → Step → Step
turned_back back s = if back then record s { back = not s.back } else s

-- the unit behind a count
abbrev pub unit_at : Step → List ℕ → Option (Modifier × ℕ)
unit_at s t =
    let word = drop (space_len t) t in
    option_map (λ m. (m, space_len t + word_len word)) (unit_named (word_at word) s)

-- the count and the unit behind a sign
unfoldable pub counted : Bool → List ℕ → Option (Modifier × ℕ)
counted back t =
    let number = drop (space_len t) t in
    option_and_then (λ x. option_map (λ y. (y.0, space_len t + x.1 + y.1)) (unit_at (turned_back back x.0) (drop x.1 number))) (count_at number)

-- the modifier at the front, and how many bytes it takes behind its first
unfoldable pub modifier_at : List ℕ → Option (Modifier × ℕ)
modifier_at [] = None
modifier_at (c ∷ t) =
    if is_sign c then counted (is_minus c) t
    else option_map (λ m. (m, word_len (c ∷ t) - 1)) (edge_named (word_at (c ∷ t)))

-- what the front of a text makes of a place: white space nothing, a modifier another; and how many bytes it takes behind
-- its first
abbrev pub step_at : List ℕ → ℕ → List ℕ → Option (ℕ × ℕ)
step_at text place [] = None
step_at text place (c ∷ t) = if is_space c then Some (place, 0) else option_map (λ x. (changed text place x.0, x.1)) (modifier_at (c ∷ t))

abbrev pub go_on : Option (ℕ × ℕ) → (ℕ → ℕ → Option ℕ) → Option ℕ
go_on None next = None
go_on (Some x) next = next x.0 x.1

-- the place that the modifiers in a text make of another, where its first so many bytes are read already
abbrev pub moved : List ℕ → ℕ → ℕ → List ℕ → Option ℕ
moved text place skip [] = Some place
moved text place (suc skip) (c ∷ t) = moved text place skip t
moved text place zero (c ∷ t) = go_on (step_at text place (c ∷ t)) (λ next more. moved text next more t)

-- ---- indices

-- a place, where that was all
abbrev pub if_at_end : ℕ → Option (ℕ × ℕ) → Option ℕ
if_at_end len None = None
if_at_end len (Some x) = if x.1 == len then Some x.0 else None

-- a base, and modifiers behind it
abbrev pub based : Lines → List ℕ → Option ℕ
based t word = option_and_then (λ b. moved t.text b.0 0 (drop b.1 word)) (base_at t word)

-- the place that an index names. A name that is the whole index may have blanks and signs in it
unfoldable pub index_place : Lines → List ℕ → Option ℕ
index_place t word =
    or_else (if_at_end (length word) (numbered t.text word)) (or_else (named t word) (based t (drop (space_len word) word)))

abbrev pub or_bad : List ℕ → Option ℕ → Result ℕ ScriptFault
or_bad word None = Err (fault_about BadIndex word)
or_bad word (Some place) = Ok place

abbrev pub place_in : Lines → List ℕ → Result ℕ ScriptFault
place_in t word = or_bad word (index_place t word)
