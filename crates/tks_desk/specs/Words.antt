-- The words of a line: single spaces stand between them (this project's own rule).
use Rattle.std.specs.Prelude.{ℕ, suc, nat_le, nat_lt, ◌==◌, Bool, not, is_some, ◌&&◌, if◌then◌else◌, List, take, drop, position, length, Option, Some, None, option_map}
use Rattle.std.specs.Char.{is_digit}
use Rattle.std.specs.List.{prefix_len}
use Rattle.std.specs.Str.Parse.{digits_value}
use Rattle.tks_desk.specs.declared.words.Pointed.{Pointed}
use Rattle.tks_desk.specs.declared.words.Pointed.TheVariants.{Unread, Beyond, At}

-- where the first space stands
abbrev pub space_in : List ℕ → Option ℕ
space_in text = position (λ c. c == 32) text

-- what stands before the first space, and what stands behind it
abbrev pub split_word : List ℕ → Option (List ℕ × List ℕ)
split_word text = option_map (λ n. (take n text, drop (suc n) text)) (space_in text)

-- a word: neither empty nor with a space in it
abbrev pub is_word : List ℕ → Bool
is_word text = nat_lt 0 (length text) && not (is_some (space_in text))

-- a number: 1 to 19 decimal digits
abbrev pub is_number : List ℕ → Bool
is_number word = nat_lt 0 (length word) && nat_le (length word) 19 && (prefix_len (λ c. is_digit c 10) word == length word)

abbrev pub number_in : List ℕ → Option ℕ
number_in word = if is_number word then Some (digits_value 10 word) else None

-- ---- a button, a column, a row

-- whether an input can hold them
abbrev pub may_point : ℕ → ℕ → ℕ → Bool
may_point button x y = nat_le button 255 && nat_le x 65_535 && nat_le y 65_535

abbrev pub point : Option ℕ → Option ℕ → Option ℕ → Pointed
point (Some button) (Some x) (Some y) = if may_point button x y then At button x y else Beyond
point button x y = Unread

-- a column and a row, behind a button's number
abbrev pub cell_behind : Option ℕ → Option (List ℕ × List ℕ) → Pointed
cell_behind button None = Unread
cell_behind button (Some words) = point button (number_in words.0) (number_in words.1)

abbrev pub button_before : Option (List ℕ × List ℕ) → Pointed
button_before None = Unread
button_before (Some words) = cell_behind (number_in words.0) (split_word words.1)

-- three numbers
abbrev pub pointed_in : List ℕ → Pointed
pointed_in text = button_before (split_word text)
