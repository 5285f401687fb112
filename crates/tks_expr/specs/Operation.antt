-- What operators give for texts (expr(n), "OPERATORS"). That integers are those of 64 bits, and the
-- errors, are this project's own rules.
use Rattle.std.specs.Prelude.{ℕ, ◌^◌, Bool, true, false, not, if◌then◌else◌, List, ℤ, pos, negsuc, neg_ℤ, ◌+ℤ◌, ◌-ℤ◌, ◌*ℤ◌, Option, Some, None, Result, Ok, Err}
use Rattle.std.specs.declared.cmp.Ordering.{Ordering}
use Rattle.std.specs.Ordering.{int_cmp, int_eq, nat_cmp, is_eq, is_lt, is_le, is_gt, is_ge}
use Rattle.std.specs.Cmp.Lexicographic.{slice_cmp}
use Rattle.std.specs.Fmt.{signed_decimal}
use Rattle.tks_text.specs.Text.{same_text}
use Rattle.tks_text.specs.Integer.{fits_i64, integer_of}
use Rattle.tks_text.specs.declared.fault.ErrorNumber.{ErrorNumber}
use Rattle.tks_text.specs.declared.fault.ErrorNumber.TheVariants.{NotAnInteger, OutOfRange, DivisionByZero}
use Rattle.tks_text.specs.declared.fault.ScriptFault.{ScriptFault}
use Rattle.tks_text.specs.declared.integer.Range.{Range}
use Rattle.tks_text.specs.Fault.{fault_about}
use Rattle.tks_text.specs.Truth.{truth_of_word}
use Rattle.tks_expr.specs.Arithmetic.{quotient, remainder, complement, bits_of_both, bits_of_any, bits_of_one}
use Rattle.tks_expr.specs.declared.operator.Binary.{Binary}
use Rattle.tks_expr.specs.declared.operator.Binary.TheVariants as binary
use Rattle.tks_expr.specs.declared.operator.Unary.{Unary}
use Rattle.tks_expr.specs.declared.operator.Unary.TheVariants as unary

-- what follows a value
abbrev pub after : {X Y : Type 0} → Result X ScriptFault → (X → Result Y ScriptFault) → Result Y ScriptFault
after (Ok x) next = next x
after (Err fault) next = Err fault

-- an error about nothing that has a name
abbrev pub fault_of : ErrorNumber → ScriptFault
fault_of number = record { number = number; subject = None }

-- ---- what texts are read as

-- what reading a text as an integer comes to
abbrev pub integer_read : List ℕ → Result (Option ℤ) Range → Result ℤ ScriptFault
integer_read text (Ok (Some z)) = Ok z
integer_read text (Ok None) = Err (fault_about NotAnInteger text)
integer_read text (Err range) = Err (fault_of OutOfRange)

-- the integer that a text spells
abbrev pub integer_in : List ℕ → Result ℤ ScriptFault
integer_in text = integer_read text (integer_of text)

-- what a text comes to as a condition, when it was read as a truth word
abbrev pub word_read : List ℕ → Option Bool → Result Bool ScriptFault
word_read text (Some holds) = Ok holds
word_read text None = Err (fault_about NotAnInteger text)

-- the truth that a word stands for
abbrev pub truth_in_word : List ℕ → Result Bool ScriptFault
truth_in_word text = word_read text (truth_of_word text)

-- what a text comes to as a condition, when it was read as an integer
abbrev pub truth_read : List ℕ → Result (Option ℤ) Range → Result Bool ScriptFault
truth_read text (Ok (Some z)) = Ok (not (int_eq z (pos 0)))
truth_read text (Ok None) = truth_in_word text
truth_read text (Err range) = Err (fault_of OutOfRange)

-- whether a text holds as a condition: an integer but 0, or a word
abbrev pub truth_of : List ℕ → Result Bool ScriptFault
truth_of text = truth_read text (integer_of text)

-- ---- integers

-- an integer of 64 bits
abbrev pub in_range : ℤ → Result ℤ ScriptFault
in_range z = if fits_i64 z then Ok z else Err (fault_of OutOfRange)

-- the two integers that an operator is applied to; the left one is read first
abbrev pub integers_in : List ℕ → List ℕ → Result (ℤ × ℤ) ScriptFault
integers_in a b = after (integer_in a) (λ x. after (integer_in b) (λ y. Ok (x, y)))

abbrev pub on_integers : List ℕ → List ℕ → (ℤ → ℤ → Result ℤ ScriptFault) → Result ℤ ScriptFault
on_integers a b next = after (integers_in a b) (λ p. next p.0 p.1)

-- what a division by y gives
abbrev pub division_by : ℤ → ℤ → Result ℤ ScriptFault
division_by y z = if int_eq y (pos 0) then Err (fault_of DivisionByZero) else in_range z

-- what a shift by a count gives
abbrev pub shift_by : ℤ → (ℕ → ℤ) → Result ℤ ScriptFault
shift_by (pos n) shifted = in_range (shifted n)
shift_by (negsuc n) shifted = Err (fault_of OutOfRange)

-- ---- comparisons

-- how two texts stand to one another, when they were read as integers
abbrev pub order_read : Result (Option ℤ) Range → Result (Option ℤ) Range → Ordering → Result Ordering ScriptFault
order_read (Ok (Some x)) (Ok (Some y)) texts = Ok (int_cmp x y)
order_read (Ok None) y texts = Ok texts
order_read x (Ok None) texts = Ok texts
order_read x y texts = Err (fault_of OutOfRange)

-- how two texts stand to one another: by number where both spell integers, else by their bytes
abbrev pub order : List ℕ → List ℕ → Result Ordering ScriptFault
order a b = order_read (integer_of a) (integer_of b) (slice_cmp nat_cmp a b)

-- 1 where something holds, else 0
abbrev pub truth : Bool → ℤ
truth holds = if holds then pos 1 else pos 0

abbrev pub compared : List ℕ → List ℕ → (Ordering → Bool) → Result ℤ ScriptFault
compared a b holds = after (order a b) (λ o. Ok (truth (holds o)))

-- ---- operators

-- whether an operator compares two texts
abbrev pub compares : Binary → Bool
compares binary.Less = true
compares binary.Greater = true
compares binary.AtMost = true
compares binary.AtLeast = true
compares binary.Equal = true
compares binary.NotEqual = true
compares binary.SameText = true
compares binary.OtherText = true
compares operator = false

-- the integer that an operator gives for two integers
abbrev pub of_integers : Binary → ℤ → ℤ → Result ℤ ScriptFault
of_integers binary.Multiply x y = in_range (x *ℤ y)
of_integers binary.Divide x y = division_by y (quotient x y)
of_integers binary.Remainder x y = division_by y (remainder x y)
of_integers binary.Add x y = in_range (x +ℤ y)
of_integers binary.Subtract x y = in_range (x -ℤ y)
of_integers binary.ShiftLeft x y = shift_by y (λ n. x *ℤ pos (2 ^ n))
of_integers binary.ShiftRight x y = shift_by y (λ n. quotient x (pos (2 ^ n)))
of_integers binary.Less x y = Ok (truth (is_lt (int_cmp x y)))
of_integers binary.Greater x y = Ok (truth (is_gt (int_cmp x y)))
of_integers binary.AtMost x y = Ok (truth (is_le (int_cmp x y)))
of_integers binary.AtLeast x y = Ok (truth (is_ge (int_cmp x y)))
of_integers binary.Equal x y = Ok (truth (int_eq x y))
of_integers binary.NotEqual x y = Ok (truth (not (int_eq x y)))
of_integers binary.SameText x y = Ok (truth (int_eq x y))
of_integers binary.OtherText x y = Ok (truth (not (int_eq x y)))
of_integers binary.BitAnd x y = Ok (bits_of_both x y)
of_integers binary.BitXor x y = Ok (bits_of_one x y)
of_integers binary.BitOr x y = Ok (bits_of_any x y)

-- and for two texts
abbrev pub binary_value : Binary → List ℕ → List ℕ → Result ℤ ScriptFault
binary_value binary.Less a b = compared a b is_lt
binary_value binary.Greater a b = compared a b is_gt
binary_value binary.AtMost a b = compared a b is_le
binary_value binary.AtLeast a b = compared a b is_ge
binary_value binary.Equal a b = compared a b is_eq
binary_value binary.NotEqual a b = compared a b (λ o. not (is_eq o))
binary_value binary.SameText a b = Ok (truth (same_text a b))
binary_value binary.OtherText a b = Ok (truth (not (same_text a b)))
binary_value operator a b = on_integers a b (of_integers operator)

-- the integer that an operator gives for an integer
abbrev pub of_integer : Unary → ℤ → Result ℤ ScriptFault
of_integer unary.Minus x = in_range (neg_ℤ x)
of_integer unary.Plus x = Ok x
of_integer unary.Complement x = Ok (complement x)
of_integer unary.Not x = Ok (truth (int_eq x (pos 0)))

-- and for a text
abbrev pub unary_value : Unary → List ℕ → Result ℤ ScriptFault
unary_value unary.Not a = after (truth_of a) (λ holds. Ok (truth (not holds)))
unary_value operator a = after (integer_in a) (of_integer operator)

-- an integer in decimal
abbrev pub in_decimal : Result ℤ ScriptFault → Result (List ℕ) ScriptFault
in_decimal value = after value (λ z. Ok (signed_decimal z))

-- what an operator gives for texts
abbrev pub applied : Binary → List ℕ → List ℕ → Result (List ℕ) ScriptFault
applied operator a b = in_decimal (binary_value operator a b)

abbrev pub applied_unary : Unary → List ℕ → Result (List ℕ) ScriptFault
applied_unary operator a = in_decimal (unary_value operator a)

-- ---- results

-- the result that a text is, when it was read as an integer
abbrev pub result_read : List ℕ → Result (Option ℤ) Range → Result (List ℕ) ScriptFault
result_read text (Ok (Some z)) = Ok (signed_decimal z)
result_read text (Ok None) = Ok text
result_read text (Err range) = Err (fault_of OutOfRange)

-- the result of an expression whose value is a text: an integer in decimal, any other text as it is
abbrev pub result_of : List ℕ → Result (List ℕ) ScriptFault
result_of text = result_read text (integer_of text)
