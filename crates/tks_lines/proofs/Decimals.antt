-- The digits of a number are a text.
use Rattle.std.proofs.Common.{◌≡◌, ℕ, ◌^◌, ◌<◌, ◌≤◌, true, List, [], ◌∷◌, arith}
use Rattle.std.proofs.lemmas.Grind.{common_steps}
use Rattle.std.specs.Fmt.{decimal}
use Rattle.std.specs.Str.Parse.{AllDigits}
use Rattle.std.proofs.lemmas.Fmt.{decimal_is_IsNumeral}
use Rattle.std.proofs.lemmas.Str.Parse.{digit_from_value}
use Rattle.tks_text.specs.Text.{is_text_byte, IsText}

digit_is_text : (c : ℕ) → 48 ≤ c → c ≤ 57 → is_text_byte c ≡ true
digit_is_text c h k = grind (arith, common_steps)

digits_are_text : (ds : List ℕ) → AllDigits 10 ds → IsText ds
digits_are_text [] h = tt
digits_are_text (d ∷ ds) h = let r = digit_from_value d h.0 in (digit_is_text d r.0 r.1, digits_are_text ds h.1)

pub count_is_text : (n : ℕ) → n < 2 ^ 64 → IsText (decimal n)
count_is_text n h = digits_are_text (decimal n) (decimal_is_IsNumeral n h).0.1
