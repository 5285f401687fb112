-- Numbers in decimal are texts.
use Rattle.std.proofs.Common.{◌<◌, ◌^◌, ℕ}
use Rattle.std.specs.Fmt.{decimal}
use Rattle.std.proofs.lemmas.Fmt.{decimal_is_IsNumeral}
use Rattle.tks_text.specs.Text.{IsText}
use Rattle.tks_text.proofs.Integers.{digits_are_text}

pub count_is_text : (n : ℕ) → n < 2 ^ 64 → IsText (decimal n)
count_is_text n h = digits_are_text (decimal n) (decimal_is_IsNumeral n h).0.1
