-- What is told of things is made of texts: names of kinds of events, and numbers in decimal.
use Rattle.std.proofs.Common.{rules, ◌<◌, ◌^◌, ℕ}
use Rattle.std.specs.Fmt.{decimal}
use Rattle.std.proofs.lemmas.Fmt.{decimal_is_IsNumeral}
use Rattle.tks_text.specs.Text.{IsText}
use Rattle.tks_text.proofs.Integers.{digits_are_text}
use Rattle.tks_event.specs.Kinds.{kind_name}
use Rattle.tks_event.specs.declared.kind.Kind.{Kind}
use Rattle.tks_event.specs.declared.kind.Kind.TheVariants as kind

pub name_is_text : (k : Kind) → IsText (kind_name k)
name_is_text kind.KeyPress = search rules
name_is_text kind.KeyRelease = search rules
name_is_text kind.ButtonPress = search rules
name_is_text kind.ButtonRelease = search rules
name_is_text kind.FocusIn = search rules
name_is_text kind.FocusOut = search rules
name_is_text kind.Virtual = search rules

pub count_is_text : (n : ℕ) → n < 2 ^ 64 → IsText (decimal n)
count_is_text n h = digits_are_text (decimal n) (decimal_is_IsNumeral n h).0.1
