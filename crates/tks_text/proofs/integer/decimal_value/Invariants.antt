use Rattle.std.proofs.Common.{◌≡◌, ◌<◌, ◌^◌, drop}
use Rattle.std.specs.Str.Parse.{digits_value, digits_value_after}
use Rattle.tks_text.specs.Integer.{AreDigits}
use Rattle.tks_text.proofs.integer.decimal_value.Given as goal

abbrev pub invariant-loop-digit : goal.invariant-loop-digit
invariant-loop-digit l = record {
  so_far : digits_value_after 10 l.value (drop l.digit-index l.digits) ≡ digits_value 10 l.digits;
  digits : AreDigits 10 (drop l.digit-index l.digits) → AreDigits 10 l.digits;
  small : l.value < 10 ^ 18;
}
