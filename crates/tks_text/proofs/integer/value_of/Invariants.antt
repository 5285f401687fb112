use Rattle.std.proofs.Common.{◌≡◌, ◌<◌, ◌^◌, drop}
use Rattle.std.specs.Str.Parse.{digits_value, digits_value_after}
use Rattle.tks_text.proofs.integer.value_of.Given as goal

abbrev pub invariant-loop-digit : goal.invariant-loop-digit
invariant-loop-digit l = record {
  so_far : digits_value_after l.base l.value (drop l.digit-index l.digits) ≡ digits_value l.base l.digits;
  fits : l.value < 2 ^ 64;
}
