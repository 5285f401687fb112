-- Decimals as results.
use Rattle.std.proofs.Common.{◌≡◌, ap, Result, Ok, Err, ℤ, FitsSigned, w64}
use Rattle.std.specs.Fmt.{signed_decimal}
use Rattle.tks_text.proofs.Decimals.{fits}
use Rattle.tks_text.proofs.Spelled.{decimal_is_read}
use Rattle.tks_text.specs.Fault.{Gives}
use Rattle.tks_text.specs.declared.fault.Failure.{Failure}
use Rattle.tks_text.specs.declared.fault.Failure.TheVariants.{Script, NoMemory}
use Rattle.tks_text.specs.declared.fault.ScriptFault.{ScriptFault}
use Rattle.tks_expr.specs.Operation.{in_decimal, result_of, result_read}

-- the decimal of an integer is the result that it makes
pub decimal_is_its_result : (z : ℤ) → FitsSigned w64 z → result_of (signed_decimal z) ≡ Ok (signed_decimal z)
decimal_is_its_result z h = ap (result_read (signed_decimal z)) (decimal_is_read z (fits z h))

-- what gives an integer gives its decimal
pub decimal_gives : (r : Result ℤ Failure) (value : Result ℤ ScriptFault) → Gives (λ z. z) r value → Gives signed_decimal r (in_decimal value)
decimal_gives (Ok z) value h = ap in_decimal h
decimal_gives (Err (Script fault)) value h = ap in_decimal h
decimal_gives (Err NoMemory) value h = tt
