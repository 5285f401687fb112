-- Tests of which one passes, or neither.
use Rattle.std.proofs.Common.{◌≡◌, ◌||◌, Bool, true, false, refl}

pub or_case : {P : Type 0} (x y : Bool) → x || y ≡ true → (x ≡ true → P) → (y ≡ true → P) → P
or_case true y e f g = f refl
or_case false y e f g = g e

pub neither : (x y : Bool) → x || y ≡ false → (x ≡ false) × (y ≡ false)
neither true y e = absurd cc
neither false y e = (refl, e)
