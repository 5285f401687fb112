-- What comes of each item of a list, front by front.
use Rattle.std.proofs.Common.{◌≡◌, List, [], ◌∷◌, ◌++◌, append_assoc, append-nil, Result, Ok, Err, refl, sym, ap, ◌∙◌}
use Rattle.tks_tcl.specs.Cause.{Cause, after}
use Rattle.tks_tcl.specs.Meets.{FailsSo}
use Rattle.tks_tcl.specs.declared.interrupt.Interrupt.{Interrupt}
use Rattle.tks_tcl.specs.declared.interrupt.Interrupt.TheVariants as interrupt
use Rattle.tks_cmd.specs.Changes.{each}

module _ {Y : Type 0} where
  -- a list behind the front of it
  abbrev pub behind : List Y → Result (List Y) Cause → Result (List Y) Cause
  behind front r = after r (λ ys. Ok (front ++ ys))

  -- nothing is in front
  pub begins : (r : Result (List Y) Cause) → behind [] r ≡ r
  begins (Ok ys) = refl
  begins (Err cause) = refl

  -- nothing is behind
  pub ends : (front : List Y) → behind front (Ok []) ≡ Ok front
  ends front = ap {B = Result (List Y) Cause} Ok (append-nil front)

  one : (front : List Y) (y : Y) (r : Result (List Y) Cause) → behind front (after r (λ ys. Ok (y ∷ ys))) ≡ behind (front ++ y ∷ []) r
  one front y (Ok ys) = ap {B = Result (List Y) Cause} Ok (sym (append_assoc front (y ∷ []) ys))
  one front y (Err cause) = refl

module _ {X Y : Type 0} (f : X → Result Y Cause) where
  abbrev with_rest : List Y → List X → Result Y Cause → Result (List Y) Cause
  with_rest front xs r = behind front (after r (λ y. after (each f xs) (λ ys. Ok (y ∷ ys))))

  -- an item more in front
  pub goes : (front : List Y) (x : X) (xs : List X) (y : Y) → f x ≡ Ok y → behind front (each f (x ∷ xs)) ≡ behind (front ++ y ∷ []) (each f xs)
  goes front x xs y e = ap (with_rest front xs) e ∙ one front y (each f xs)

  -- an item of which nothing comes
  pub fails : (front : List Y) (x : X) (xs : List X) (why : Interrupt) → FailsSo why (f x) → FailsSo why (behind front (each f (x ∷ xs)))
  fails front x xs (interrupt.Script fault) h = ap (with_rest front xs) h
  fails front x xs interrupt.TooLarge h = ap (with_rest front xs) h
  fails front x xs interrupt.NoMemory h = tt
