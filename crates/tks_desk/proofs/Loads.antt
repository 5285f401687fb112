-- Bytes behind a line that are read in pieces.
use Rattle.std.proofs.Common.{◌≡◌, ◌<◌, ◌≤◌, ℕ, true, false, List, [], ◌++◌, take, drop, length, Option, Some, None, IfSome, refl, sym, ap, subst, ◌∙◌, arith, length-append}
use Rattle.std.proofs.Math.Seq.{take-append_seam, drop-append_seam}
use Rattle.std.specs.Io.KnownBytes.{Consumes}
use Rattle.std.proofs.KnownBytes.{Consumes-trans}
use Rattle.tks_desk.specs.Reading.{TakesBytes, HoldsBytes}

-- so far these bytes were taken
abbrev pub Taken : Option (List ℕ) → Option (List ℕ) → ℕ → List ℕ → Type 0
Taken a b n held = Consumes a b held × (length held ≤ n)

-- nothing was taken
pub taken_none : (a : Option (List ℕ)) (n : ℕ) → Taken a a n []
taken_none None n = (tt, omega arith)
taken_none (Some xs) n = (refl, omega arith)

-- some more were
pub taken_more : (a b c : Option (List ℕ)) (n : ℕ) (held held' : List ℕ) → Taken a b n held → TakesBytes true b c held held' → length held' ≤ n → Taken a c n held'
taken_more a b c n held held' so_far takes within =
    (subst (Consumes a c) (sym takes.1) (Consumes-trans a b c held takes.0 so_far.0 takes.2), within)

-- all of them
pub taken_all : (a b : Option (List ℕ)) (n : ℕ) (held : List ℕ) → Taken a b n held → n ≤ length held → IfSome a (λ bytes. HoldsBytes n bytes (Some held) b)
taken_all None b n held taken all = tt
taken_all (Some xs) None n held taken all = absurd taken.0
taken_all (Some xs) (Some ys) n held taken all =
    let is : length held ≡ n = omega (arith, all, taken.1) in (
      omega (arith, all, ap length taken.0, length-append held ys),
      sym (ap (take n) taken.0 ∙ ap (λ m. take m (held ++ ys)) (sym is) ∙ take-append_seam held ys),
      ap Some (sym (ap (drop n) taken.0 ∙ ap (λ m. drop m (held ++ ys)) (sym is) ∙ drop-append_seam held ys)),
    )

-- the input ended before
pub taken_short : (a b c : Option (List ℕ)) (n : ℕ) (held held' : List ℕ) → Taken a b n held → length held < n → TakesBytes false b c held held' → IfSome a (λ bytes. HoldsBytes n bytes None c)
taken_short None b c n held held' so_far short takes = tt
taken_short (Some xs) None c n held held' so_far short takes = absurd so_far.0
taken_short (Some xs) (Some ys) None n held held' so_far short takes = absurd takes.2
taken_short (Some xs) (Some ys) (Some zs) n held held' so_far short takes =
    (omega (arith, short, ap length so_far.0, ap length takes.1, length-append held ys), ap Some (takes.2 ∙ takes.1))
