-- What several writes, one after the other, do together.
use Rattle.std.proofs.Common.{◌≡◌, ◌+◌, ℕ, List, [], ◌∷◌, ◌++◌, take, drop, Option, Result, Ok, Err, refl, sym, ap, subst, ◌∙◌, append_assoc, append-nil, take-append-drop, true≢false}
use Rattle.std.proofs.Math.Seq.{take-add}
use Rattle.std.proofs.lemmas.Result.{err_from_is_err_and}
use Rattle.std.specs.Result.{IsErr, IsErrAnd}
use Rattle.std.specs.Io.KnownBytes.{Appends, Keeps}
use Rattle.std.proofs.KnownBytes.{Appends-trans, Appends-kept}
use Rattle.tks_desk.specs.Writing.{WritesSo, AppendsFront, flattened}
use Rattle.tks_desk.specs.declared.ending.RunFault.{RunFault}
use Rattle.tks_desk.specs.declared.ending.RunFault.TheVariants.{Write}

-- some bytes were written, and then as `r` says of the rest
pub then : (r : Result (Unit {0}) RunFault) (a b c : Option (List ℕ)) (xs ys : List ℕ) → Appends a b xs → WritesSo r b c ys → WritesSo r a c (xs ++ ys)
then (Ok done) a b c xs ys first rest = Appends-trans a b c xs ys first rest
then (Err fault) a b c xs ys first (is, (front, left, whole, wrote)) =
    (is, (xs ++ front, left, ap (λ l. xs ++ l) whole ∙ sym (append_assoc xs front left), Appends-trans a b c xs front first wrote))

-- a write that failed fails whatever was to follow
pub longer : (r : Result (Unit {0}) RunFault) (a b : Option (List ℕ)) (xs ys : List ℕ) → IsErr r → WritesSo r a b xs → WritesSo r a b (xs ++ ys)
longer (Ok done) a b xs ys failed wrote = absurd (true≢false (sym failed))
longer (Err fault) a b xs ys failed (is, (front, left, whole, wrote)) =
    (is, (front, left ++ ys, ap (λ l. l ++ ys) whole ∙ append_assoc front left ys, wrote))

-- the exit of a `?` returns the fault as it is
pub exit : (r : Result (Unit {0}) RunFault) (e : RunFault) (a b : Option (List ℕ)) (xs : List ℕ) → IsErrAnd r (λ f. f ≡ e) → WritesSo (Err e) a b xs → WritesSo r a b xs
exit r e a b xs is wrote =
    let p = err_from_is_err_and r is in
    rw (p.1, p.2) wrote

-- what proves a sequence of `put(..)?` that ends in a `put`, where the clause reads `xs ++ (ys ++ zs)` and no part but the last is a literal
pub ruleset writes = (then, longer, exit)

-- the same, part by part
module _ (a b c : Option (List ℕ)) (xs : List ℕ) (parts : List (List ℕ)) where
  pub flattened_then : (r : Result (Unit {0}) RunFault) → Appends a b xs → WritesSo r b c (flattened parts) → WritesSo r a c (flattened (xs ∷ parts))
  unfolding flattened
  flattened_then r first rest = then r a b c xs (flattened parts) first rest

  pub flattened_then_ok : Appends a b xs → Appends b c (flattened parts) → Appends a c (flattened (xs ∷ parts))
  unfolding flattened
  flattened_then_ok first rest = Appends-trans a b c xs (flattened parts) first rest

module _ (r : Result (Unit {0}) RunFault) (a b : Option (List ℕ)) (xs : List ℕ) where
  pub flattened_longer : (parts : List (List ℕ)) → IsErr r → WritesSo r a b xs → WritesSo r a b (flattened (xs ∷ parts))
  unfolding flattened
  flattened_longer parts failed wrote = longer r a b xs (flattened parts) failed wrote

  pub flattened_last : WritesSo r a b xs → WritesSo r a b (flattened (xs ∷ []))
  unfolding flattened
  flattened_last wrote = subst (WritesSo r a b) (sym (append-nil xs)) wrote

pub flattened_last_ok : (a b : Option (List ℕ)) (xs : List ℕ) → Appends a b xs → Appends a b (flattened (xs ∷ []))
unfolding flattened
flattened_last_ok a b xs wrote = subst (Appends a b) (sym (append-nil xs)) wrote

-- what proves any sequence of `put(..)?`, where the clause reads `flattened (xs ∷ ys ∷ zs ∷ [])`
pub ruleset flattened_writes = (flattened_then, flattened_then_ok, flattened_longer, flattened_last, flattened_last_ok, exit)

-- the first m bytes were written
pub front : (a b : Option (List ℕ)) (bytes : List ℕ) (m : ℕ) → Appends a b (take m bytes) → AppendsFront a b bytes
front a b bytes m wrote = (take m bytes, drop m bytes, sym (take-append-drop m bytes), wrote)

-- and then n more
pub more : (a b c : Option (List ℕ)) (bytes : List ℕ) (m n : ℕ) → Appends a b (take m bytes) → Appends b c (take n (drop m bytes)) → Appends a c (take (m + n) bytes)
more a b c bytes m n first rest =
    subst (Appends a c) (sym (take-add m n bytes)) (Appends-trans a b c (take m bytes) (take n (drop m bytes)) first rest)

-- and then none, at the exit of a `?`
pub cut_off : (r : Result (Unit {0}) RunFault) (e : RunFault) (a b c : Option (List ℕ)) (bytes : List ℕ) (m : ℕ) → IsErrAnd r (λ f. f ≡ e) → e ≡ Write
    → Appends a b (take m bytes) → Keeps b c → WritesSo r a c bytes
cut_off r e a b c bytes m is fault wrote kept =
    let p = err_from_is_err_and r is in
    let at : r ≡ Err Write = p.1 ∙ ap Err (p.2 ∙ fault) in
    rw at (refl, front a c bytes m (Appends-kept a b c (take m bytes) wrote kept))
