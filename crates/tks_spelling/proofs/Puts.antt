-- Adding bytes piece by piece.
use Rattle.std.proofs.Common.{◌≡◌, ℕ, List, [], ◌∷◌, ◌++◌, length, take, Result, Ok, Err, refl, sym, ap, subst, ◌∙◌, append_assoc, true≢false, arith}
use Rattle.std.proofs.lemmas.List.{take_all, take_at, take-take, length-append}
use Rattle.std.specs.declared.alloc.AllocError.{AllocError}
use Rattle.std.specs.Prelude.{OnOk}
use Rattle.std.specs.Result.{IsErr, IsErrAnd}
use Rattle.std.proofs.lemmas.Result.{err_from_is_err_and}
use Rattle.tks_spelling.specs.Writing.{PutsSo, flattened}

-- nothing was added
pub all_there : (old new : List ℕ) → new ≡ old → take (length old) new ≡ old
all_there old new e = ap (take (length old)) e ∙ take_all (length old) old (omega arith)

-- where what was there and more still stands at the front, so does what was there
pub still : (old more new : List ℕ) → take (length (old ++ more)) new ≡ old ++ more → take (length old) new ≡ old
still old more new e =
    sym (take-take (length old) (length (old ++ more)) new (omega (arith, length-append old more))) ∙ ap (take (length old)) e ∙ take_at old more (length old) refl

-- what was put behind other bytes
pub put_behind : (r : Result (Unit {0}) AllocError) (old first mid second new : List ℕ) → mid ≡ old ++ first → PutsSo r mid new second → PutsSo r old new (first ++ second)
put_behind (Ok _) old first mid second new e p = p ∙ ap (λ (x : List ℕ). x ++ second) e ∙ append_assoc old first second
put_behind (Err _) old first mid second new e p = still old first new (subst (λ x. take (length x) new ≡ x) e p)

-- what a refused call behind other bytes leaves
pub put_refused : (old first mid new : List ℕ) → mid ≡ old ++ first → take (length mid) new ≡ mid → take (length old) new ≡ old
put_refused old first mid new e p = still old first new (subst (λ x. take (length x) new ≡ x) e p)

-- several pieces
pub three_pieces : (old a b c : List ℕ) → ((old ++ a) ++ b) ++ c ≡ old ++ (a ++ (b ++ c))
three_pieces old a b c = append_assoc (old ++ a) b c ∙ append_assoc old a (b ++ c)

pub four_pieces : (old a b c d : List ℕ) → (((old ++ a) ++ b) ++ c) ++ d ≡ old ++ (a ++ (b ++ (c ++ d)))
four_pieces old a b c d = append_assoc ((old ++ a) ++ b) c d ∙ three_pieces old a b (c ++ d)

-- those of a header
pub five_pieces : (old a b c d e : List ℕ) → ((((old ++ a) ++ b) ++ c) ++ d) ++ e ≡ old ++ (a ++ ((b ++ c) ++ (d ++ e)))
five_pieces old a b c d e =
    append_assoc (((old ++ a) ++ b) ++ c) d e ∙ four_pieces old a b c (d ++ e) ∙ ap (λ (x : List ℕ). old ++ (a ++ x)) (sym (append_assoc b c (d ++ e)))

-- ---- pieces of which each is put by a call, as `flattened` has them

module _ (r : Result (Unit {0}) AllocError) (old new xs : List ℕ) where
  -- the exit of a `?` returns the error as it is
  pub exit : (e : AllocError) → IsErrAnd r (λ f. f ≡ e) → PutsSo (Err e) old new xs → PutsSo r old new xs
  exit e is puts = let p = err_from_is_err_and r is in rw p.1 puts

  -- a call that was refused is refused whatever was to follow
  refused : (ys : List ℕ) → IsErr r → PutsSo r old new xs → PutsSo r old new ys
  refused ys failed puts = refused_so r failed puts
    where
      refused_so : (q : Result (Unit {0}) AllocError) → IsErr q → PutsSo q old new xs → PutsSo q old new ys
      refused_so (Ok done) failed puts = absurd (true≢false (sym failed))
      refused_so (Err e) failed puts = puts

  pub flattened_longer : (more : List ℕ) (pieces : List (List ℕ)) → IsErr r → PutsSo r old new xs → PutsSo r old new (flattened (xs ∷ more ∷ pieces))
  flattened_longer more pieces failed puts = refused (flattened (xs ∷ more ∷ pieces)) failed puts

  pub flattened_last : PutsSo r old new xs → PutsSo r old new (flattened (xs ∷ []))
  unfolding flattened
  flattened_last puts = puts

module _ (old mid new xs more : List ℕ) (pieces : List (List ℕ)) where
  pub flattened_then : (r : Result (Unit {0}) AllocError) → mid ≡ old ++ xs → PutsSo r mid new (flattened (more ∷ pieces)) → PutsSo r old new (flattened (xs ∷ more ∷ pieces))
  unfolding flattened
  flattened_then r first rest = put_behind r old xs mid (flattened (more ∷ pieces)) new first rest

  pub flattened_then_ok : mid ≡ old ++ xs → new ≡ mid ++ flattened (more ∷ pieces) → new ≡ old ++ flattened (xs ∷ more ∷ pieces)
  unfolding flattened
  flattened_then_ok first rest = rest ∙ ap (λ (x : List ℕ). x ++ flattened (more ∷ pieces)) first ∙ append_assoc old xs (flattened (more ∷ pieces))

pub flattened_last_ok : (old new xs : List ℕ) → new ≡ old ++ xs → new ≡ old ++ flattened (xs ∷ [])
unfolding flattened
flattened_last_ok old new xs e = e

-- what proves any sequence of `put_..(..)?` that ends in such a call, where the clause reads `flattened (xs ∷ ys ∷ zs ∷ [])`
pub ruleset flattened_puts = (flattened_then, flattened_then_ok, flattened_longer, flattened_last, flattened_last_ok, exit)

-- ---- by hand

-- more pieces behind others
pub flattened_both : (x : List ℕ) (xs : List (List ℕ)) (y : List ℕ) (ys : List (List ℕ)) → flattened ((x ∷ xs) ++ (y ∷ ys)) ≡ flattened (x ∷ xs) ++ flattened (y ∷ ys)
unfolding flattened
flattened_both x [] y ys = refl
flattened_both x (z ∷ xs) y ys = ap (λ (w : List ℕ). x ++ w) (flattened_both z xs y ys) ∙ sym (append_assoc x (flattened (z ∷ xs)) (flattened (y ∷ ys)))

-- what follows where all was put
pub where_put : {P Q : Type 0} (r : Result (Unit {0}) AllocError) → (P → Q) → OnOk r P → OnOk r Q
where_put (Ok done) f p = f p
where_put (Err e) f p = tt

pub anyway : {P : Type 0} (r : Result (Unit {0}) AllocError) → P → OnOk r P
anyway (Ok done) p = p
anyway (Err e) p = tt
