-- What holds of each of a list holds of those that are left.
use Rattle.std.proofs.Common.{◌≡◌, Bool, true, false, cond, List, [], ◌∷◌}
use Rattle.std.specs.Borrow.{Bor}
use Rattle.std.specs.List.{AllByRecursion, filter}
use Rattle.std.specs.Prelude.{Result, Ok, Err, OnOk, OnErr}
use Rattle.tks_share.specs.Lists.{Says, Decides}
use Rattle.tks_queue.specs.declared.queued.Queued.{Queued}
use Rattle.tks_queue.specs.Legal.{IsLegal, AreLegal}

pub each_filtered : {X : Type 0} (P : X → Type 0) (p : X → Bool) (xs : List X) → AllByRecursion P xs → AllByRecursion P (filter p xs)
each_filtered P p [] h = tt
each_filtered P p (x ∷ xs) h = by (p x) (each_filtered P p xs h.1)
  where
    by : (b : Bool) → AllByRecursion P (filter p xs) → AllByRecursion P (cond b (x ∷ filter p xs) (filter p xs))
    by true k = (h.0, k)
    by false k = k

-- those that a test leaves are such as there are, and so are all where nothing was changed
pub stays_legal : {A E : Type 0} {says : Bor Queued → Bool → Type 0} → Decides says → (r : Result A E) (old now : List Queued) → AreLegal old
    → OnOk r ((p : Queued → Bool) → Says says p → now ≡ filter p old) → OnErr r (now ≡ old) → AreLegal now
stays_legal d (Ok a) old now h ok err = rw (ok d.test d.so) (each_filtered IsLegal d.test old h)
stays_legal d (Err e) old now h ok err = rw err h
