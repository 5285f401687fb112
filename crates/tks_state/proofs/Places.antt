-- What is kept of a window, by its place.
use Rattle.std.proofs.Common.{◌≡◌, ◌<◌, ℕ, zero, suc, ◌==◌, Bool, true, false, cond, if◌then◌else◌, List, [], ◌∷◌, length, set, get_or, Some, None, is_some, position, refl, sym, ap, ◌∙◌, true≢false, Result, Ok, Err, arith}
use Rattle.std.specs.Prelude.{map, slice_get, IfSome}
use Rattle.std.proofs.lemmas.Option.{slice_get-get_or}
use Rattle.std.specs.Result.{IsErrAnd}
use Rattle.std.proofs.lemmas.List.Quantifiers.{position-Some}
use Rattle.tks_text.specs.Fault.{Gives}
use Rattle.tks_text.specs.declared.fault.ScriptFault.{ScriptFault}
use Rattle.tks_text.specs.declared.fault.Failure.{Failure}
use Rattle.tks_text.specs.declared.fault.Failure.TheVariants as failure
use Rattle.tks_opt.specs.Options.{after}
use Rattle.tks_pack.specs.Meets.{PacksSo}
use Rattle.tks_tree.proofs.Removals.{found_nowhere}
use Rattle.tks_state.specs.declared.kept.Kept.{Kept}
use Rattle.tks_state.specs.Windows.{kept_of, replaced}
use Rattle.tks_state.specs.WellFormed.{mark_of}

module _ (w : ℕ) where
  abbrev pub is : Kept → Bool
  is k = k.window == w

  -- the first of the window is the one at i
  abbrev First : List Kept → ℕ → Kept → Type 0
  First ks i d = (i < length ks) × (is (get_or ks i d) ≡ true) × ((n : ℕ) → n < i → is (get_or ks n d) ≡ false)

  behind : (k : Kept) (ks : List Kept) (i : ℕ) (d : Kept) → First (k ∷ ks) (suc i) d → First ks i d
  behind k ks i d h = (omega (arith, h.0), h.1, λ n l. h.2 (suc n) (omega (arith, l)))

  first_other : (k : Kept) (ks : List Kept) (i : ℕ) (d : Kept) → First (k ∷ ks) (suc i) d → is k ≡ false
  first_other k ks i d h = h.2 0 (omega arith)

  kept_first : (ks : List Kept) (i : ℕ) (d : Kept) → First ks i d → kept_of ks w ≡ Some (get_or ks i d)
  kept_first [] i d h = absurd (omega (arith, h.0))
  kept_first (k ∷ ks) zero d h = rw h.1 refl
  kept_first (k ∷ ks) (suc i) d h = rw (first_other k ks i d h) (kept_first ks i d (behind k ks i d h))

  replaced_first : (new : Kept) (ks : List Kept) (i : ℕ) (d : Kept) → First ks i d → set ks i new ≡ replaced w new ks
  replaced_first new [] i d h = absurd (omega (arith, h.0))
  replaced_first new (k ∷ ks) zero d h = rw h.1 refl
  replaced_first new (k ∷ ks) (suc i) d h = rw (first_other k ks i d h) (ap {B = List Kept} (λ r. k ∷ r) (replaced_first new ks i d (behind k ks i d h)))

  -- what stands at the place that was found is what is kept of the window
  pub got : (ks : List Kept) (i : ℕ) → Some i ≡ position is ks → slice_get ks i ≡ kept_of ks w
  got [] i p = absurd (true≢false (ap is_some p))
  got (k ∷ ks) i p =
      let first : First (k ∷ ks) i k = position-Some is (k ∷ ks) i k (sym p) in
      slice_get-get_or (k ∷ ks) i k first.0 ∙ sym (kept_first (k ∷ ks) i k first)

  -- something stands at the place that was found
  pub stands_there : (ks : List Kept) (i : ℕ) → Some i ≡ position is ks → slice_get ks i ≡ None → ⊥
  stands_there [] i p none = true≢false (ap is_some p)
  stands_there (k ∷ ks) i p none =
      let first : First (k ∷ ks) i k = position-Some is (k ∷ ks) i k (sym p) in
      true≢false (ap is_some (sym (slice_get-get_or (k ∷ ks) i k first.0) ∙ none))

  -- another put there stands in the place of what is kept of the window
  pub put_there : (new : Kept) (ks : List Kept) (i : ℕ) → Some i ≡ position is ks → set ks i new ≡ replaced w new ks
  put_there new ks i p = replaced_first new ks i new (position-Some is ks i new (sym p))

  -- where nothing is kept of the window, nothing is replaced
  pub none_replaced : (new : Kept) (ks : List Kept) → kept_of ks w ≡ None → replaced w new ks ≡ ks
  none_replaced new [] h = refl
  none_replaced new (k ∷ ks) h = by (is k) h (none_replaced new ks)
    where
      by : (b : Bool) → cond b (Some k) (kept_of ks w) ≡ None → (kept_of ks w ≡ None → replaced w new ks ≡ ks) → (if b then new ∷ ks else k ∷ replaced w new ks) ≡ k ∷ ks
      by true h rest = absurd (true≢false (ap is_some h))
      by false h rest = ap (λ r. k ∷ r) (rest h)

  -- where the mark of a window stays, all marks do
  pub same_marks : (new : Kept) (ks : List Kept) → IfSome (kept_of ks w) (λ k. mark_of new ≡ mark_of k) → map mark_of (replaced w new ks) ≡ map mark_of ks
  same_marks new [] h = refl
  same_marks new (k ∷ ks) h = by (is k) h (same_marks new ks)
    where
      by : (b : Bool) → IfSome (cond b (Some k) (kept_of ks w)) (λ k. mark_of new ≡ mark_of k)
          → (IfSome (kept_of ks w) (λ k. mark_of new ≡ mark_of k) → map mark_of (replaced w new ks) ≡ map mark_of ks)
          → map mark_of (if b then new ∷ ks else k ∷ replaced w new ks) ≡ map mark_of (k ∷ ks)
      by true h rest = ap (λ m. m ∷ map mark_of ks) h
      by false h rest = ap (λ ms. mark_of k ∷ ms) (rest h)

pub nowhere : (w : ℕ) (ks : List Kept) → None ≡ position (is w) ks → kept_of ks w ≡ None
nowhere w ks p = found_nowhere (is w) ks p

-- ---- errors

-- what an answer without a value says, whatever a value would be seen as
abbrev pub Fails : {Y : Type 0} → Failure → Result Y ScriptFault → Type 0
Fails {Y} e given = Gives {X = ⊥} {Y = Y} (λ none. absurd none) (Err e) given

-- where a call came to no value, what would have followed doesn't
pub err_after : {Y U : Type 0} (e : Failure) (given : Result Y ScriptFault) (next : Y → Result U ScriptFault) → Fails e given → Fails e (after given next)
err_after (failure.Script fault) given next h = ap (λ r. after r next) h
err_after failure.NoMemory given next h = tt

pub packs_after : {Y U : Type 0} (e : Failure) (old new : Y) (given : Result Y ScriptFault) (next : Y → Result U ScriptFault)
    → PacksSo {X = Unit {0}} (Err e) old new given → Fails e (after given next)
packs_after (failure.Script fault) old new given next h = ap (λ r. after r next) h.0
packs_after failure.NoMemory old new given next h = tt

-- the error that is handed on is the one that came
pub err_is : {X : Type 0} (r : Result X Failure) (e : Failure) → IsErrAnd r (λ x. x ≡ e) → r ≡ Err e
err_is (Ok x) e h = absurd h
err_is (Err x) e h = ap Err h
