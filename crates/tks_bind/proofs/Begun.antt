-- From the last pattern back: a sequence occurs where its first pattern may begin.
use Rattle.std.proofs.Common.{◌≡◌, ◌-◌, ℕ, List, [], ◌∷◌, length, slice_get, Option, Some, refl, sym, subst, ◌∙◌}
use Rattle.tks_event.specs.Event.{Event}
use Rattle.tks_event.specs.declared.pattern.Pattern.{Pattern}
use Rattle.tks_bind.specs.Occurs.{FitsAt, Follows, Preceded, EndsAt, turned, Occurs}
use Rattle.tks_bind.specs.Search.{Succeeded, MayBegin, Precedes}

same_event : (o : Option Event) (x y : Event) → o ≡ Some x → o ≡ Some y → x ≡ y
same_event o x y e f = let g : ◌≡◌ {A = Option Event} (Some x) (Some y) = sym e ∙ f in cc

module _ (history : List Event) where
  -- a pattern has an event at some place, with events before it and behind it
  abbrev Split : List Pattern → Pattern → List Pattern → Type 0
  Split before p later = (n : ℕ) × (e : Event) × FitsAt p history n e × Preceded p before (λ from. EndsAt before history from) history n e × Succeeded later history n e

  forth : (before : List Pattern) (q p : Pattern) (later : List Pattern) → Split (q ∷ before) p later → Split before q (p ∷ later)
  forth before q p later (n, e, fit, (from, d, follows, (c, its, preceded)), succeeded) =
      let same = same_event (slice_get history from) c d its.stands follows.stands in (
        from,
        d,
        subst (λ x. FitsAt q history from x) same its,
        subst (λ x. Preceded q before (λ k. EndsAt before history k) history from x) same preceded,
        (n, e, follows, fit, succeeded),
      )

  back : (before : List Pattern) (q p : Pattern) (later : List Pattern) → Split before q (p ∷ later) → Split (q ∷ before) p later
  back before q p later (from, d, its, preceded, (n, e, follows, fit, succeeded)) = (n, e, fit, (from, d, follows, (d, its, preceded)), succeeded)

  split : (later before : List Pattern) (p : Pattern) → EndsAt (turned later (p ∷ before)) history (length history - 1) → Split before p later
  split [] before p (e, fit, preceded) = (length history - 1, e, fit, preceded, refl)
  split (q ∷ later) before p ends = forth before p q later (split later (p ∷ before) q ends)

  joined : (later before : List Pattern) (p : Pattern) → Split before p later → EndsAt (turned later (p ∷ before)) history (length history - 1)
  joined [] before p (n, e, fit, preceded, last) =
      subst (λ k. (x : Event) × FitsAt p history k x × Preceded p before (λ from. EndsAt before history from) history k x) last (e, fit, preceded)
  joined (q ∷ later) before p s = joined later (p ∷ before) q (back before p q later s)

  pub begins : (first : Pattern) (rest : List Pattern) → Occurs (first ∷ rest) history → (n : ℕ) × MayBegin first rest history n
  begins first rest o = let s = split rest [] first o in (s.0, (s.1, s.2, s.4))

  pub begun : (first : Pattern) (rest : List Pattern) → (n : ℕ) × MayBegin first rest history n → Occurs (first ∷ rest) history
  begun first rest (n, (e, fit, succeeded)) = joined rest [] first (n, e, fit, tt, succeeded)

  -- one pattern more
  pub may_begin : (earlier later : Pattern) (rest : List Pattern) (n : ℕ)
      → (place : ℕ) × (MayBegin later rest history place) × Precedes earlier later history n place → MayBegin earlier (later ∷ rest) history n
  may_begin earlier later rest n (place, (e, fit, succeeded), (d, b, its, stands, follows)) =
      let same = same_event (slice_get history place) b e stands fit.stands in
      (d, its, (place, e, subst (λ x. Follows later history n d place x) same follows, fit, succeeded))

  pub has_begun : (earlier later : Pattern) (rest : List Pattern) (n : ℕ) → MayBegin earlier (later ∷ rest) history n
      → (place : ℕ) × (MayBegin later rest history place) × Precedes earlier later history n place
  has_begun earlier later rest n (d, its, (place, e, follows, fit, succeeded)) = (place, (e, fit, succeeded), (d, e, its, fit.stands, follows))
