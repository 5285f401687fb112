-- What the code finds is whether a sequence occurs.
use Rattle.std.proofs.Common.{Decides, ◌≡◌, ◌≢◌, ◌⊎◌, inl, inr, ◌-◌, ◌<◌, ◌==◌, ◌&&◌, ◌||◌, ℕ, zero, suc, Bool, true, false, List, [], ◌∷◌, length, slice_get, Option, Some, None, refl, sym, subst, ◌∙◌, arith}
use Rattle.std.proofs.lemmas.Bool.Decides.{Decides-and, Decides-or, Decides-like, Decides-eqb}
use Rattle.tks_event.specs.Event.{Event}
use Rattle.tks_event.specs.declared.pattern.Pattern.{Pattern}
use Rattle.tks_bind.specs.Matching.{fits, may_follow, may_lie_before}
use Rattle.tks_bind.specs.Occurs.{FitsAt, Follows, EndsAt, turned, Occurs}
use Rattle.tks_bind.specs.Search.{goes_back, comes_before, fits_at, goes_on_at, ends_at}

none_is_some : {X : Type 0} (o : Option X) (x : X) → o ≡ None → o ≡ Some x → ⊥
none_is_some {X = X} o x e f = let g : ◌≡◌ {A = Option X} None (Some x) = sym e ∙ f in cc

one_event : {X : Type 0} (o : Option X) (x y : X) → o ≡ Some x → o ≡ Some y → y ≡ x
one_event {X = X} o x y e f = let g : ◌≡◌ {A = Option X} (Some x) (Some y) = sym e ∙ f in cc

never : {P : Type 0} → ¬ P → Decides false P
never f = (λ e. absurd (let g : false ≡ true = e in cc), λ p. absurd (f p))

is_itself : (v : Bool) → Decides v (v ≡ true)
is_itself v = (λ e. e, λ e. e)

module _ (p : Pattern) (e : Event) (history : List Event) (reached : ℕ → Bool) (Ends : ℕ → Type 0) (ends : (n : ℕ) → Decides (reached n) (Ends n)) where
  -- the patterns before end at a place below this one
  abbrev Before : ℕ → Type 0
  Before n = (from : ℕ) × (d : Event) × Follows p history from d n e × Ends from

  -- one place more, and one less
  longer : (n from : ℕ) (d : Event) → ((b : Event) → slice_get history n ≡ Some b → may_lie_before e b ≡ true) → Follows p history from d n e → Follows p history from d (suc n) e
  longer n from d at_n f = record {
    rises = let low = f.rises in omega arith;
    stands = f.stands;
    may_follow = f.may_follow;
    between = λ place b low high s. by place b low high s (place == n) (Decides-eqb place n);
  }
    where
      by : (place : ℕ) (b : Event) → from < place → place < suc n → slice_get history place ≡ Some b → (c : Bool) → Decides c (place ≡ n) → may_lie_before e b ≡ true
      by place b low high s true same = at_n b (subst (λ k. slice_get history k ≡ Some b) (same.0 refl) s)
      by place b low high s false same =
          let other : place ≢ n = λ g. let h : false ≡ true = same.1 g in cc in
          f.between place b low (omega (arith, other)) s

  shorter : (n from : ℕ) (d : Event) → from < n → Follows p history from d (suc n) e → Follows p history from d n e
  shorter n from d low f = record { rises = low; stands = f.stands; may_follow = f.may_follow; between = λ place b from_low high s. f.between place b from_low (omega arith) s }

  below : (n from : ℕ) → from < suc n → (c : Bool) → Decides c (from ≡ n) → c ≡ false → from < n
  below n from low c same e = let other : from ≢ n = λ g. let h : false ≡ true = sym e ∙ same.1 g in cc in omega (arith, other)

  before_none : Before zero → ⊥
  before_none (from, d, f, there) = let low = f.rises in omega arith

  -- nothing stands at the place below
  down_none : (n : ℕ) → slice_get history n ≡ None → Before (suc n) → Before n
  down_none n gone (from, d, f, there) = by (from == n) (Decides-eqb from n) refl
    where
      by : (c : Bool) → Decides c (from ≡ n) → c ≡ c → (k : ℕ) × (b : Event) × Follows p history k b n e × Ends k
      by true same r = absurd (none_is_some (slice_get history n) d gone (subst (λ k. slice_get history k ≡ Some d) (same.0 refl) f.stands))
      by false same r = (from, d, shorter n from d (below n from f.rises false same refl) f, there)

  up_none : (n : ℕ) → slice_get history n ≡ None → Before n → Before (suc n)
  up_none n gone (from, d, f, there) = (from, d, longer n from d (λ b s. absurd (none_is_some (slice_get history n) b gone s)) f, there)

  down_some : (n : ℕ) (d : Event) → slice_get history n ≡ Some d → Before (suc n) → (Ends n × (may_follow p d e ≡ true)) ⊎ ((may_lie_before e d ≡ true) × Before n)
  down_some n d stands (from, b, f, there) = by (from == n) (Decides-eqb from n)
    where
      by : (c : Bool) → Decides c (from ≡ n) → (Ends n × (may_follow p d e ≡ true)) ⊎ ((may_lie_before e d ≡ true) × Before n)
      by true same =
          let at_n : slice_get history n ≡ Some b = subst (λ k. slice_get history k ≡ Some b) (same.0 refl) f.stands in
          inl (subst Ends (same.0 refl) there, subst (λ x. may_follow p x e ≡ true) (one_event (slice_get history n) d b stands at_n) f.may_follow)
      by false same =
          let low = below n from f.rises false same refl in
          inr (f.between n d low (omega arith) stands, (from, b, shorter n from b low f, there))

  up_some : (n : ℕ) (d : Event) → slice_get history n ≡ Some d → (Ends n × (may_follow p d e ≡ true)) ⊎ ((may_lie_before e d ≡ true) × Before n) → Before (suc n)
  up_some n d stands (inl here) =
      (n, d, record { rises = omega arith; stands = stands; may_follow = here.1; between = λ place b low high s. absurd (omega arith) }, here.0)
  up_some n d stands (inr (may, before)) =
      let at_n = λ (b : Event) (s : slice_get history n ≡ Some b). subst (λ x. may_lie_before e x ≡ true) (sym (one_event (slice_get history n) d b stands s)) may in
      (before.0, before.1, longer n before.0 before.1 at_n before.2, before.3)

  pub before_so : (n : ℕ) → Decides (comes_before p e reached history n) (Before n)
  before_so zero = never before_none
  before_so (suc n) = by (slice_get history n) refl (before_so n)
    where
      by : (o : Option Event) → slice_get history n ≡ o → Decides (comes_before p e reached history n) (Before n)
          → Decides (goes_back p e (reached n) o (comes_before p e reached history n)) (Before (suc n))
      by None gone rest = Decides-like (comes_before p e reached history n) (up_none n gone) (down_none n gone) rest
      by (Some d) stands rest =
          Decides-like ((reached n && may_follow p d e) || (may_lie_before e d && comes_before p e reached history n)) (up_some n d stands) (down_some n d stands) (
          Decides-or (reached n && may_follow p d e) (may_lie_before e d && comes_before p e reached history n)
          (Decides-and (reached n) (may_follow p d e) (ends n) (is_itself (may_follow p d e)))
          (Decides-and (may_lie_before e d) (comes_before p e reached history n) (is_itself (may_lie_before e d)) rest)
          )

pub ends_so : (ps : List Pattern) (history : List Event) (place : ℕ) → Decides (ends_at ps history place) (EndsAt ps history place)
ends_so [] history place = never (λ h. h)
ends_so (p ∷ []) history place = by (slice_get history place) refl
  where
    by : (o : Option Event) → slice_get history place ≡ o → Decides (fits_at p o) ((e : Event) × FitsAt p history place e × Unit {0})
    by None gone = never (λ h. none_is_some (slice_get history place) h.0 gone h.1.stands)
    by (Some e) stands =
        Decides-like (fits p e) (λ f. (e, record { stands = stands; fits = f }, tt))
        (λ h. subst (λ x. fits p x ≡ true) (one_event (slice_get history place) e h.0 stands h.1.stands) h.1.fits) (is_itself (fits p e))
ends_so (p ∷ q ∷ before) history place = by (λ n. ends_so (q ∷ before) history n) (slice_get history place) refl
  where
    by : ((n : ℕ) → Decides (ends_at (q ∷ before) history n) (EndsAt (q ∷ before) history n)) → (o : Option Event) → slice_get history place ≡ o
        → Decides (goes_on_at p (λ n. ends_at (q ∷ before) history n) history place o)
        ((e : Event) × FitsAt p history place e × ((from : ℕ) × (d : Event) × Follows p history from d place e × EndsAt (q ∷ before) history from))
    by ends None gone = never (λ h. none_is_some (slice_get history place) h.0 gone h.1.stands)
    by ends (Some e) stands =
        Decides-like (fits p e && comes_before p e (λ n. ends_at (q ∷ before) history n) history place)
        (λ f. (e, record { stands = stands; fits = f.0 }, f.1))
        (λ h. subst (λ x. (fits p x ≡ true) × ((from : ℕ) × (d : Event) × Follows p history from d place x × EndsAt (q ∷ before) history from))
        (one_event (slice_get history place) e h.0 stands h.1.stands) (h.1.fits, h.2))
        (Decides-and (fits p e) (comes_before p e (λ n. ends_at (q ∷ before) history n) history place) (is_itself (fits p e))
        (before_so p e history (λ n. ends_at (q ∷ before) history n) (λ n. EndsAt (q ∷ before) history n) ends place))

pub occurs_so : (sequence : List Pattern) (history : List Event) → Decides (ends_at (turned sequence []) history (length history - 1)) (Occurs sequence history)
occurs_so sequence history = ends_so (turned sequence []) history (length history - 1)
