-- What the two passes find is the chosen binding.
use Rattle.std.specs.List.{filter}
use Rattle.std.proofs.Common.{◌≡◌, ◌⊎◌, inl, inr, ◌≤◌, ◌&&◌, not, nat_lt, if◌then◌else◌, Bool, true, false, List, [], ◌∷◌, ◌++◌, Option, Some, None, refl, ap, sym, subst, ◌∙◌, arith}
use Rattle.std.proofs.lemmas.Bool.Decides.{nat_tests}
use Rattle.tks_bind.specs.declared.binding.Binding.{Binding}
use Rattle.tks_bind.specs.declared.through.Through.{Through}
use Rattle.tks_bind.specs.Choice.{Way, Beats}
use Rattle.tks_bind.specs.Beating.{beats}
use Rattle.tks_bind.specs.Chosen.{Scene, IsOneOf, Candidate, Wins, ChosenSo}
use Rattle.tks_bind.specs.Choosing.{meets}
use Rattle.tks_bind.specs.Endings.{named, is_under}
use Rattle.tks_bind.specs.Passes.{Trial, trials_by, trials_through, beats_top, is_higher, highest, isnt_beaten_by, is_unbeaten, is_later, latest, latest_from, found}
use Rattle.tks_bind.proofs.Deciding.{beats_so}
use Rattle.tks_bind.proofs.Order.{never_itself, beats_along}

-- ---- one list behind another

pub highest_append : (s : Scene) (top : Option Trial) (ts us : List Trial) → highest s top (ts ++ us) ≡ highest s (highest s top ts) us
highest_append s top [] us = refl
highest_append s top (t ∷ ts) us = highest_append s (if is_higher s top t then Some t else top) ts us

pub latest_append : (s : Scene) (all : List Trial) (top best : Trial) (ts us : List Trial) → latest s all top best (ts ++ us) ≡ latest s all top (latest s all top best ts) us
latest_append s all top best [] us = refl
latest_append s all top best (t ∷ ts) us = latest_append s all top (if is_later s all top best t then t else best) ts us

-- sequences behind others
pub highest_behind : (s : Scene) (top : Option Trial) (ts us : List Through)
    → highest s top (trials_through s (ts ++ us)) ≡ highest s (highest s top (trials_through s ts)) (trials_through s us)
highest_behind s top [] us = refl
highest_behind s top (t ∷ ts) us =
    let by = trials_by (Some t.sequence) (filter (is_under s.tag (named t.name)) s.bindings) in
    highest_append s top by (trials_through s (ts ++ us))
    ∙ highest_behind s (highest s top by) ts us
    ∙ ap (λ o. highest s o (trials_through s us)) (sym (highest_append s top by (trials_through s ts)))

pub latest_behind : (s : Scene) (all : List Trial) (top best : Trial) (ts us : List Through)
    → latest s all top best (trials_through s (ts ++ us)) ≡ latest s all top (latest s all top best (trials_through s ts)) (trials_through s us)
latest_behind s all top best [] us = refl
latest_behind s all top best (t ∷ ts) us =
    let by = trials_by (Some t.sequence) (filter (is_under s.tag (named t.name)) s.bindings) in
    latest_append s all top best by (trials_through s (ts ++ us))
    ∙ latest_behind s all top (latest s all top best by) ts us
    ∙ ap (λ o. latest s all top o (trials_through s us)) (sym (latest_append s all top best by (trials_through s ts)))

-- ---- what a test that takes several says

first_of : (a b : Bool) → (a && b) ≡ true → a ≡ true
first_of true b h = refl
first_of false b h = h

second_of : (a b : Bool) → (a && b) ≡ true → b ≡ true
second_of true b h = h
second_of false b h = absurd (let g : false ≡ true = h in cc)

never_both : (b : Bool) → b ≡ true → b ≡ false → ⊥
never_both b h k = let g : true ≡ false = sym h ∙ k in cc

one_trial : (t u : Trial) → ◌≡◌ {A = Option Trial} (Some t) (Some u) → t ≡ u
one_trial t u e = cc

some_trial : (t : Trial) → ◌≡◌ {A = Option Trial} (Some t) None → ⊥
some_trial t e = cc

beat : (a b : Way) → beats a b ≡ true → Beats a b
beat a b h = (beats_so a b).0 h

module _ (s : Scene) where
  -- one of some is tried, and met
  abbrev IsMet : List Trial → Trial → Type 0
  IsMet ts t = IsOneOf t ts × (meets s t.way.sequence ≡ true)

  -- ---- the first pass

  -- one of those that are met, or the one that was there; it is that one, or beats it, and none that is met beats it
  record IsTop (top : Option Trial) (ts : List Trial) (r : Trial) : Type 0 where
    from : (Some r ≡ top) ⊎ IsMet ts r
    above : (t : Trial) → top ≡ Some t → (r ≡ t) ⊎ Beats r.way t.way
    none : (t : Trial) → IsMet ts t → ¬ Beats t.way r.way

  -- one that is beaten by what is beaten
  along : (t u r : Trial) → (r ≡ u) ⊎ Beats r.way u.way → Beats t.way r.way → Beats t.way u.way
  along t u r (inl same) h = subst (λ (x : Trial). Beats t.way x.way) same h
  along t u r (inr k) h = beats_along t.way r.way u.way h k

  higher : (top : Option Trial) (t : Trial) (ts : List Trial) (r : Trial) → is_higher s top t ≡ true → IsTop (Some t) ts r → IsTop top (t ∷ ts) r
  higher top t ts r h k = record { from = inr (from k.from); above = above top h; none = none }
    where
      met : meets s t.way.sequence ≡ true
      met = second_of (beats_top top t) (meets s t.way.sequence) h

      from : (Some r ≡ Some t) ⊎ IsMet ts r → IsMet (t ∷ ts) r
      from (inl e) = let same = one_trial r t e in (inl same, subst (λ (x : Trial). meets s x.way.sequence ≡ true) (sym same) met)
      from (inr m) = (inr m.0, m.1)

      above : (o : Option Trial) → is_higher s o t ≡ true → (u : Trial) → o ≡ Some u → (r ≡ u) ⊎ Beats r.way u.way
      above None g u e = absurd (some_trial u (sym e))
      above (Some v) g u e =
          let over = beat t.way v.way (first_of (beats t.way v.way) (meets s t.way.sequence) g) in
          inr (subst (λ (x : Trial). Beats r.way x.way) (one_trial v u e) (by (k.above t refl) over))
        where
          by : (r ≡ t) ⊎ Beats r.way t.way → Beats t.way v.way → Beats r.way v.way
          by (inl same) over = subst (λ (x : Trial). Beats x.way v.way) (sym same) over
          by (inr b) over = beats_along r.way t.way v.way b over

      none : (u : Trial) → IsMet (t ∷ ts) u → ¬ Beats u.way r.way
      none u (inl same, m) b = never_itself t.way (along t t r (k.above t refl) (subst (λ (x : Trial). Beats x.way r.way) same b))
      none u (inr i, m) b = k.none u (i, m) b

  passed : (top : Option Trial) (t : Trial) (ts : List Trial) (r : Trial) → is_higher s top t ≡ false → IsTop top ts r → IsTop top (t ∷ ts) r
  passed top t ts r h k = record { from = from k.from; above = k.above; none = none }
    where
      from : (Some r ≡ top) ⊎ IsMet ts r → (Some r ≡ top) ⊎ IsMet (t ∷ ts) r
      from (inl e) = inl e
      from (inr m) = inr (inr m.0, m.1)

      under : (o : Option Trial) → is_higher s o t ≡ false → meets s t.way.sequence ≡ true → ((u : Trial) → o ≡ Some u → (r ≡ u) ⊎ Beats r.way u.way) → ¬ Beats t.way r.way
      under None g m above b = never_both (meets s t.way.sequence) m g
      under (Some v) g m above b =
          let over : Beats t.way v.way = along t v r (above v refl) b in
          let yes : beats t.way v.way ≡ true = (beats_so t.way v.way).1 over in
          never_both (meets s t.way.sequence) m (let f : (beats t.way v.way && meets s t.way.sequence) ≡ false = g in rw yes at f)

      none : (u : Trial) → IsMet (t ∷ ts) u → ¬ Beats u.way r.way
      none u (inl same, m) b = under top h (subst (λ (x : Trial). meets s x.way.sequence ≡ true) same m) k.above (subst (λ (x : Trial). Beats x.way r.way) same b)
      none u (inr i, m) b = k.none u (i, m) b

  highest_some : (top : Option Trial) (ts : List Trial) (r : Trial) → highest s top ts ≡ Some r → IsTop top ts r
  highest_some top [] r e = record { from = inl (sym e); above = λ t f. inl (one_trial r t (sym e ∙ f)); none = λ t m. absurd m.0 }
  highest_some top (t ∷ ts) r e = by (is_higher s top t) refl e (λ o. highest_some o ts r)
    where
      by : (b : Bool) → is_higher s top t ≡ b → highest s (if b then Some t else top) ts ≡ Some r
          → ((o : Option Trial) → highest s o ts ≡ Some r → IsTop o ts r) → IsTop top (t ∷ ts) r
      by true h f rest = higher top t ts r h (rest (Some t) f)
      by false h f rest = passed top t ts r h (rest top f)

  -- there is none where none is met
  highest_none : (top : Option Trial) (ts : List Trial) → highest s top ts ≡ None → (top ≡ None) × ((t : Trial) → ¬ IsMet ts t)
  highest_none top [] e = (e, λ t m. m.0)
  highest_none top (t ∷ ts) e = by (is_higher s top t) refl e (λ o. highest_none o ts)
    where
      none : (o : Option Trial) → o ≡ None → is_higher s o t ≡ false → meets s t.way.sequence ≡ true → ⊥
      none None e h m = never_both (meets s t.way.sequence) m h
      none (Some u) e h m = some_trial u e

      over : is_higher s top t ≡ false → (top ≡ None) × ((u : Trial) → ¬ IsMet ts u) → (u : Trial) → ¬ IsMet (t ∷ ts) u
      over h rest u (inl same, m) = none top rest.0 h (subst (λ (x : Trial). meets s x.way.sequence ≡ true) same m)
      over h rest u (inr i, m) = rest.1 u (i, m)

      by : (b : Bool) → is_higher s top t ≡ b → highest s (if b then Some t else top) ts ≡ None
          → ((o : Option Trial) → highest s o ts ≡ None → (o ≡ None) × ((u : Trial) → ¬ IsMet ts u)) → (top ≡ None) × ((u : Trial) → ¬ IsMet (t ∷ ts) u)
      by true h f rest = absurd (some_trial t (rest (Some t) f).0)
      by false h f rest = let left = rest top f in (left.0, over h left)

  -- ---- the second pass

  unbeaten_told : (all : List Trial) (t : Trial) → is_unbeaten s all t ≡ true → (u : Trial) → IsMet all u → ¬ Beats u.way t.way
  unbeaten_told all t h u m b = by (highest s (Some t) all) refl h
    where
      by : (o : Option Trial) → highest s (Some t) all ≡ o → isnt_beaten_by o t ≡ true → ⊥
      by None e g = some_trial t (highest_none (Some t) all e).0
      by (Some r) e g = let k = highest_some (Some t) all r e in at k (k.above t refl)
        where
          at : IsTop (Some t) all r → (r ≡ t) ⊎ Beats r.way t.way → ⊥
          at k (inl same) = k.none u m (subst (λ (x : Trial). Beats u.way x.way) (sym same) b)
          at k (inr over) = let yes = (beats_so r.way t.way).1 over in let f : not (beats r.way t.way) ≡ true = g in let l : false ≡ true = rw yes at f in cc

  beaten_told : (all : List Trial) (t : Trial) → is_unbeaten s all t ≡ false → (u : Trial) × IsMet all u × Beats u.way t.way
  beaten_told all t h = by (highest s (Some t) all) refl h
    where
      by : (o : Option Trial) → highest s (Some t) all ≡ o → isnt_beaten_by o t ≡ false → (u : Trial) × IsMet all u × Beats u.way t.way
      by None e g = absurd (let f : true ≡ false = g in cc)
      by (Some r) e g = at (beats r.way t.way) refl g (highest_some (Some t) all r e).from
        where
          at : (b : Bool) → beats r.way t.way ≡ b → not b ≡ false → (Some r ≡ Some t) ⊎ IsMet all r → (u : Trial) × IsMet all u × Beats u.way t.way
          at false f g from = absurd (let k : true ≡ false = g in cc)
          at true f g (inl e) = absurd (never_itself t.way (subst (λ (x : Trial). Beats x.way t.way) (one_trial r t e) (beat r.way t.way f)))
          at true f g (inr m) = (r, m, beat r.way t.way f)

-- what is tried and met is what the event meets
pub record Covers (s : Scene) (all : List Trial) : Type 0 where
  pub sound : (t : Trial) → IsOneOf t all → meets s t.way.sequence ≡ true → Candidate s t.binding t.way
  pub complete : (b : Binding) (w : Way) → Candidate s b w → IsOneOf (record { binding = b; way = w }) all × (meets s w.sequence ≡ true)

module _ (s : Scene) (all : List Trial) (covers : Covers s all) where
  abbrev HasWon : Trial → Type 0
  HasWon t = Wins s t.binding t.way

  won : (t : Trial) → IsMet s all t → ((u : Trial) → IsMet s all u → ¬ Beats u.way t.way) → HasWon t
  won t m none = record {
    candidate = covers.sound t m.0 m.1;
    unbeaten = λ c v k. none (record { binding = c; way = v }) (covers.complete c v k);
  }

  -- one that is passed over is set no later, or doesn't win
  passed_over : (top best t : Trial) → HasWon top → is_later s all top best t ≡ false → HasWon t → t.binding.number ≤ best.binding.number
  passed_over top best t high h w = by (nat_lt best.binding.number t.binding.number) refl h
    where
      met : meets s t.way.sequence ≡ true
      met = (covers.complete t.binding t.way w.candidate).1

      at : (b c d : Bool) → beats top.way t.way ≡ b → meets s t.way.sequence ≡ c → is_unbeaten s all t ≡ d → (not b && (c && d)) ≡ false → ⊥
      at true c d e f g k = w.unbeaten top.binding top.way high.candidate (beat top.way t.way e)
      at false false d e f g k = never_both (meets s t.way.sequence) met f
      at false true true e f g k = let l : true ≡ false = k in cc
      at false true false e f g k =
          let u = beaten_told s all t g in
          w.unbeaten u.0.binding u.0.way (covers.sound u.0 u.1.0 u.1.1) u.2

      by : (b : Bool) → nat_lt best.binding.number t.binding.number ≡ b → (b && (not (beats top.way t.way) && (meets s t.way.sequence && is_unbeaten s all t))) ≡ false
          → t.binding.number ≤ best.binding.number
      by true lt g = absurd (at (beats top.way t.way) (meets s t.way.sequence) (is_unbeaten s all t) refl refl refl g)
      by false lt g = grind (arith, nat_tests)

  -- one that is taken wins, and was set later
  taken : (top best t : Trial) → IsOneOf t all → is_later s all top best t ≡ true → HasWon t × (best.binding.number ≤ t.binding.number)
  taken top best t i h =
      let later = first_of (nat_lt best.binding.number t.binding.number) (not (beats top.way t.way) && (meets s t.way.sequence && is_unbeaten s all t)) h in
      let rest = second_of (nat_lt best.binding.number t.binding.number) (not (beats top.way t.way) && (meets s t.way.sequence && is_unbeaten s all t)) h in
      let both = second_of (not (beats top.way t.way)) (meets s t.way.sequence && is_unbeaten s all t) rest in
      let met = first_of (meets s t.way.sequence) (is_unbeaten s all t) both in
      let none = second_of (meets s t.way.sequence) (is_unbeaten s all t) both in
      (won t (i, met) (unbeaten_told s all t none), grind (arith, nat_tests))

  -- one that has won, was set no earlier than the best one, and no earlier than those of some that win
  abbrev Latest : Trial → List Trial → Trial → Type 0
  Latest best ts r = HasWon r × (best.binding.number ≤ r.binding.number) × ((t : Trial) → IsOneOf t ts → HasWon t → t.binding.number ≤ r.binding.number)

  with_it : (best t : Trial) (ts : List Trial) (r : Trial) → best.binding.number ≤ t.binding.number → Latest t ts r → Latest best (t ∷ ts) r
  with_it best t ts r low (v, more, rest) = (v, omega arith, over)
    where
      over : (u : Trial) → IsOneOf u (t ∷ ts) → HasWon u → u.binding.number ≤ r.binding.number
      over u (inl same) k = let n = ap (λ (x : Trial). x.binding.number) same in omega (arith, n)
      over u (inr i) k = rest u i k

  without_it : (best t : Trial) (ts : List Trial) (r : Trial) → (HasWon t → t.binding.number ≤ best.binding.number) → Latest best ts r → Latest best (t ∷ ts) r
  without_it best t ts r low (v, more, rest) = (v, more, over)
    where
      over : (u : Trial) → IsOneOf u (t ∷ ts) → HasWon u → u.binding.number ≤ r.binding.number
      over u (inl same) k =
          let n = ap (λ (x : Trial). x.binding.number) same in
          let l = low (subst HasWon same k) in
          omega (arith, n, l, more)
      over u (inr i) k = rest u i k

  latest_so : (top best : Trial) (ts : List Trial) → HasWon top → HasWon best → ((t : Trial) → IsOneOf t ts → IsOneOf t all) → Latest best ts (latest s all top best ts)
  latest_so top best [] high w inside = (w, omega arith, λ t i k. absurd i)
  latest_so top best (t ∷ ts) high w inside = by (is_later s all top best t) refl (λ u v. latest_so top u ts high v (λ x i. inside x (inr i)))
    where
      by : (b : Bool) → is_later s all top best t ≡ b → ((u : Trial) → HasWon u → Latest u ts (latest s all top u ts))
          → Latest best (t ∷ ts) (latest s all top (if b then t else best) ts)
      by true h rest = let its = taken top best t (inside t (inl refl)) h in with_it best t ts (latest s all top t ts) its.1 (rest t its.0)
      by false h rest = without_it best t ts (latest s all top best ts) (passed_over top best t high h) (rest best w)

  pub found_so : ChosenSo s (found s all)
  found_so = by (highest s None all) refl
    where
      by : (o : Option Trial) → highest s None all ≡ o → ChosenSo s (latest_from s all o)
      by None e = λ b w k. (highest_none s None all e).1 (record { binding = b; way = w }) (covers.complete b w k)
      by (Some top) e =
          let k = highest_some s None all top e in
          let high = won top (there k.from) k.none in
          let last = latest_so top top all high high (λ t i. i) in
          record {
            wins = ((latest s all top top all).way, last.0);
            last = λ c v w. last.2 (record { binding = c; way = v }) (covers.complete c v w.candidate).0 w;
          }
        where
          there : (Some top ≡ None) ⊎ IsMet s all top → IsMet s all top
          there (inl f) = absurd (some_trial top f)
          there (inr m) = m
