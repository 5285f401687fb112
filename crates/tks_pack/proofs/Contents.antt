-- A window's place among contents.
use Rattle.std.specs.List.{remove}
use Rattle.std.proofs.Common.{◌≡◌, ◌<◌, ◌≤◌, ℕ, zero, suc, ◌==◌, Bool, true, false, List, [], ◌∷◌, ◌++◌, length, slice_set, refl, ap, arith}
use Rattle.std.proofs.lemmas.Bool.{eqb-true}
use Rattle.tks_pack.specs.declared.packing.Content.{Content}
use Rattle.tks_pack.specs.Indexes.{index_of, AllUpTo}
use Rattle.tks_pack.specs.Packing.{settings_of, put, taken_out}
use Rattle.tks_pack.specs.Settings.{default_settings}

-- ---- windows that were made later than all that are packed

newer : (a w n : ℕ) → a ≤ n → n < w → (a == w) ≡ false
newer a w n h k = by (a == w) refl
  where
    by : (b : Bool) → (a == w) ≡ b → (a == w) ≡ false
    by true e = absurd (let same = eqb-true a w e in omega (arith, same, h, k))
    by false e = e

pub settings_new : (w n : ℕ) (cs : List Content) → AllUpTo n cs → n < w → settings_of w cs ≡ default_settings
settings_new w n [] h k = refl
settings_new w n (c ∷ cs) h k = rw (newer c.window w n h.0 k) (settings_new w n cs h.1 k)

pub index_new : (w n : ℕ) (cs : List Content) → AllUpTo n cs → n < w → index_of w cs ≡ length cs
index_new w n [] h k = refl
index_new w n (c ∷ cs) h k = rw (newer c.window w n h.0 k) (ap suc (index_new w n cs h.1 k))

-- ---- what is done to contents

-- where it is there, it is replaced
pub put_there : (d : Content) (cs : List Content) → index_of d.window cs < length cs → slice_set cs (index_of d.window cs) d ≡ put d.window d.settings cs
put_there d [] h = absurd (omega (arith, h))
put_there d (c ∷ cs) h = by (c.window == d.window) refl h (put_there d cs)
  where
    by : (t : Bool) → (c.window == d.window) ≡ t → index_of d.window (c ∷ cs) < suc (length cs)
        → (index_of d.window cs < length cs → slice_set cs (index_of d.window cs) d ≡ put d.window d.settings cs)
        → slice_set (c ∷ cs) (index_of d.window (c ∷ cs)) d ≡ put d.window d.settings (c ∷ cs)
    by true e i rest = rw e refl
    by false e i rest = rw e (let j : suc (index_of d.window cs) < suc (length cs) = rw e at i in ap (λ r. c ∷ r) (rest (omega arith)))

-- where it isn't, it comes last
pub put_last : (d : Content) (cs : List Content) → length cs ≤ index_of d.window cs → cs ++ d ∷ [] ≡ put d.window d.settings cs
put_last d [] h = refl
put_last d (c ∷ cs) h = by (c.window == d.window) refl h (put_last d cs)
  where
    by : (t : Bool) → (c.window == d.window) ≡ t → suc (length cs) ≤ index_of d.window (c ∷ cs)
        → (length cs ≤ index_of d.window cs → cs ++ d ∷ [] ≡ put d.window d.settings cs) → (c ∷ cs) ++ d ∷ [] ≡ put d.window d.settings (c ∷ cs)
    by true e i rest = absurd (let j : suc (length cs) ≤ 0 = rw e at i in omega arith)
    by false e i rest = rw e (let j : suc (length cs) ≤ suc (index_of d.window cs) = rw e at i in ap (λ r. c ∷ r) (rest (omega arith)))

pub taken_there : (w : ℕ) (cs : List Content) → index_of w cs < length cs → remove cs (index_of w cs) ≡ taken_out w cs
taken_there w [] h = absurd (omega (arith, h))
taken_there w (c ∷ cs) h = by (c.window == w) refl h (taken_there w cs)
  where
    by : (t : Bool) → (c.window == w) ≡ t → index_of w (c ∷ cs) < suc (length cs) → (index_of w cs < length cs → remove cs (index_of w cs) ≡ taken_out w cs)
        → remove (c ∷ cs) (index_of w (c ∷ cs)) ≡ taken_out w (c ∷ cs)
    by true e i rest = rw e refl
    by false e i rest = rw e (let j : suc (index_of w cs) < suc (length cs) = rw e at i in ap (λ r. c ∷ r) (rest (omega arith)))

pub none_taken : (w : ℕ) (cs : List Content) → length cs ≤ index_of w cs → cs ≡ taken_out w cs
none_taken w [] h = refl
none_taken w (c ∷ cs) h = by (c.window == w) refl h (none_taken w cs)
  where
    by : (t : Bool) → (c.window == w) ≡ t → suc (length cs) ≤ index_of w (c ∷ cs) → (length cs ≤ index_of w cs → cs ≡ taken_out w cs)
        → c ∷ cs ≡ taken_out w (c ∷ cs)
    by true e i rest = absurd (let j : suc (length cs) ≤ 0 = rw e at i in omega arith)
    by false e i rest = rw e (let j : suc (length cs) ≤ suc (index_of w cs) = rw e at i in ap (λ r. c ∷ r) (rest (omega arith)))

-- ---- that none is newer

pub up_to_more : (m n : ℕ) (cs : List Content) → m ≤ n → AllUpTo m cs → AllUpTo n cs
up_to_more m n [] le h = tt
up_to_more m n (c ∷ cs) le h = (omega (arith, le, h.0), up_to_more m n cs le h.1)

pub up_to_pushed : (n : ℕ) (cs : List Content) (d : Content) → AllUpTo n cs → d.window ≤ n → AllUpTo n (cs ++ d ∷ [])
up_to_pushed n [] d h k = (k, tt)
up_to_pushed n (c ∷ cs) d h k = (h.0, up_to_pushed n cs d h.1 k)

-- one takes the place of the same window's
pub up_to_set : (n : ℕ) (cs : List Content) (d : Content) → AllUpTo n cs → index_of d.window cs < length cs → AllUpTo n (slice_set cs (index_of d.window cs) d)
up_to_set n [] d h k = absurd (omega (arith, k))
up_to_set n (c ∷ cs) d h k = by (c.window == d.window) refl k (up_to_set n cs d h.1)
  where
    by : (t : Bool) → (c.window == d.window) ≡ t → index_of d.window (c ∷ cs) < suc (length cs)
        → (index_of d.window cs < length cs → AllUpTo n (slice_set cs (index_of d.window cs) d)) → AllUpTo n (slice_set (c ∷ cs) (index_of d.window (c ∷ cs)) d)
    by true e i rest = rw e (let same = eqb-true c.window d.window e in (omega (arith, h.0, same), h.1))
    by false e i rest = rw e (let j : suc (index_of d.window cs) < suc (length cs) = rw e at i in (h.0, rest (omega arith)))

pub up_to_removed : (n : ℕ) (cs : List Content) (i : ℕ) → AllUpTo n cs → AllUpTo n (remove cs i)
up_to_removed n [] zero h = tt
up_to_removed n [] (suc i) h = tt
up_to_removed n (c ∷ cs) zero h = h.1
up_to_removed n (c ∷ cs) (suc i) h = (h.0, up_to_removed n cs i h.1)
