-- Reading the members of a list one after the other, as a loop does.
use Rattle.std.proofs.Common.{◌≡◌, ℕ, Bool, zero, suc, ◌-◌, ◌+◌, ◌≤◌, ◌<◌, List, [], ◌∷◌, ◌++◌, length, take, drop, get_or, Option, Some, None, Ok, Err, refl, sym, ap, subst, ◌∙◌, append_assoc, arith}
use Rattle.std.specs.List.{AllByRecursion}
use Rattle.std.proofs.lemmas.List.{append-nil, take_more, take_at, take-append-drop}
use Rattle.tks_spelling.specs.declared.unread.Unread.{Unread}
use Rattle.tks_spelling.specs.declared.unread.Unread.TheVariants as unread
use Rattle.tks_spelling.specs.Reading.{Fails}
use Rattle.tks_spelling.specs.Spelling.{Read, ◌>>=◌, Spelling, such_that, last_of, AreLegal, members, members_at, is_behind, Rise}

pub last_is : {T : Type 0} (before : Option T) (xs : List T) (x : T) → last_of before (xs ++ x ∷ []) ≡ Some x
last_is before [] x = refl
last_is before (y ∷ xs) x = last_is (Some y) xs x

-- what was read before, and what is still read
abbrev pub with_front : {T : Type 0} → List T → Read (List T) → Read (List T)
with_front front read = read >>= λ x. Ok (front ++ x.0, x.1)

module _ {T : Type 0} (member : Option T → Spelling T) where
  regroup : (front : List T) (v : T) (read : Read (List T)) → with_front front (read >>= λ x. Ok (v ∷ x.0, x.1)) ≡ with_front (front ++ v ∷ []) read
  regroup front v (Ok x) = ap (λ (vs : List T). Ok (vs, x.1)) (sym (append_assoc front (v ∷ []) x.0))
  regroup front v (Err f) = refl

  pub goes_on : (before : Option T) (front : List T) (count i : ℕ) (bytes : List ℕ) (v : T) (after : List ℕ) (total : Read (List T)) → i < count → (member before).read bytes ≡ Ok (v, after)
      → with_front front (members_at member before (count - i) bytes) ≡ total → with_front (front ++ v ∷ []) (members_at member (Some v) (count - (i + 1)) after) ≡ total
  unfolding members_at
  goes_on before front count i bytes v after total lt h so_far =
      let k : count - i ≡ suc (count - (i + 1)) = omega arith in
      let one : with_front front (members_at member before (count - i) bytes) ≡ with_front (front ++ v ∷ []) (members_at member (Some v) (count - (i + 1)) after) = rw (k, h) (regroup front v (members_at member (Some v) (count - (i + 1)) after)) in
      sym one ∙ so_far

  pub ends : (e : Unread) (before : Option T) (front : List T) (count i : ℕ) (bytes : List ℕ) (total : Read (List T)) → i < count → Fails e ((member before).read bytes)
      → with_front front (members_at member before (count - i) bytes) ≡ total → Fails e total
  unfolding members_at
  ends unread.NoMemory before front count i bytes total lt h so_far = tt
  ends (unread.Left f) before front count i bytes total lt h so_far =
      let k : count - i ≡ suc (count - (i + 1)) = omega arith in
      let one : with_front front (members_at member before (count - i) bytes) ≡ Err f = rw (k, h) refl in
      sym so_far ∙ one

  pub is_done : (before : Option T) (front : List T) (count i : ℕ) (bytes : List ℕ) (total : Read (List T)) → count ≤ i → with_front front (members_at member before (count - i) bytes) ≡ total → total ≡ Ok (front, bytes)
  unfolding members_at
  is_done before front count i bytes total le so_far =
      let k : count - i ≡ 0 = omega arith in
      let one : with_front front (members_at member before (count - i) bytes) ≡ Ok (front, bytes) = rw k (ap (λ (vs : List T). Ok (vs, bytes)) (append-nil front)) in
      sym so_far ∙ one

pub last_at : {T : Type 0} (before : Option T) (xs : List T) (x : T) → 1 ≤ length xs → x ≡ get_or xs (length xs - 1) x → last_of before xs ≡ Some x
last_at before [] x some e = absurd (omega (arith, some))
last_at before (y ∷ []) x some e = ap (λ z. Some z) (sym e)
last_at before (y ∷ z ∷ zs) x some e =
    let k : suc (suc (length zs)) - 1 ≡ suc (suc (length zs) - 1) = omega arith in
    last_at (Some y) (z ∷ zs) x (omega arith) (e ∙ ap (λ n. get_or (y ∷ z ∷ zs) n x) k)

-- the members, and one more
pub members_more : {T : Type 0} (member : Option T → Spelling T) (before : Option T) (xs : List T) (x : T) → members member before (xs ++ x ∷ []) ≡ members member before xs ++ (member (last_of before xs)).write x
members_more member before [] x = append-nil ((member before).write x)
members_more member before (y ∷ xs) x =
    ap (λ (w : List ℕ). (member before).write y ++ w) (members_more member (Some y) xs x)
    ∙ sym (append_assoc ((member before).write y) (members member (Some y) xs) ((member (last_of (Some y) xs)).write x))

-- what holds of all, and of one more
pub all_more : {T : Type 0} (P : T → Type 0) (xs : List T) (x : T) → AllByRecursion P xs → P x → AllByRecursion P (xs ++ x ∷ [])
all_more P [] x h p = (p, tt)
all_more P (y ∷ xs) x h p = (h.0, all_more P xs x h.1 p)

-- Members were put behind other bytes up to this one, and this one behind them.
pub one_put : {T : Type 0} (member : Option T → Spelling T) (xs : List T) (i : ℕ) (x : T) (old now new : List ℕ) → i < length xs → x ≡ get_or xs i x → now ≡ old ++ members member None (take i xs) → new ≡ now ++ (member (last_of None (take i xs))).write x → new ≡ old ++ members member None (take (i + 1) xs)
one_put member xs i x old now new lt is so_far e =
    let more = take_more xs i x lt ∙ ap (λ y. take i xs ++ y ∷ []) (sym is) in
    e ∙ rw (so_far, more, members_more member None (take i xs) x) (append_assoc old (members member None (take i xs)) ((member (last_of None (take i xs))).write x))

-- What holds of those up to this one, and of this one.
pub one_holds : {T : Type 0} (P : T → Type 0) (xs : List T) (i : ℕ) (x : T) → i < length xs → x ≡ get_or xs i x → AllByRecursion P (take i xs) → P x → AllByRecursion P (take (i + 1) xs)
one_holds P xs i x lt is so_far p =
    let more = take_more xs i x lt ∙ ap (λ y. take i xs ++ y ∷ []) (sym is) in
    subst (AllByRecursion P) (sym more) (all_more P (take i xs) x so_far p)

-- What holds of all holds of this one.
pub one_of_all : {T : Type 0} (P : T → Type 0) (xs : List T) (i : ℕ) (x : T) → i < length xs → x ≡ get_or xs i x → AllByRecursion P xs → P x
one_of_all P [] i x lt is h = absurd (omega (arith, lt))
one_of_all P (y ∷ xs) zero x lt is h = subst P (sym is) h.0
one_of_all P (y ∷ xs) (suc i) x lt is h = one_of_all P xs i x (omega (arith, lt)) is h.1

-- members that are spelled each by itself
pub each_is_legal : {T : Type 0} (s : Spelling T) (before : Option T) (xs : List T) → AllByRecursion s.Legal xs → AreLegal (λ before. s) before xs
each_is_legal s before [] h = tt
each_is_legal s before (x ∷ xs) h = (h.0, each_is_legal s (Some x) xs h.1)

-- a test of the members leaves the bytes as they are
pub same_members : {T : Type 0} (test : Option T → T → Bool) (s : Spelling T) (a b : Option T) (xs : List T) → members (λ before. s) a xs ≡ members (λ before. such_that (test before) s) b xs
same_members test s a b [] = refl
same_members test s a b (x ∷ xs) = ap (λ (w : List ℕ). s.write x ++ w) (same_members test s (Some x) (Some x) xs)

-- members whose names rise
pub rising_legal : {T : Type 0} (name : T → List ℕ) (s : Spelling T) (a b : Option T) (xs : List T) → AreLegal (λ before. s) a xs → Rise name b xs → AreLegal (λ before. such_that (is_behind name before) s) b xs
rising_legal name s a b [] h r = tt
rising_legal name s a b (x ∷ xs) h r = ((h.0, r.0), rising_legal name s (Some x) (Some x) xs h.1 r.1)

-- ---- a loop over what an iterator has still to give

pub any_before : {T : Type 0} (s : Spelling T) (a b : Option T) (xs : List T) → members (λ before. s) a xs ≡ members (λ before. s) b xs
any_before s a b [] = refl
any_before s a b (x ∷ xs) = refl

-- one member more was put behind those before it
pub one_given : {T : Type 0} (s : Spelling T) (out new total : List ℕ) (xs : List T) (x : T) (rest : List T) → xs ≡ x ∷ rest → new ≡ out ++ s.write x → out ++ members (λ before. s) None xs ≡ total → new ++ members (λ before. s) None rest ≡ total
one_given s out new total xs x rest is put so_far =
    ap (λ (w : List ℕ). w ++ members (λ before. s) None rest) put
    ∙ append_assoc out (s.write x) (members (λ before. s) None rest)
    ∙ ap (λ (w : List ℕ). out ++ (s.write x ++ w)) (any_before s None (Some x) rest)
    ∙ ap (λ ys. out ++ members (λ before. s) None ys) (sym is)
    ∙ so_far

-- what stood at the front stays there
pub stays_there : (old out more new : List ℕ) → take (length old) out ≡ old → new ≡ out ++ more → take (length old) new ≡ old
stays_there old out more new there put =
    let whole : out ≡ old ++ drop (length old) out = sym (take-append-drop (length old) out) ∙ ap (λ (w : List ℕ). w ++ drop (length old) out) there in
    ap (take (length old)) (put ∙ ap (λ (w : List ℕ). w ++ more) whole ∙ append_assoc old (drop (length old) out) more) ∙ take_at old (drop (length old) out ++ more) (length old) refl

-- where nothing is asked of them
pub nothing_asked : {T : Type 0} (xs : List T) → AllByRecursion (λ x. Unit {0}) xs
nothing_asked [] = tt
nothing_asked (x ∷ xs) = (tt, nothing_asked xs)
