-- What holds of each kind of spelling, of what it is made of.
use Rattle.std.proofs.Common.{◌≡◌, ℕ, zero, suc, ◌+◌, ◌*◌, ◌^◌, ◌<◌, ◌≤◌, ◌⊎◌, inl, inr, Bool, true, false, cond, ltb, leb, eqb, List, [], ◌∷◌, ◌++◌, length, take, drop, Option, Some, None, Result, Ok, Err, refl, sym, ap, subst, ◌∙◌, append_assoc, arith}
use Rattle.std.specs.Int.{Width, w16, w32, w64, byte_len, from_be_bytes, to_be_bytes, cast_unsigned, cast_signed}
use Rattle.std.specs.List.{flat_map, AllByRecursion}
use Rattle.std.proofs.lemmas.Bool.{cases_lt, ltb-false, lt-ltb, le-ltb, eqb-true, leb-true}
use Rattle.std.proofs.lemmas.List.{append-nil, take_at, drop_at, take-append-drop, length-append, length-take, get_or-drop, get_or-take, get_or_past, nil_from_length}
use Rattle.std.proofs.lemmas.Int.{of_z-to_z}
use Rattle.std.proofs.lemmas.Nat.{be_bytes_2, be_bytes_4, be_bytes_8, from_be_bytes-to_be_bytes_2, from_be_bytes-to_be_bytes_4, from_be_bytes-to_be_bytes_8}
use Rattle.std.specs.Prelude.{◌||◌, ◌&&◌, ◌==◌}
use Rattle.tks_text.proofs.Texts.{both}
use Rattle.tks_text.specs.Text.{is_text_byte, IsText}
use Rattle.tks_spelling.specs.Spelling.{◌>>=◌, Spelling, Spells, IsBytes, Lawful, number_at, number, byte_at, byte, passed, such_that, field, through, signed, which, no_bytes, none, pair, is_flag, flag_of, flag, just, count_of, option, is_behind, rising, AreLegal, members, members_at, list_at, list_by, list, text_byte, text, texts}
use Rattle.tks_spelling.proofs.Joining.{not_nil, Stands, in_first, in_second, stands, bind_ok, bind_err, bind_same, bind_done, ok_is, no_fault, Parts, Joins, joins_lawful}

abbrev failed : {A : Type 0} → ℕ → Result A ℕ
failed n = Err n

left_is : {A : Type 0} (m n : ℕ) → failed {A = A} m ≡ failed n → m ≡ n
left_is m n e = cc

-- the same kind, said in another way
module _ {T : Type 0} {s t : Spelling T} (l : Lawful s) (writes : (v : T) → t.Legal v → t.write v ≡ s.write v) (reads : (bytes : List ℕ) → t.read bytes ≡ s.read bytes) (into : (v : T) → t.Legal v → s.Legal v) (from : (v : T) → s.Legal v → t.Legal v) where
  spelled : (bytes : List ℕ) (v : T) (rest : List ℕ) → Spells s bytes v rest → Spells t bytes v rest
  spelled bytes v rest p = record { legal = from v p.legal; parts = p.parts ∙ ap (λ (w : List ℕ). w ++ rest) (sym (writes v (from v p.legal))) }

  pub same : Lawful t
  same = record {
    reads_back = λ v rest h. ap (λ (w : List ℕ). t.read (w ++ rest)) (writes v h) ∙ reads (s.write v ++ rest) ∙ l.reads_back v rest (into v h);
    nothing_else = λ bytes v rest fits e. spelled bytes v rest (l.nothing_else bytes v rest fits (sym (reads bytes) ∙ e));
    within = λ bytes left fits e. l.within bytes left fits (sym (reads bytes) ∙ e);
    sure = λ front b behind other fits e. reads (front ++ b ∷ other) ∙ l.sure front b behind other fits (sym (reads (front ++ b ∷ behind)) ∙ e);
    early = λ front b behind fits e. reads front ∙ l.early front b behind fits (sym (reads (front ++ b ∷ behind)) ∙ e);
    cut = λ v front b behind h e. reads front ∙ l.cut v front b behind (into v h) (sym (writes v h) ∙ e);
  }

-- No spelling begins another: what begins with two is spelled by one value, with one rest.
pub one_front : {T : Type 0} (s : Spelling T) → Lawful s → (a b : T) (x y : List ℕ) → s.Legal a → s.Legal b → s.write a ++ x ≡ s.write b ++ y → (a ≡ b) × (x ≡ y)
one_front {T} s l a b x y p q e =
    let same = ok_is {A = T × List ℕ} (a, x) (b, y) (sym (l.reads_back a x p) ∙ ap s.read e ∙ l.reads_back b y q) in
    (ap (λ (v : T × List ℕ). v.0) same, ap (λ (v : T × List ℕ). v.1) same)

-- Values one behind the other are one list of values.
pub one_list : {T : Type 0} (s : Spelling T) → Lawful s → ((v : T) → 0 < length (s.write v)) → (xs ys : List T) → AllByRecursion s.Legal xs → AllByRecursion s.Legal ys → flat_map s.write xs ≡ flat_map s.write ys → xs ≡ ys
one_list s l filled [] [] p q e = refl
one_list s l filled [] (y ∷ ys) p q e =
    let n : 0 ≡ length (s.write y) + length (flat_map s.write ys) = ap length e ∙ length-append (s.write y) (flat_map s.write ys) in
    absurd (omega (arith, n, filled y))
one_list s l filled (x ∷ xs) [] p q e =
    let n : length (s.write x) + length (flat_map s.write xs) ≡ 0 = sym (length-append (s.write x) (flat_map s.write xs)) ∙ ap length e in
    absurd (omega (arith, n, filled x))
one_list s l filled (x ∷ xs) (y ∷ ys) p q e =
    let first = one_front s l x y (flat_map s.write xs) (flat_map s.write ys) p.0 q.0 e in
    ap (λ v. v ∷ xs) first.0 ∙ ap (λ vs. y ∷ vs) (one_list s l filled xs ys p.1 q.1 first.1)

-- ---- nothing left to be spelled

pub no_bytes_lawful : {T : Type 0} (value : T) → Lawful (no_bytes value)
no_bytes_lawful {T} value = record {
  reads_back = λ v rest h. ap (λ (w : T). Ok (w, rest)) (sym h);
  nothing_else = λ bytes v rest fits e. let p = ok_is (value, bytes) (v, rest) e in record { legal = sym (ap (λ (x : T × List ℕ). x.0) p); parts = ap (λ (x : T × List ℕ). x.1) p };
  within = λ bytes left fits e. absurd (no_fault (value, bytes) left e);
  sure = λ front b behind other fits e. absurd (no_fault (value, front ++ b ∷ behind) (suc (length behind)) e);
  early = λ front b behind fits e. absurd (no_fault (value, front ++ b ∷ behind) (suc (length behind)) e);
  cut = λ v front b behind h e. not_nil front b behind e;
}

pub none_lawful : {T : Type 0} → Lawful (none {T = T})
none_lawful {T} = record {
  reads_back = λ v rest h. absurd h;
  nothing_else = λ bytes v rest fits e. absurd (no_fault (v, rest) 0 (sym e));
  within = λ bytes left fits e. let n = left_is {A = T × List ℕ} 0 left e in omega (arith, n);
  sure = λ front b behind other fits e. let n = left_is {A = T × List ℕ} 0 (suc (length behind)) e in absurd (omega (arith, n));
  early = λ front b behind fits e. refl;
  cut = λ v front b behind h e. refl;
}

-- ---- a byte

byte_read : (bytes : List ℕ) (v : ℕ) (rest : List ℕ) → IsBytes bytes → byte_at bytes ≡ Ok (v, rest) → Spells byte bytes v rest
byte_read [] v rest fits e = absurd (no_fault (v, rest) 0 (sym e))
byte_read (b ∷ bytes) v rest fits e = subst (λ (x : ℕ × List ℕ). Spells byte (b ∷ bytes) x.0 x.1) (ok_is (b, bytes) (v, rest) e) (record { legal = fits 0; parts = refl })

byte_fault : (bytes : List ℕ) (left : ℕ) → byte_at bytes ≡ Err left → left ≡ 0
byte_fault [] left e = sym (left_is {A = ℕ × List ℕ} 0 left e)
byte_fault (b ∷ bytes) left e = absurd (no_fault (b, bytes) left e)

byte_cut : (v : ℕ) (front : List ℕ) (b : ℕ) (behind : List ℕ) → v ∷ [] ≡ front ++ b ∷ behind → byte_at front ≡ Err 0
byte_cut v [] b behind e = refl
byte_cut v (x ∷ front) b behind e =
    let n : 1 ≡ suc (length front + suc (length behind)) = ap length e ∙ ap suc (length-append front (b ∷ behind)) in
    absurd (omega (arith, n))

pub byte_lawful : Lawful byte
byte_lawful = record {
  reads_back = λ v rest h. refl;
  nothing_else = byte_read;
  within = λ bytes left fits e. let n = byte_fault bytes left e in omega (arith, n);
  sure = λ front b behind other fits e. let n = byte_fault (front ++ b ∷ behind) (suc (length behind)) e in absurd (omega (arith, n));
  early = λ front b behind fits e. let n = byte_fault (front ++ b ∷ behind) (suc (length behind)) e in absurd (omega (arith, n));
  cut = λ v front b behind h e. byte_cut v front b behind e;
}

-- ---- numbers

IsBytes-drop : (n : ℕ) (bytes : List ℕ) → IsBytes bytes → IsBytes (drop n bytes)
IsBytes-drop n bytes h i = rw get_or-drop (h (n + i))

IsBytes-take : (n : ℕ) (bytes : List ℕ) → IsBytes bytes → IsBytes (take n bytes)
IsBytes-take n bytes h i =
    elim (cases_lt i n) [
      | inl lt ↦ rw (get_or-take n bytes i 0 lt) (h i)
      | inr le ↦ rw (get_or_past (take n bytes) i 0 (omega (arith, length-take n bytes))) (omega arith)
    ]

pub record IsWide (w : Width) : Type 0 where
  pub len : (n : ℕ) → length (to_be_bytes w n) ≡ byte_len w
  pub back : (bytes : List ℕ) → length bytes ≡ byte_len w → IsBytes bytes → to_be_bytes w (from_be_bytes w bytes) ≡ bytes
  pub again : (n : ℕ) → n < 2 ^ (8 * byte_len w) → from_be_bytes w (to_be_bytes w n) ≡ n
  pub below : (bytes : List ℕ) → IsBytes bytes → from_be_bytes w bytes < 2 ^ (8 * byte_len w)
  pub some : 0 < byte_len w

pub wide16 : IsWide w16
wide16 = record {
  len = λ n. refl;
  back = λ bytes len fits. be_bytes_2 bytes _ len fits refl;
  again = λ n lt. from_be_bytes-to_be_bytes_2 n lt;
  below = λ bytes fits. omega (arith, fits 0, fits 1);
  some = omega arith;
}

pub wide32 : IsWide w32
wide32 = record {
  len = λ n. refl;
  back = λ bytes len fits. be_bytes_4 bytes _ len fits refl;
  again = λ n lt. from_be_bytes-to_be_bytes_4 n lt;
  below = λ bytes fits. omega (arith, fits 0, fits 1, fits 2, fits 3);
  some = omega arith;
}

pub wide64 : IsWide w64
wide64 = record {
  len = λ n. refl;
  back = λ bytes len fits. be_bytes_8 bytes _ len fits refl;
  again = λ n lt. from_be_bytes-to_be_bytes_8 n lt;
  below = λ bytes fits. omega (arith, fits 0, fits 1, fits 2, fits 3, fits 4, fits 5, fits 6, fits 7);
  some = omega arith;
}

cases_read : {A : Type 0} (b : Bool) (x y : A) → cond b (failed 0) (Ok x) ≡ Ok y → (b ≡ false) × (x ≡ y)
cases_read true x y e = absurd (no_fault y 0 (sym e))
cases_read false x y e = (refl, ok_is x y e)

cases_fault : {A : Type 0} (b : Bool) (x : A) (left : ℕ) → cond b (failed 0) (Ok x) ≡ Err left → left ≡ 0
cases_fault {A} true x left e = sym (left_is {A = A} 0 left e)
cases_fault false x left e = absurd (no_fault x left e)

module _ (w : Width) (wide : IsWide w) where
  number_read : (bytes : List ℕ) (n : ℕ) (rest : List ℕ) → IsBytes bytes → number_at w bytes ≡ Ok (n, rest) → Spells (number w) bytes n rest
  unfolding number_at
  number_read bytes n rest fits e =
      let g = cases_read (ltb (length bytes) (byte_len w)) (from_be_bytes w (take (byte_len w) bytes), drop (byte_len w) bytes) (n, rest) e in
      let long : byte_len w ≤ length bytes = ltb-false _ _ g.0 in
      let n-is : from_be_bytes w (take (byte_len w) bytes) ≡ n = ap (λ (p : ℕ × List ℕ). p.0) g.1 in
      let rest-is : drop (byte_len w) bytes ≡ rest = ap (λ (p : ℕ × List ℕ). p.1) g.1 in
      let front : to_be_bytes w n ≡ take (byte_len w) bytes = rw (← n-is) (wide.back (take (byte_len w) bytes) (omega (arith, length-take (byte_len w) bytes)) (IsBytes-take (byte_len w) bytes fits)) in
      record { parts = rw (front, ← rest-is) (sym (take-append-drop (byte_len w) bytes)); legal = rw (← n-is) (wide.below (take (byte_len w) bytes) (IsBytes-take (byte_len w) bytes fits)) }

  number_again : (n : ℕ) (rest : List ℕ) → n < 2 ^ (8 * byte_len w) → number_at w (to_be_bytes w n ++ rest) ≡ Ok (n, rest)
  unfolding number_at
  number_again n rest lt =
      let len = wide.len n in
      let long : ltb (length (to_be_bytes w n ++ rest)) (byte_len w) ≡ false = le-ltb _ _ (omega (arith, length-append (to_be_bytes w n) rest)) in
      rw (long, take_at (to_be_bytes w n) rest (byte_len w) len, drop_at (to_be_bytes w n) rest (byte_len w) len, wide.again n lt) refl

  number_fault : (bytes : List ℕ) (left : ℕ) → number_at w bytes ≡ Err left → left ≡ 0
  unfolding number_at
  number_fault bytes left e = cases_fault (ltb (length bytes) (byte_len w)) (from_be_bytes w (take (byte_len w) bytes), drop (byte_len w) bytes) left e

  number_cut : (n : ℕ) (front : List ℕ) (b : ℕ) (behind : List ℕ) → to_be_bytes w n ≡ front ++ b ∷ behind → number_at w front ≡ Err 0
  unfolding number_at
  number_cut n front b behind e =
      let k : byte_len w ≡ length front + suc (length behind) = sym (wide.len n) ∙ ap length e ∙ length-append front (b ∷ behind) in
      let short : ltb (length front) (byte_len w) ≡ true = lt-ltb _ _ (omega (arith, k)) in
      rw short refl

  pub number_lawful : Lawful (number w)
  number_lawful = record {
    reads_back = number_again;
    nothing_else = number_read;
    within = λ bytes left fits e. let n = number_fault bytes left e in omega (arith, n);
    sure = λ front b behind other fits e. let n = number_fault (front ++ b ∷ behind) (suc (length behind)) e in absurd (omega (arith, n));
    early = λ front b behind fits e. let n = number_fault (front ++ b ∷ behind) (suc (length behind)) e in absurd (omega (arith, n));
    cut = λ v front b behind h e. number_cut v front b behind e;
  }

-- ---- a test

module _ {T : Type 0} (test : T → Bool) (s : Spelling T) where
  cases_passed : (b : Bool) (x y : T × List ℕ) → cond b (Ok x) (failed (suc (length x.1))) ≡ Ok y → (b ≡ true) × (x ≡ y)
  cases_passed true x y e = (refl, ok_is x y e)
  cases_passed false x y e = absurd (no_fault y (suc (length x.1)) (sym e))

  cases_failed : (b : Bool) (x : T × List ℕ) (left : ℕ) → cond b (Ok x) (failed (suc (length x.1))) ≡ Err left → (b ≡ false) × (suc (length x.1) ≡ left)
  cases_failed true x left e = absurd (no_fault x left e)
  cases_failed false x left e = (refl, left_is {A = T × List ℕ} (suc (length x.1)) left e)

  test_read : Lawful s → (bytes : List ℕ) (v : T) (rest : List ℕ) → IsBytes bytes → (s.read bytes >>= passed test) ≡ Ok (v, rest) → Spells (such_that test s) bytes v rest
  test_read l bytes v rest fits e =
      let a = bind_ok (s.read bytes) (passed test) (v, rest) e in
      let c = cases_passed (test a.0.0) a.0 (v, rest) a.2 in
      let p = l.nothing_else bytes a.0.0 a.0.1 fits a.1 in
      subst (λ (x : T × List ℕ). Spells (such_that test s) bytes x.0 x.1) c.1 (record { legal = (p.legal, c.0); parts = p.parts })

  test_again : Lawful s → (v : T) (rest : List ℕ) → s.Legal v → (s.read (s.write v ++ rest) >>= passed test) ≡ cond (test v) (Ok (v, rest)) (failed (suc (length rest)))
  test_again l v rest h = ap (λ r. r >>= passed test) (l.reads_back v rest h)

  -- where a value is read that fails, its last byte is at fault
  last_byte : Lawful s → (v : T) (rest front : List ℕ) (b : ℕ) (behind other : List ℕ) → s.Legal v → test v ≡ false → length rest ≡ length behind → Stands (s.write v) rest front b behind → (s.read (front ++ b ∷ other) >>= passed test) ≡ Err (suc (length other))
  last_byte l v rest front b behind other h f same (in_first more p q) =
      let n : length behind ≡ length more + length rest = ap length q ∙ length-append more rest in
      let last : s.write v ≡ front ++ b ∷ [] = p ∙ ap (λ (w : List ℕ). front ++ b ∷ w) (nil_from_length more (omega (arith, n, same))) in
      let moved : front ++ b ∷ other ≡ s.write v ++ other = sym (append_assoc front (b ∷ []) other) ∙ ap (λ (w : List ℕ). w ++ other) (sym last) in
      ap (λ (w : List ℕ). s.read w >>= passed test) moved ∙ test_again l v other h ∙ ap (λ b. cond b (Ok (v, other)) (failed (suc (length other)))) f
  last_byte l v rest front b behind other h f same (in_second more p q) =
      let n : length rest ≡ length more + suc (length behind) = ap length q ∙ length-append more (b ∷ behind) in
      absurd (omega (arith, n, same))

  test_sure : Lawful s → (front : List ℕ) (b : ℕ) (behind other : List ℕ) → IsBytes (front ++ b ∷ behind) → (s.read (front ++ b ∷ behind) >>= passed test) ≡ Err (suc (length behind)) → (s.read (front ++ b ∷ other) >>= passed test) ≡ Err (suc (length other))
  test_sure l front b behind other fits e =
      elim (bind_err (s.read (front ++ b ∷ behind)) (passed test) (suc (length behind)) e) [
        | inl f ↦ ap (λ r. r >>= passed test) (l.sure front b behind other fits f)
        | inr a ↦
            let c = cases_failed (test a.0.0) a.0 (suc (length behind)) a.2 in
            let p = l.nothing_else (front ++ b ∷ behind) a.0.0 a.0.1 fits a.1 in
            let same : length a.0.1 ≡ length behind = omega (arith, c.1) in
            last_byte l a.0.0 a.0.1 front b behind other p.legal c.0 same (stands (s.write a.0.0) a.0.1 front b behind (sym p.parts))
      ]

  -- a value that fails is cut before its last byte
  before_last : Lawful s → (v : T) (rest front : List ℕ) (b : ℕ) (behind : List ℕ) → s.Legal v → length rest ≡ length behind → Stands (s.write v) rest front b behind → (s.read front >>= passed test) ≡ Err 0
  before_last l v rest front b behind h same (in_first more p q) = ap (λ r. r >>= passed test) (l.cut v front b more h p)
  before_last l v rest front b behind h same (in_second more p q) =
      let n : length rest ≡ length more + suc (length behind) = ap length q ∙ length-append more (b ∷ behind) in
      absurd (omega (arith, n, same))

  test_early : Lawful s → (front : List ℕ) (b : ℕ) (behind : List ℕ) → IsBytes (front ++ b ∷ behind) → (s.read (front ++ b ∷ behind) >>= passed test) ≡ Err (suc (length behind)) → (s.read front >>= passed test) ≡ Err 0
  test_early l front b behind fits e =
      elim (bind_err (s.read (front ++ b ∷ behind)) (passed test) (suc (length behind)) e) [
        | inl f ↦ ap (λ r. r >>= passed test) (l.early front b behind fits f)
        | inr a ↦
            let c = cases_failed (test a.0.0) a.0 (suc (length behind)) a.2 in
            let p = l.nothing_else (front ++ b ∷ behind) a.0.0 a.0.1 fits a.1 in
            let same : length a.0.1 ≡ length behind = omega (arith, c.1) in
            before_last l a.0.0 a.0.1 front b behind p.legal same (stands (s.write a.0.0) a.0.1 front b behind (sym p.parts))
      ]

  test_within : ((v : T) → s.Legal v → 0 < length (s.write v)) → Lawful s → (bytes : List ℕ) (left : ℕ) → IsBytes bytes → (s.read bytes >>= passed test) ≡ Err left → left ≤ length bytes
  test_within filled l bytes left fits e =
      elim (bind_err (s.read bytes) (passed test) left e) [
        | inl f ↦ l.within bytes left fits f
        | inr a ↦
            let c = cases_failed (test a.0.0) a.0 left a.2 in
            let p = l.nothing_else bytes a.0.0 a.0.1 fits a.1 in
            let n : length bytes ≡ length (s.write a.0.0) + length a.0.1 = ap length p.parts ∙ length-append (s.write a.0.0) a.0.1 in
            omega (arith, n, c.1, filled a.0.0 p.legal)
      ]

  pub test_lawful : ((v : T) → s.Legal v → 0 < length (s.write v)) → Lawful s → Lawful (such_that test s)
  test_lawful filled l = record {
    reads_back = λ v rest h. test_again l v rest h.0 ∙ ap (λ b. cond b (Ok (v, rest)) (failed (suc (length rest)))) h.1;
    nothing_else = test_read l;
    within = test_within filled l;
    sure = test_sure l;
    early = test_early l;
    cut = λ v front b behind h e. ap (λ r. r >>= passed test) (l.cut v front b behind h.0 e);
  }

-- ---- a choice

pub which_lawful : {T : Type 0} {s t : Spelling T} (b : Bool) → Lawful s → Lawful t → Lawful (which b s t)
which_lawful true l m = l
which_lawful false l m = m

pub which_told : {T : Type 0} (s t : Spelling T) {P : Type 0} (b : Bool) (v : T) → (b ≡ true → s.Legal v → P) → (t.Legal v → P) → (which b s t).Legal v → P
which_told s t true v f g h = f refl h
which_told s t false v f g h = g h

-- ---- fields

module _ {A T : Type 0} (get : T → A) (s : Spelling A) (others : A → Spelling T) (told : (a : A) (v : T) → s.Legal a → (others a).Legal v → get v ≡ a) where
  field_joins : Joins s others (λ a v. v) (field get s others)
  field_joins = record {
    reads = λ bytes. bind_same (s.read bytes) (λ a. (others a.0).read a.1) (λ a. (others a.0).read a.1 >>= λ b. Ok (b.0, b.1)) (λ a. sym (bind_done ((others a.0).read a.1)));
    apart = λ v h. record { first = get v; others = v; is = refl; legal = h.0; fits = h.1; parts = refl };
    together = λ a v h k. subst (λ b. (s.Legal b × (others b).Legal v) × (s.write b ++ (others b).write v ≡ s.write a ++ (others a).write v)) (sym (told a v h k)) ((h, k), refl);
  }

  pub field_lawful : Lawful s → ((a : A) → Lawful (others a)) → Lawful (field get s others)
  field_lawful l m = joins_lawful field_joins l m

module _ {A T : Type 0} (get : T → A) (make : A → T) (s : Spelling A) (told : (a : A) → s.Legal a → get (make a) ≡ a) where
  pub through_lawful : Lawful s → Lawful (through get make s)
  through_lawful l = same {s = field get s (λ a. no_bytes (make a))} {t = through get make s} (field_lawful get s (λ a. no_bytes (make a)) (λ a v k h. ap get h ∙ told a k) l (λ a. no_bytes_lawful (make a)))
      (λ v h. sym (append-nil (s.write (get v))))
      (λ bytes. refl)
      (λ v h. h)
      (λ v h. h)

pub signed64_lawful : Lawful (signed w64)
signed64_lawful = through_lawful (cast_unsigned w64) (cast_signed w64) (number w64) (λ n lt. of_z-to_z w64 n lt) (number_lawful w64 wide64)

-- ---- two values, truth values, values that may be there

pub pair_lawful : {A B : Type 0} (s : Spelling A) (t : Spelling B) → Lawful s → Lawful t → Lawful (pair s t)
pair_lawful {A} {B} s t l m =
    field_lawful (λ p. p.0) s _ (λ a p k h. ap (λ (q : A × B). q.0) h.1) l (λ a.
    through_lawful (λ p. p.1) (λ b. (a, b)) t (λ b k. refl) m)

flag_byte_lawful : Lawful (such_that is_flag byte)
flag_byte_lawful = test_lawful is_flag byte (λ v h. omega arith) byte_lawful

pub flag_lawful : Lawful flag
flag_lawful =
    field_lawful flag_of (such_that is_flag byte) _
    (λ n v k. which_told _ _ (n == 1) v (λ e h. ap flag_of h ∙ sym (eqb-true n 1 e)) (which_told _ _ (n == 0) v (λ e h. ap flag_of h ∙ sym (eqb-true n 0 e)) (λ h. absurd h)))
    flag_byte_lawful
    (λ n. which_lawful (n == 1) (no_bytes_lawful true) (which_lawful (n == 0) (no_bytes_lawful false) none_lawful))

module _ {T : Type 0} (s : Spelling T) where
  just_parts : (o : Option T) → (just s).Legal o → Parts s (λ v. no_bytes v) (λ a b. Some b) (just s) o
  just_parts None h = absurd h
  just_parts (Some v) h = record { first = v; others = v; is = refl; legal = h; fits = refl; parts = sym (append-nil (s.write v)) }

  just_joins : Joins s (λ v. no_bytes v) (λ a b. Some b) (just s)
  just_joins = record {
    reads = λ bytes. refl;
    apart = just_parts;
    together = λ a b h e. (subst s.Legal (sym e) h, ap s.write e ∙ sym (append-nil (s.write a)));
  }

  count_told : (n : ℕ) (o : Option T) → (which (n == 1) (just s) (which (n == 0) (no_bytes None) none)).Legal o → count_of o ≡ n
  count_told n None = which_told (just s) (which (n == 0) (no_bytes None) none) (n == 1) None (λ e h. absurd h) (which_told (no_bytes None) none (n == 0) None (λ e h. sym (eqb-true n 0 e)) (λ h. absurd h))
  count_told n (Some v) = which_told (just s) (which (n == 0) (no_bytes None) none) (n == 1) (Some v) (λ e h. sym (eqb-true n 1 e)) (which_told (no_bytes None) none (n == 0) (Some v) (λ e h. ap count_of h ∙ sym (eqb-true n 0 e)) (λ h. absurd h))

  pub option_lawful : Lawful s → Lawful (option s)
  option_lawful l =
      field_lawful count_of (such_that is_flag byte) _ (λ n v k. count_told n v) flag_byte_lawful
      (λ n. which_lawful (n == 1) (joins_lawful just_joins l (λ v. no_bytes_lawful v)) (which_lawful (n == 0) (no_bytes_lawful None) none_lawful))

-- ---- lists

module _ {T : Type 0} (member : Option T → Spelling T) (each : (before : Option T) → Lawful (member before)) where
  -- so many members
  abbrev exactly : Option T → ℕ → Spelling (List T)
  exactly before n = record { Legal = λ vs. (length vs ≡ n) × AreLegal member before vs; write = members member before; read = members_at member before n }

  suc_is : (m n : ℕ) → suc m ≡ suc n → m ≡ n
  suc_is m n e = omega (arith, e)

  one_more : (before : Option T) (n : ℕ) → Joins (member before) (λ v. exactly (Some v) n) (λ v vs. v ∷ vs) (exactly before (suc n))
  unfolding members_at
  one_more before n = record {
    reads = λ bytes. refl;
    apart = λ vs h. taken vs h;
    together = λ v vs h k. ((ap suc k.0, (h, k.1)), refl);
  }
    where
      taken : (vs : List T) → (length vs ≡ suc n) × AreLegal member before vs → Parts (member before) (λ v. exactly (Some v) n) (λ v vs. v ∷ vs) (exactly before (suc n)) vs
      taken [] h = absurd (omega (arith, h.0))
      taken (v ∷ vs) h = record { first = v; others = vs; is = refl; legal = h.1.0; fits = (suc_is (length vs) n h.0, h.1.1); parts = refl }

  no_member : (before : Option T) → Lawful (exactly before 0)
  unfolding members_at
  no_member before = same (no_bytes_lawful []) writes (λ bytes. refl) empty (λ vs h. subst (λ ws. (length ws ≡ 0) × AreLegal member before ws) (sym h) (refl, tt))
    where
      empty : (vs : List T) → (length vs ≡ 0) × AreLegal member before vs → vs ≡ []
      empty [] h = refl
      empty (v ∷ vs) h = absurd (omega (arith, h.0))

      writes : (vs : List T) → (length vs ≡ 0) × AreLegal member before vs → members member before vs ≡ []
      writes [] h = refl
      writes (v ∷ vs) h = absurd (omega (arith, h.0))

  exactly_lawful : (n : ℕ) (before : Option T) → Lawful (exactly before n)
  exactly_lawful zero before = no_member before
  exactly_lawful (suc n) before = joins_lawful (one_more before n) (each before) (λ v. exactly_lawful n (Some v))

  list_joins : Joins (number w32) (λ n. exactly None n) (λ n vs. vs) (list_by member)
  unfolding list_at
  list_joins = record {
    reads = λ bytes. bind_same (number_at w32 bytes) (λ n. members_at member None n.0 n.1) (λ n. members_at member None n.0 n.1 >>= λ b. Ok (b.0, b.1)) (λ n. sym (bind_done (members_at member None n.0 n.1)));
    apart = λ vs h. record { first = length vs; others = vs; is = refl; legal = h.0; fits = (refl, h.1); parts = refl };
    together = λ n vs h k. subst (λ m. ((length vs < 2 ^ 32) × AreLegal member None vs) × (to_be_bytes w32 (length vs) ++ members member None vs ≡ to_be_bytes w32 m ++ members member None vs)) k.0 ((rw k.0 h, k.1), refl);
  }

  pub list_lawful : Lawful (list_by member)
  list_lawful = joins_lawful list_joins (number_lawful w32 wide32) (λ n. exactly_lawful n None)

-- values whose names rise
pub rising_lawful : {T : Type 0} (name : T → List ℕ) (s : Spelling T) → ((v : T) → s.Legal v → 0 < length (s.write v)) → Lawful s → Lawful (rising name s)
rising_lawful name s filled l = list_lawful (λ before. such_that (is_behind name before) s) (λ before. test_lawful (is_behind name before) s filled l)

-- ---- texts

either : (a b : Bool) → a || b ≡ true → (a ≡ true) ⊎ (b ≡ true)
either true b e = inl refl
either false b e = inr e

-- what stands in a text is a byte
is_byte : (b : ℕ) → is_text_byte b ≡ true → b < 256
is_byte b e =
    elim (either (eqb b 9 || eqb b 10) (leb 32 b && leb b 126) e) [
      | inl q ↦
          elim (either (eqb b 9) (eqb b 10) q) [
            | inl p ↦ let n = eqb-true b 9 p in omega (arith, n)
            | inr p ↦ let n = eqb-true b 10 p in omega (arith, n)
          ]
      | inr r ↦ let n = leb-true b 126 (both (leb 32 b) (leb b 126) r).1 in omega (arith, n)
    ]

abbrev as_list : Spelling (List ℕ)
as_list = list text_byte

letters : (before : Option ℕ) (bytes : List ℕ) → members (λ before. text_byte) before bytes ≡ bytes
letters before [] = refl
letters before (b ∷ bytes) = ap (λ (w : List ℕ). b ∷ w) (letters (Some b) bytes)

legal_letters : (before : Option ℕ) (bytes : List ℕ) → IsText bytes → AreLegal (λ before. text_byte) before bytes
legal_letters before [] h = tt
legal_letters before (b ∷ bytes) h = ((is_byte b h.0, h.0), legal_letters (Some b) bytes h.1)

are_text : (before : Option ℕ) (bytes : List ℕ) → AreLegal (λ before. text_byte) before bytes → IsText bytes
are_text before [] h = tt
are_text before (b ∷ bytes) h = (h.0.1, are_text (Some b) bytes h.1)

pub text_byte_lawful : Lawful text_byte
text_byte_lawful = test_lawful is_text_byte byte (λ v h. omega arith) byte_lawful

pub text_lawful : Lawful text
text_lawful = same {s = as_list} {t = text} (list_lawful (λ before. text_byte) (λ before. text_byte_lawful))
    (λ v h. ap (λ (w : List ℕ). to_be_bytes w32 (length v) ++ w) (sym (letters None v)))
    (λ bytes. refl)
    (λ v h. (h.0, legal_letters None v h.1))
    (λ v h. (h.0, are_text None v h.1))

pub texts_lawful : Lawful texts
texts_lawful = list_lawful (λ before. text) (λ before. text_lawful)
