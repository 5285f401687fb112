-- The relation "this text spells this integer" and the function that reads it are one.
use Rattle.std.proofs.Common.{◌≡◌, ◌↔◌, ◌||◌, ◌&&◌, ℕ, zero, suc, ◌^◌, ◌<◌, ◌≤◌, ◌⊎◌, inl, inr, ◌==◌, Bool, true, false, ltb, List, [], ◌∷◌, ◌++◌, append_assoc, length, take, drop, Option, Some, None, refl, sym, ap, ◌∙◌, subst, arith, ℤ, pos, negsuc, Ok, get_or, append-nil}
use Rattle.std.proofs.Math.Seq.{take-append_seam, drop-append_seam}
use Rattle.std.proofs.lemmas.Bool.{cond_both, eqb-true, lt-ltb, ltb-true, false_from_ne_true}
use Rattle.std.proofs.lemmas.Fmt.{decimal_digit, decimal_is_IsNumeral, first_decimal}
use Rattle.std.proofs.lemmas.Grind.{common_steps}
use Rattle.std.proofs.lemmas.List.{take-append-drop}
use Rattle.std.proofs.lemmas.List.Folds.{length-prefix_len}
use Rattle.std.specs.Char.{digit_value, is_digit}
use Rattle.std.specs.Fmt.{decimal as digits_of_number, signed_decimal}
use Rattle.std.specs.List.{prefix_len, list_all}
use Rattle.std.specs.Option.{option_map}
use Rattle.std.specs.Str.Parse.{AllDigits, digits_value}
use Rattle.tks_text.specs.Integer.{is_space, AreSpaces, AreDigits, BeginsOtherThan, Numeral, hex, octal, decimal, Signed, bare, plus, minus, SpellsInteger, number_in, number_behind_zero, unsigned_value, with_sign, signed_value, integer_value, fits_i64, integer_of}
use Rattle.tks_text.specs.Text.{BeginsNot}
use Rattle.tks_text.proofs.Tests.{or_case, neither}
use Rattle.tks_text.proofs.Texts.{both}
use Rattle.tks_text.proofs.Prefixes.{prefix_passes, prefix_of, all_pass, passing_all}

-- ---- what is spelled is read

abbrev digit_in : ℕ → ℕ → Bool
digit_in base c = is_digit c base

space_value : (c : ℕ) → is_space c ≡ true → digit_value c ≡ 36
space_value c e =
    or_case ((c == 32) || (c == 9)) (c == 10) e
    (λ h. or_case (c == 32) (c == 9) h (λ k. rw (eqb-true c 32 k) refl) (λ k. rw (eqb-true c 9 k) refl))
    (λ k. rw (eqb-true c 10 k) refl)

space_is_no_digit : (base c : ℕ) → base ≤ 36 → is_space c ≡ true → is_digit c base ≡ false
space_is_no_digit base c h e = rw (space_value c e) (grind (arith, common_steps))

digit_is_no_space : (base c : ℕ) → base ≤ 36 → is_digit c base ≡ true → is_space c ≡ false
digit_is_no_space base c h e = false_from_ne_true (is_space c) (λ s. let n = space_is_no_digit base c h s in absurd cc)

spaces_fail : (base : ℕ) (y : List ℕ) → base ≤ 36 → AreSpaces y → BeginsNot (digit_in base) y
spaces_fail base [] h s = tt
spaces_fail base (c ∷ y) h s = space_is_no_digit base c h s.0

number_is : (base : ℕ) (ds y : List ℕ) → base ≤ 36 → 0 < length ds → AreDigits base ds → AreSpaces y → number_in base (ds ++ y) ≡ Some (digits_value base ds)
number_is base ds y h some d s =
    let n : prefix_len (digit_in base) (ds ++ y) ≡ length ds = prefix_of (digit_in base) ds y d (spaces_fail base y h s) in
    rw (n, lt-ltb 0 (length ds) some, drop-append_seam ds y, passing_all is_space y s, take-append_seam ds y) refl

not_x : (c : ℕ) → c == 120 ≡ true → is_digit c 8 ≡ false
not_x c e = rw (eqb-true c 120 e) refl

digit_8_or_space : (c : ℕ) → (is_digit c 8 ≡ true) ⊎ (is_space c ≡ true) → c == 120 ≡ false
digit_8_or_space c (inl d) = false_from_ne_true (c == 120) (λ e. let n = not_x c e in absurd cc)
digit_8_or_space c (inr s) = false_from_ne_true (c == 120) (λ e. let n : is_space c ≡ false = rw (eqb-true c 120 e) refl in absurd cc)

unsigned_is : (t y : List ℕ) (n : ℕ) → Numeral t n → AreSpaces y → unsigned_value (t ++ y) ≡ Some n
unsigned_is _ y _ (hex ds some d) s = number_is 16 ds y (omega arith) some d s
unsigned_is _ [] _ (octal [] d) s = refl
unsigned_is _ (c ∷ y) _ (octal [] d) s = rw (digit_8_or_space c (inr s.0)) (number_is 8 (48 ∷ []) (c ∷ y) (omega arith) (omega arith) (refl, tt) s)
unsigned_is _ y _ (octal (c ∷ ds) d) s = rw (digit_8_or_space c (inl d.0)) (number_is 8 (48 ∷ c ∷ ds) y (omega arith) (omega arith) (refl, d) s)
unsigned_is _ y _ (decimal [] b d) s = absurd b
unsigned_is _ y _ (decimal (c ∷ ds) b d) s = rw b (number_is 10 (c ∷ ds) y (omega arith) (omega arith) d s)

-- a text that begins, and with a byte that fails
abbrev Begins : (ℕ → Bool) → List ℕ → Type 0
Begins p [] = ⊥
Begins p (c ∷ t) = p c ≡ false

-- what a numeral begins with
abbrev is_no_first : ℕ → Bool
is_no_first c = is_space c || (c == 43) || (c == 45)

digit_is_first : (c : ℕ) → is_digit c 10 ≡ true → is_no_first c ≡ false
digit_is_first c e =
    false_from_ne_true (is_no_first c) (λ h. or_case (is_space c || (c == 43)) (c == 45) h
    (λ k. or_case (is_space c) (c == 43) k
    (λ s. let n = space_is_no_digit 10 c (omega arith) s in absurd cc)
    (λ q. let n : is_digit c 10 ≡ false = rw (eqb-true c 43 q) refl in absurd cc))
    (λ q. let n : is_digit c 10 ≡ false = rw (eqb-true c 45 q) refl in absurd cc))

numeral_begins : (t : List ℕ) (n : ℕ) → Numeral t n → Begins is_no_first t
numeral_begins _ _ (hex ds some d) = refl
numeral_begins _ _ (octal ds d) = refl
numeral_begins _ _ (decimal [] b d) = b
numeral_begins _ _ (decimal (c ∷ ds) b d) = digit_is_first c d.0

signed_is : (t y : List ℕ) (z : ℤ) → Signed t z → AreSpaces y → signed_value (t ++ y) ≡ Some z
signed_is _ y _ (plus t n h) s = ap (option_map (with_sign false)) (unsigned_is t y n h s)
signed_is _ y _ (minus t n h) s = ap (option_map (with_sign true)) (unsigned_is t y n h s)
signed_is [] y _ (bare _ n h) s = absurd (numeral_begins [] n h)
signed_is (c ∷ t) y _ (bare _ n h) s =
    let no = neither (is_space c || (c == 43)) (c == 45) (numeral_begins (c ∷ t) n h) in
    rw (no.1, (neither (is_space c) (c == 43) no.0).1) (ap (option_map (with_sign false)) (unsigned_is (c ∷ t) y n h s))

numeral_no_space : (c : ℕ) → is_no_first c ≡ false → is_space c ≡ false
numeral_no_space c e = (neither (is_space c) (c == 43) (neither (is_space c || (c == 43)) (c == 45) e).0).0

signed_fails : (t y : List ℕ) (z : ℤ) → Signed t z → BeginsNot is_space (t ++ y)
signed_fails _ y _ (plus t n h) = refl
signed_fails _ y _ (minus t n h) = refl
signed_fails [] y _ (bare _ n h) = absurd (numeral_begins [] n h)
signed_fails (c ∷ t) y _ (bare _ n h) = numeral_no_space c (numeral_begins (c ∷ t) n h)

spelled_read : (t : List ℕ) (z : ℤ) → SpellsInteger t z → integer_value t ≡ Some z
spelled_read t z h =
    let u = h.middle ++ h.back in
    let n = prefix_of is_space h.front u h.before (signed_fails h.middle h.back z h.integer) in
    rw (h.whole, append_assoc h.front h.middle h.back, n, drop-append_seam h.front u) (signed_is h.middle h.back z h.integer h.behind)

-- ---- what is read is spelled

-- t is digits of a number, and white space
record NumberIn (base : ℕ) (t : List ℕ) (n : ℕ) : Type 0 where
  digits : List ℕ
  back : List ℕ
  whole : t ≡ digits ++ back
  some : 0 < length digits
  all : AreDigits base digits
  value : digits_value base digits ≡ n
  behind : AreSpaces back

number_found : (base : ℕ) (t : List ℕ) (n : ℕ) → number_in base t ≡ Some n → NumberIn base t n
number_found base t n e =
    let k = prefix_len (digit_in base) t in
    cond_both (ltb 0 k && list_all is_space (drop k t)) (Some (digits_value base (take k t))) None (λ o. o ≡ Some n → NumberIn base t n)
    (λ h. let w = both (ltb 0 k) (list_all is_space (drop k t)) h in
    λ v. record {
      digits = take k t;
      back = drop k t;
      whole = sym (take-append-drop k t);
      some = omega (arith, ltb-true 0 k w.0, length-prefix_len (digit_in base) t);
      all = (prefix_passes (digit_in base) t).0;
      value = cc;
      behind = all_pass is_space (drop k t) w.1;
    })
    (λ h v. absurd cc) e

-- t is something, and white space
record Front (P : List ℕ → Type 0) (t : List ℕ) : Type 0 where
  middle : List ℕ
  back : List ℕ
  whole : t ≡ middle ++ back
  is : P middle
  behind : AreSpaces back

octal_found : (t ds y : List ℕ) (n : ℕ) → 48 ∷ t ≡ ds ++ y → 0 < length ds → AreDigits 8 ds → digits_value 8 ds ≡ n → AreSpaces y → Front (λ m. Numeral m n) (48 ∷ t)
octal_found t [] y n w some a v b = absurd (omega (arith, some))
octal_found t (d ∷ ds) y n w some a v b =
    let first : d ≡ 48 = cc in
    record {
      middle = 48 ∷ ds;
      back = y;
      whole = cc;
      is = subst (λ k. Numeral (48 ∷ ds) k) (subst (λ x. digits_value 8 (x ∷ ds) ≡ n) first v) (octal ds a.1);
      behind = b;
    }

decimal_found : (c : ℕ) (t ds y : List ℕ) (n : ℕ) → c == 48 ≡ false → c ∷ t ≡ ds ++ y → 0 < length ds → AreDigits 10 ds → digits_value 10 ds ≡ n → AreSpaces y → Front (λ m. Numeral m n) (c ∷ t)
decimal_found c t [] y n other w some a v b = absurd (omega (arith, some))
decimal_found c t (d ∷ ds) y n other w some a v b =
    let first : c ≡ d = cc in
    record {
      middle = d ∷ ds;
      back = y;
      whole = w;
      is = subst (λ k. Numeral (d ∷ ds) k) v (decimal (d ∷ ds) (subst (λ x. x == 48 ≡ false) first other) a);
      behind = b;
    }

hex_found : (c : ℕ) (t : List ℕ) (n : ℕ) → c ≡ 120 → NumberIn 16 t n → Front (λ m. Numeral m n) (48 ∷ c ∷ t)
hex_found c t n x h = record {
  middle = 48 ∷ c ∷ h.digits;
  back = h.back;
  whole = ap (λ u. 48 ∷ c ∷ u) h.whole;
  is = subst (λ b. Numeral (48 ∷ b ∷ h.digits) n) (sym x) (subst (λ k. Numeral (48 ∷ 120 ∷ h.digits) k) h.value (hex h.digits h.some h.all));
  behind = h.behind;
}

behind_zero_found : (t : List ℕ) (n : ℕ) → number_behind_zero t ≡ Some n → Front (λ m. Numeral m n) (48 ∷ t)
behind_zero_found [] n e =
    let value : 0 ≡ n = cc in
    record {
      middle = 48 ∷ [];
      back = [];
      whole = refl;
      is = subst (λ k. Numeral (48 ∷ []) k) value (octal [] tt);
      behind = tt;
    }
behind_zero_found (c ∷ t) n e =
    cond_both (c == 120) (number_in 16 t) (number_in 8 (48 ∷ c ∷ t)) (λ o. o ≡ Some n → Front (λ m. Numeral m n) (48 ∷ c ∷ t))
    (λ x v. hex_found c t n (eqb-true c 120 x) (number_found 16 t n v))
    (λ x v. let h = number_found 8 (48 ∷ c ∷ t) n v in
    octal_found (c ∷ t) h.digits h.back n h.whole h.some h.all h.value h.behind) e

unsigned_found : (t : List ℕ) (n : ℕ) → unsigned_value t ≡ Some n → Front (λ m. Numeral m n) t
unsigned_found [] n e = absurd cc
unsigned_found (c ∷ t) n e =
    cond_both (c == 48) (number_behind_zero t) (number_in 10 (c ∷ t)) (λ o. o ≡ Some n → Front (λ m. Numeral m n) (c ∷ t))
    (λ z v. subst (λ x. Front (λ m. Numeral m n) (x ∷ t)) (sym (eqb-true c 48 z)) (behind_zero_found t n v))
    (λ z v. let h = number_found 10 (c ∷ t) n v in
    decimal_found c t h.digits h.back n z h.whole h.some h.all h.value h.behind) e

-- a sign before what was found, or none
signed_found : (s : List ℕ) (is_negative : Bool) (t : List ℕ) (o : Option ℕ) (z : ℤ) → ((m : List ℕ) (n : ℕ) → Numeral m n → Signed (s ++ m) (with_sign is_negative n))
    → unsigned_value t ≡ o → option_map (with_sign is_negative) o ≡ Some z → Front (λ m. Signed m z) (s ++ t)
signed_found s is_negative t None z f u e = absurd cc
signed_found s is_negative t (Some n) z f u e =
    let h = unsigned_found t n u in
    let value : with_sign is_negative n ≡ z = cc in
    record {
      middle = s ++ h.middle;
      back = h.back;
      whole = ap (λ x. s ++ x) h.whole ∙ sym (append_assoc s h.middle h.back);
      is = subst (λ x. Signed (s ++ h.middle) x) value (f h.middle n h.is);
      behind = h.behind;
    }

integer_found : (t : List ℕ) (z : ℤ) → signed_value t ≡ Some z → Front (λ m. Signed m z) t
integer_found [] z e = absurd cc
integer_found (c ∷ t) z e =
    cond_both (c == 45) (option_map (with_sign true) (unsigned_value t)) _ (λ o. o ≡ Some z → Front (λ m. Signed m z) (c ∷ t))
    (λ k v. subst (λ x. Front (λ m. Signed m z) (x ∷ t)) (sym (eqb-true c 45 k)) (signed_found (45 ∷ []) true t (unsigned_value t) z minus refl v))
    (λ k. cond_both (c == 43) (option_map (with_sign false) (unsigned_value t)) (option_map (with_sign false) (unsigned_value (c ∷ t))) (λ o. o ≡ Some z → Front (λ m. Signed m z) (c ∷ t))
    (λ q v. subst (λ x. Front (λ m. Signed m z) (x ∷ t)) (sym (eqb-true c 43 q)) (signed_found (43 ∷ []) false t (unsigned_value t) z plus refl v))
    (λ q v. signed_found [] false (c ∷ t) (unsigned_value (c ∷ t)) z bare refl v)) e

read_spelled : (t : List ℕ) (z : ℤ) → integer_value t ≡ Some z → SpellsInteger t z
read_spelled t z e =
    let k = prefix_len is_space t in
    let h = integer_found (drop k t) z e in
    record {
      front = take k t;
      middle = h.middle;
      back = h.back;
      whole = sym (take-append-drop k t) ∙ ap (λ u. take k t ++ u) h.whole ∙ sym (append_assoc (take k t) h.middle h.back);
      before = (prefix_passes is_space t).0;
      integer = h.is;
      behind = h.behind;
    }

pub spelled_is_read : (t : List ℕ) (z : ℤ) → SpellsInteger t z ↔ (integer_value t ≡ Some z)
spelled_is_read t z = (spelled_read t z, read_spelled t z)

-- ---- decimal spellings

digits_pass : (ds : List ℕ) → AllDigits 10 ds → AreDigits 10 ds
digits_pass [] h = tt
digits_pass (d ∷ ds) h = (lt-ltb (digit_value d) 10 h.0, digits_pass ds h.1)

begins_other : (t : List ℕ) → 0 < length t → (get_or t 0 0 ≡ 48 → ⊥) → BeginsOtherThan 48 t
begins_other [] some other = absurd (omega arith)
begins_other (c ∷ t) some other = false_from_ne_true (c == 48) (λ e. other (eqb-true c 48 e))

begins_above : (t : List ℕ) → 0 < length t → 48 < get_or t 0 0 → BeginsOtherThan 48 t
begins_above t some h = begins_other t some (λ e. omega arith)

decimal_numeral : (n : ℕ) → n < 2 ^ 64 → Numeral (digits_of_number n) n
decimal_numeral zero h = subst (λ t. Numeral t 0) (sym (decimal_digit 0 (omega arith))) (octal [] tt)
decimal_numeral (suc n) h =
    let t = digits_of_number (suc n) in
    let all = decimal_is_IsNumeral (suc n) (omega (arith, h)) in
    subst (λ k. Numeral t k) all.1 (decimal t (begins_above t all.0.0 (first_decimal (suc n) (omega arith) (omega (arith, h)))) (digits_pass t all.0.1))

alone : (t : List ℕ) (z : ℤ) → Signed t z → SpellsInteger t z
alone t z h = record { front = []; middle = t; back = []; whole = sym (append-nil t); before = tt; integer = h; behind = tt }

decimal_spelled : (z : ℤ) → fits_i64 z ≡ true → SpellsInteger (signed_decimal z) z
decimal_spelled (pos n) e =
    let below = ltb-true n (2 ^ 63) e in
    alone (digits_of_number n) (pos n) (bare (digits_of_number n) n (decimal_numeral n (omega arith)))
decimal_spelled (negsuc n) e =
    let below = ltb-true n (2 ^ 63) e in
    alone (45 ∷ digits_of_number (suc n)) (negsuc n) (minus (digits_of_number (suc n)) (suc n) (decimal_numeral (suc n) (omega arith)))

pub decimal_is_read : (z : ℤ) → fits_i64 z ≡ true → integer_of (signed_decimal z) ≡ Ok (Some z)
decimal_is_read z e = rw (spelled_read (signed_decimal z) z (decimal_spelled z e), e) refl
