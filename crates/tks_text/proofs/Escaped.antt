-- The relation "behind a backslash these bytes stand for this character" and the function that reads it are one.
use Rattle.std.proofs.Common.{◌≡◌, ◌↔◌, ℕ, suc, ◌+◌, ◌^◌, ◌<◌, ◌≤◌, inl, inr, ◌==◌, eqb, Bool, true, false, List, [], ◌∷◌, ◌++◌, Option, Some, None, append_assoc, length, length-append, take, drop, refl, sym, ap, ◌∙◌, subst, arith}
use Rattle.std.specs.Prelude.{◌||◌, nat_le}
use Rattle.std.proofs.Math.Nat.{pow-le-pow_right}
use Rattle.std.proofs.Math.Seq.{take-append_seam}
use Rattle.std.proofs.lemmas.Bool.{cond_both, cases_lt, eqb-true, eqb-false, ltb-true, le-leb, lt-leb, leb-true, leb-false, false_from_ne_true}
use Rattle.std.proofs.lemmas.Int.Digits.{digits_value-lt}
use Rattle.std.proofs.lemmas.List.{take-append-drop, length-take-le}
use Rattle.std.proofs.lemmas.List.Folds.{length-prefix_len}
use Rattle.std.proofs.lemmas.List.Sums.{prefix_len-le-length}
use Rattle.std.specs.Char.{digit_value, is_digit}
use Rattle.std.specs.List.{prefix_len}
use Rattle.std.specs.Str.Parse.{AllDigits, digits_value}
use Rattle.tks_text.specs.Backslash.{is_blank, Control, a_bell, b_backspace, f_form_feed, n_newline, r_carriage_return, t_tab, v_vertical_tab, has_meaning, DigitsThen, Escapes, at_end, newline, control, octal, hex, unicode, no_digit, itself, character, digit_count, number_of, hex_escape, octal_escape, escaped, escape}
use Rattle.tks_text.specs.Integer.{AreDigits}
use Rattle.tks_text.specs.Text.{is_text_byte, BeginsNot}
use Rattle.tks_text.proofs.Tests.{or_case, neither}
use Rattle.tks_text.proofs.Prefixes.{prefix_passes, prefix_of, prefix_at_least, front_passes}

-- ---- digits

abbrev digit_in : ℕ → ℕ → Bool
digit_in base c = is_digit c base

pub digits_pass : (base : ℕ) (ds : List ℕ) → AreDigits base ds → AllDigits base ds
digits_pass base [] h = tt
digits_pass base (d ∷ ds) h = (ltb-true (digit_value d) base h.0, digits_pass base ds h.1)

-- so few digits write no more
value_below : (base most : ℕ) (ds : List ℕ) → 0 < base → AreDigits base ds → length ds ≤ most → digits_value base ds < base ^ most
value_below base most ds b h few =
    let greater : base ^ length ds ≤ base ^ most = pow-le-pow_right b few in
    omega (arith, digits_value-lt base ds (digits_pass base ds h))

one_more : (base : ℕ) (ds : List ℕ) (d : ℕ) → AreDigits base ds → is_digit d base ≡ true → AreDigits base (ds ++ d ∷ [])
one_more base [] d h e = (e, tt)
one_more base (x ∷ ds) d h e = (h.0, one_more base ds d h.1 e)

length_more : (ds : List ℕ) (d : ℕ) → length (ds ++ d ∷ []) ≡ suc (length ds)
length_more ds d = omega (arith, length-append ds (d ∷ []))

-- what stands behind digits: one too many, no digit, or one that makes the value too great
data Behind (base most greatest : ℕ) (ds : List ℕ) : List ℕ → Type 0 where
  enough : (v : List ℕ) → length ds ≡ most → Behind base most greatest ds v
  no_more : (v : List ℕ) → BeginsNot (digit_in base) v → Behind base most greatest ds v
  too_great : (d : ℕ) (w : List ℕ) → is_digit d base ≡ true → length ds < most → greatest < digits_value base (ds ++ d ∷ []) → Behind base most greatest ds (d ∷ w)

behind_digits : (base most greatest : ℕ) (ds v : List ℕ) → DigitsThen base most greatest ds v → Behind base most greatest ds v
behind_digits base most greatest ds [] h = no_more [] tt
behind_digits base most greatest ds (d ∷ w) h =
    let by_test : (b : Bool) → is_digit d base ≡ b → Behind base most greatest ds (d ∷ w) =
    λ b. elim b as (λ b. is_digit d base ≡ b → Behind base most greatest ds (d ∷ w)) [
      | false ↦ λ e. no_more (d ∷ w) e
      | true ↦ λ e. elim (cases_lt (length ds) most) as (λ _. Behind base most greatest ds (d ∷ w)) [
        | inl lt ↦ too_great d w e lt (h.longest d w refl e lt)
        | inr le ↦ let few = h.few in enough (d ∷ w) (omega arith)
      ]
    ] in
    by_test (is_digit d base) refl

-- digits up to one that is no digit, or to the most that count, are those that are counted
count_enough : (base most : ℕ) (ds v : List ℕ) → AreDigits base ds → length ds ≡ most → digit_count base most (ds ++ v) ≡ length ds
count_enough base most ds v h e = omega (arith, prefix_at_least (digit_in base) ds v h)

count_all : (base most : ℕ) (ds v : List ℕ) → AreDigits base ds → length ds ≤ most → BeginsNot (digit_in base) v → digit_count base most (ds ++ v) ≡ length ds
count_all base most ds v h few b = omega (arith, prefix_of (digit_in base) ds v h b)

number_read : (base before n : ℕ) (ds v : List ℕ) → n ≡ length ds → number_of base before n (ds ++ v) ≡ (digits_value base ds, before + length ds)
number_read base before n ds v e = rw (e, take-append_seam ds v) refl

moved : (t u : List ℕ) (c n m : ℕ) → Escapes t c n → t ≡ u → n ≡ m → Escapes u c m
moved t u c n m h e k = subst (λ x. Escapes x c m) e (subst (λ y. Escapes t c y) k h)

-- ---- what stands there is read

hex_count_of : (most greatest : ℕ) (ds v : List ℕ) → 16 ^ most ≤ suc greatest → DigitsThen 16 most greatest ds v → Behind 16 most greatest ds v → digit_count 16 most (ds ++ v) ≡ length ds
hex_count_of most greatest ds _ all h (enough v e) = count_enough 16 most ds v h.digits e
hex_count_of most greatest ds _ all h (no_more v b) = count_all 16 most ds v h.digits h.few b
hex_count_of most greatest ds _ all h (too_great d w e lt above) =
    let length_is = length_more ds d in
    let below = value_below 16 most (ds ++ d ∷ []) (omega arith) (one_more 16 ds d h.digits e) (omega arith) in
    absurd (omega arith)

hex_read : (letter most greatest : ℕ) (ds v : List ℕ) → 16 ^ most ≤ suc greatest → DigitsThen 16 most greatest ds v → hex_escape letter most (ds ++ v) ≡ (digits_value 16 ds, suc (length ds))
hex_read letter most greatest ds v all h =
    let n = hex_count_of most greatest ds v all h (behind_digits 16 most greatest ds v h) in
    let count = digit_count 16 most (ds ++ v) in
    let one : 1 + length ds ≡ suc (length ds) = omega arith in
    cond_both (eqb count 0) (letter, 1) (number_of 16 1 count (ds ++ v)) (λ x. x ≡ (digits_value 16 ds, suc (length ds)))
    (λ e. let some = h.some in let none = eqb-true count 0 e in absurd (omega arith))
    (λ e. number_read 16 1 count ds v n ∙ ap (λ k. (digits_value 16 ds, k)) one)

no_hex_read : (letter most : ℕ) (v : List ℕ) → BeginsNot (λ d. is_digit d 16) v → hex_escape letter most v ≡ (letter, 1)
no_hex_read letter most v b =
    let none : digit_count 16 most v ≡ 0 = omega (arith, prefix_of (digit_in 16) [] v tt b) in
    rw none refl

-- the digits that count are three or two, by what the three write
octal_all : (ds v : List ℕ) → digits_value 8 ds ≤ 255 → digit_count 8 3 (ds ++ v) ≡ length ds → octal_escape (ds ++ v) ≡ (digits_value 8 ds, length ds)
octal_all ds v within n =
    let none : 0 + length ds ≡ length ds = omega arith in
    rw (n, take-append_seam ds v, le-leb (digits_value 8 ds) 255 within) (ap (λ k. (digits_value 8 ds, k)) none)

octal_two : (ds w : List ℕ) (d : ℕ) → AreDigits 8 ds → is_digit d 8 ≡ true → length ds ≡ 2 → 255 < digits_value 8 (ds ++ d ∷ []) → octal_escape (ds ++ d ∷ w) ≡ (digits_value 8 ds, length ds)
octal_two ds w d h e two above =
    let t = ds ++ d ∷ w in
    let more = ds ++ d ∷ [] in
    let same : more ++ w ≡ t = append_assoc ds (d ∷ []) w in
    let length_is = length_more ds d in
    let three : digit_count 8 3 t ≡ length more = subst (λ u. digit_count 8 3 u ≡ length more) same (count_enough 8 3 more w (one_more 8 ds d h e) (omega arith)) in
    let fronts : take (digit_count 8 3 t) t ≡ more = rw three (subst (λ u. take (length more) u ≡ more) same (take-append_seam more w)) in
    let none : 0 + length ds ≡ length ds = omega arith in
    rw (fronts, lt-leb (digits_value 8 more) 255 above)
    (number_read 8 0 (digit_count 8 2 t) ds (d ∷ w) (count_enough 8 2 ds (d ∷ w) h two) ∙ ap (λ k. (digits_value 8 ds, k)) none)

octal_read_of : (ds v : List ℕ) → DigitsThen 8 3 255 ds v → Behind 8 3 255 ds v → octal_escape (ds ++ v) ≡ (digits_value 8 ds, length ds)
octal_read_of ds _ h (enough v e) = octal_all ds v h.within (count_enough 8 3 ds v h.digits e)
octal_read_of ds _ h (no_more v b) = octal_all ds v h.within (count_all 8 3 ds v h.digits h.few b)
octal_read_of ds _ h (too_great d w e lt above) =
    let length_is = length_more ds d in
    elim (cases_lt (length ds) 2) as (λ _. octal_escape (ds ++ d ∷ w) ≡ (digits_value 8 ds, length ds)) [
      | inl less ↦ let below = value_below 8 2 (ds ++ d ∷ []) (omega arith) (one_more 8 ds d h.digits e) (omega arith) in absurd (omega arith)
      | inr two ↦ octal_two ds w d h.digits e (omega arith) above
    ]

-- an octal digit is no other byte that has a meaning
no_octal : (d k : ℕ) → is_digit k 8 ≡ false → is_digit d 8 ≡ true → d == k ≡ false
no_octal d k n e = false_from_ne_true (d == k) (λ h. let same = ap (λ x. is_digit x 8) (eqb-true d k h) in absurd cc)

begins_octal : (ds v : List ℕ) → DigitsThen 8 3 255 ds v → escaped (ds ++ v) ≡ octal_escape (ds ++ v)
begins_octal [] v h = absurd (omega arith)
begins_octal (d ∷ ds) v h =
    let e = h.digits.0 in
    rw (no_octal d 10 refl e, no_octal d 120 refl e, no_octal d 117 refl e, e) refl

control_read : (letter c : ℕ) (v : List ℕ) → Control letter c → escaped (letter ∷ v) ≡ (c, 1)
control_read _ _ v a_bell = refl
control_read _ _ v b_backspace = refl
control_read _ _ v f_form_feed = refl
control_read _ _ v n_newline = refl
control_read _ _ v r_carriage_return = refl
control_read _ _ v t_tab = refl
control_read _ _ v v_vertical_tab = refl

-- none of the bytes that have a meaning
record Plain (c : ℕ) : Type 0 where
  newline_not : c == 10 ≡ false
  digit_not : is_digit c 8 ≡ false
  a_not : c == 97 ≡ false
  b_not : c == 98 ≡ false
  f_not : c == 102 ≡ false
  n_not : c == 110 ≡ false
  r_not : c == 114 ≡ false
  t_not : c == 116 ≡ false
  v_not : c == 118 ≡ false
  x_not : c == 120 ≡ false
  u_not : c == 117 ≡ false

plain : (c : ℕ) → has_meaning c ≡ false → Plain c
plain c e =
    let u = neither _ (c == 117) e in
    let x = neither _ (c == 120) u.0 in
    let v = neither _ (c == 118) x.0 in
    let t = neither _ (c == 116) v.0 in
    let r = neither _ (c == 114) t.0 in
    let n = neither _ (c == 110) r.0 in
    let f = neither _ (c == 102) n.0 in
    let b = neither _ (c == 98) f.0 in
    let a = neither _ (c == 97) b.0 in
    let d = neither (c == 10) (is_digit c 8) a.0 in
    record { newline_not = d.0; digit_not = d.1; a_not = a.1; b_not = b.1; f_not = f.1; n_not = n.1; r_not = r.1; t_not = t.1; v_not = v.1; x_not = x.1; u_not = u.1 }

plain_read : (c : ℕ) (v : List ℕ) → Plain c → escaped (c ∷ v) ≡ (c, 1)
plain_read c v p =
    rw (p.newline_not, p.x_not, p.u_not, p.digit_not, p.a_not, p.b_not, p.f_not, p.n_not, p.r_not, p.t_not, p.v_not) refl

escape_read : (t : List ℕ) (c n : ℕ) → Escapes t c n → escaped t ≡ (c, n)
escape_read _ _ _ at_end = refl
escape_read _ _ _ (newline blanks v b o) =
    let n = prefix_of is_blank blanks v b o in
    let one : prefix_len is_blank (blanks ++ v) + 1 ≡ suc (length blanks) = omega arith in
    ap (λ k. (32, k)) one
escape_read _ _ _ (control letter c v h) = control_read letter c v h
escape_read _ _ _ (octal ds v h) = begins_octal ds v h ∙ octal_read_of ds v h (behind_digits 8 3 255 ds v h)
escape_read _ _ _ (hex ds v h) = hex_read 120 2 255 ds v (omega arith) h
escape_read _ _ _ (unicode ds v h) = hex_read 117 4 65_535 ds v (omega arith) h
escape_read _ _ _ (no_digit c v e b) =
    or_case (c == 120) (c == 117) e
    (λ x. subst (λ d. escaped (d ∷ v) ≡ (d, 1)) (sym (eqb-true c 120 x)) (no_hex_read 120 2 v b))
    (λ u. subst (λ d. escaped (d ∷ v) ≡ (d, 1)) (sym (eqb-true c 117 u)) (no_hex_read 117 4 v b))
escape_read _ _ _ (itself c v e) = plain_read c v (plain c e)

-- ---- what is read stands there

abbrev Tells : List ℕ → ℕ × ℕ → Type 0
Tells t x = Escapes t x.0 x.1

counted_length : (base most : ℕ) (t : List ℕ) → length (take (digit_count base most t) t) ≡ digit_count base most t
counted_length base most t = length-take-le (digit_count base most t) t (omega (arith, prefix_len-le-length (digit_in base) t))

-- the digits that are counted are all that may stand there
counted : (base most greatest : ℕ) (t : List ℕ) → 0 < digit_count base most t → digits_value base (take (digit_count base most t) t) ≤ greatest → DigitsThen base most greatest (take (digit_count base most t) t) (drop (digit_count base most t) t)
counted base most greatest t some within =
    let n = digit_count base most t in
    let length_is = counted_length base most t in
    record {
      some = omega arith;
      few = omega arith;
      digits = front_passes (digit_in base) n t (omega arith);
      within = within;
      longest = λ d w e is lt.
          let all : prefix_len (digit_in base) t ≡ n = omega arith in
          let ends : BeginsNot (digit_in base) (drop n t) = subst (λ k. BeginsNot (digit_in base) (drop k t)) all (prefix_passes (digit_in base) t).1 in
          let ends_here : is_digit d base ≡ false = subst (BeginsNot (digit_in base)) e ends in
          absurd cc;
    }

begins_none : (most : ℕ) (t : List ℕ) → 0 < most → digit_count 16 most t ≡ 0 → BeginsNot (digit_in 16) t
begins_none most t h e =
    let none : prefix_len (digit_in 16) t ≡ 0 = omega arith in
    subst (λ k. BeginsNot (digit_in 16) (drop k t)) none (prefix_passes (digit_in 16) t).1

module _ (letter most greatest : ℕ) (made : (ds v : List ℕ) → DigitsThen 16 most greatest ds v → Escapes (letter ∷ ds ++ v) (digits_value 16 ds) (suc (length ds))) where
  hex_told : (t : List ℕ) → (letter == 120) || (letter == 117) ≡ true → 0 < most → 16 ^ most ≤ suc greatest → Tells (letter ∷ t) (hex_escape letter most t)
  hex_told t is some all =
      let n = digit_count 16 most t in
      let length_is = counted_length 16 most t in
      cond_both (eqb n 0) (letter, 1) (number_of 16 1 n t) (Tells (letter ∷ t))
      (λ e. no_digit letter t is (begins_none most t some (eqb-true n 0 e)))
      (λ e.
      let digits = front_passes (digit_in 16) n t (omega arith) in
      let below = value_below 16 most (take n t) (omega arith) digits (omega arith) in
      moved (letter ∷ take n t ++ drop n t) (letter ∷ t) _ _ _ (made (take n t) (drop n t) (counted 16 most greatest t (omega (arith, eqb-false n 0 e)) (omega arith)))
      (ap (λ u. letter ∷ u) (take-append-drop n t)) (omega arith))

two_told : (t : List ℕ) → digit_count 8 3 t ≡ 3 → 255 < digits_value 8 (take (digit_count 8 3 t) t) → Tells t (number_of 8 0 (digit_count 8 2 t) t)
two_told [] n above = absurd (omega (arith, prefix_len-le-length (digit_in 8) []))
two_told (a ∷ []) n above = absurd (omega (arith, prefix_len-le-length (digit_in 8) (a ∷ [])))
two_told (a ∷ b ∷ []) n above = absurd (omega (arith, prefix_len-le-length (digit_in 8) (a ∷ b ∷ [])))
two_told (a ∷ b ∷ d ∷ w) n above =
    let t = a ∷ b ∷ d ∷ w in
    let digits = front_passes (digit_in 8) 3 t (omega arith) in
    let great : 255 < digits_value 8 (a ∷ b ∷ d ∷ []) = subst (λ k. 255 < digits_value 8 (take k t)) n above in
    let below = value_below 8 2 (a ∷ b ∷ []) (omega arith) (digits.0, (digits.1.0, tt)) (omega arith) in
    let two : 2 ≡ digit_count 8 2 t = omega arith in
    subst (λ k. Tells t (number_of 8 0 k t)) two (octal (a ∷ b ∷ []) (d ∷ w) (record {
      some = omega arith;
      few = omega arith;
      digits = (digits.0, (digits.1.0, tt));
      within = omega arith;
      longest = λ x v e is lt. let same : d ≡ x = cc in subst (λ y. 255 < digits_value 8 (a ∷ b ∷ y ∷ [])) same great;
    }))

octal_told : (t : List ℕ) → 0 < prefix_len (digit_in 8) t → Tells t (octal_escape t)
octal_told t begins =
    let n = digit_count 8 3 t in
    let length_is = counted_length 8 3 t in
    cond_both (nat_le (digits_value 8 (take n t)) 255) (number_of 8 0 n t) (number_of 8 0 (digit_count 8 2 t) t) (Tells t)
    (λ e. moved (take n t ++ drop n t) t _ _ _ (octal (take n t) (drop n t) (counted 8 3 255 t (omega arith) (leb-true _ 255 e))) (take-append-drop n t) (omega arith))
    (λ e.
    let great = leb-false (digits_value 8 (take n t)) 255 e in
    let three : n ≡ 3 = elim (cases_lt n 3) as (λ _. n ≡ 3) [
      | inl less ↦ let below = value_below 8 2 (take n t) (omega arith) (front_passes (digit_in 8) n t (omega arith)) (omega arith) in absurd (omega arith)
      | inr more ↦ omega arith
    ] in
    two_told t three great)

newline_told : (t : List ℕ) → Escapes (10 ∷ t) 32 (prefix_len is_blank t + 1)
newline_told t =
    let n = prefix_len is_blank t in
    let length_is = length-prefix_len is_blank t in
    let parts = prefix_passes is_blank t in
    moved (10 ∷ take n t ++ drop n t) (10 ∷ t) _ _ _ (newline (take n t) (drop n t) parts.0 parts.1) (ap (λ u. 10 ∷ u) (take-append-drop n t)) (omega arith)

letter_told : (c letter k : ℕ) (t : List ℕ) → Control letter k → c == letter ≡ true → Escapes (c ∷ t) k 1
letter_told c letter k t h e = subst (λ x. Escapes (x ∷ t) k 1) (sym (eqb-true c letter e)) (control letter k t h)

character_told : (c : ℕ) (t : List ℕ) → c == 10 ≡ false → c == 120 ≡ false → c == 117 ≡ false → is_digit c 8 ≡ false → Escapes (c ∷ t) (character c) 1
character_told c t newline_not x_not u_not digit_not =
    let P : ℕ → Type 0 = λ k. Escapes (c ∷ t) k 1 in
    cond_both (eqb c 97) _ _ P (letter_told c 97 7 t a_bell)
    (λ a. cond_both (eqb c 98) _ _ P (letter_told c 98 8 t b_backspace)
    (λ b. cond_both (eqb c 102) _ _ P (letter_told c 102 12 t f_form_feed)
    (λ f. cond_both (eqb c 110) _ _ P (letter_told c 110 10 t n_newline)
    (λ n. cond_both (eqb c 114) _ _ P (letter_told c 114 13 t r_carriage_return)
    (λ r. cond_both (eqb c 116) _ _ P (letter_told c 116 9 t t_tab)
    (λ s. cond_both (eqb c 118) _ _ P (letter_told c 118 11 t v_vertical_tab)
    (λ v. itself c t (rw (newline_not, digit_not, a, b, f, n, r, s, v, x_not, u_not) refl))))))))

escape_told : (t : List ℕ) → Tells t (escaped t)
escape_told [] = at_end
escape_told (c ∷ t) =
    cond_both (eqb c 10) _ _ (Tells (c ∷ t)) (λ e. subst (λ x. Escapes (x ∷ t) 32 (prefix_len is_blank t + 1)) (sym (eqb-true c 10 e)) (newline_told t))
    (λ a. cond_both (eqb c 120) _ _ (Tells (c ∷ t)) (λ e. subst (λ x. Tells (x ∷ t) (hex_escape 120 2 t)) (sym (eqb-true c 120 e)) (hex_told 120 2 255 hex t refl (omega arith) (omega arith)))
    (λ b. cond_both (eqb c 117) _ _ (Tells (c ∷ t)) (λ e. subst (λ x. Tells (x ∷ t) (hex_escape 117 4 t)) (sym (eqb-true c 117 e)) (hex_told 117 4 65_535 unicode t refl (omega arith) (omega arith)))
    (λ d. cond_both (is_digit c 8) _ _ (Tells (c ∷ t)) (λ e. octal_told (c ∷ t) (omega (arith, prefix_at_least (digit_in 8) (c ∷ []) t (e, tt))))
    (λ e. character_told c t a b d e))))

pub escape_is_read : (t : List ℕ) (c n : ℕ) → Escapes t c n ↔ (escaped t ≡ (c, n))
escape_is_read t c n = (escape_read t c n, λ e. subst (Tells t) e (escape_told t))

-- ---- where the character stands in texts, or not

module _ (t : List ℕ) (c n : ℕ) where
  pub escape_in_text : Escapes t c n → is_text_byte c ≡ true → escape t ≡ Some (c, n)
  unfolding escape
  escape_in_text h e = rw (escape_read t c n h, e) refl

  pub escape_outside : Escapes t c n → is_text_byte c ≡ false → escape t ≡ None
  unfolding escape
  escape_outside h e = rw (escape_read t c n h, e) refl

  pub some_escape : escape t ≡ Some (c, n) → Escapes t c n × (is_text_byte c ≡ true)
  unfolding escape
  some_escape e =
      let Is : Option (ℕ × ℕ) → Type 0 = λ o. o ≡ Some (c, n) → Escapes t c n × (is_text_byte c ≡ true) in
      cond_both (is_text_byte (escaped t).0) (Some (escaped t)) None Is
      (λ b s. let same : escaped t ≡ (c, n) = cc in (subst (Tells t) same (escape_told t), subst (λ x. is_text_byte x.0 ≡ true) same b))
      (λ b s. absurd cc) e

-- an escape whose character stands in no text
pub record Outside (t : List ℕ) : Type 0 where
  pub c : ℕ
  pub n : ℕ
  pub is : Escapes t c n
  pub no_text : is_text_byte c ≡ false

pub no_escape : (t : List ℕ) → escape t ≡ None → Outside t
unfolding escape
no_escape t e =
    cond_both (is_text_byte (escaped t).0) (Some (escaped t)) None (λ o. o ≡ None → Outside t)
    (λ b s. absurd cc) (λ b s. record { c = (escaped t).0; n = (escaped t).1; is = escape_told t; no_text = b }) e
