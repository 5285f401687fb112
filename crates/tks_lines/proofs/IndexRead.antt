-- What is told of a text as an index is read there.
use Rattle.std.proofs.Common.{◌≡◌, ℕ, suc, ◌+◌, ◌-◌, ◌^◌, ◌<◌, ◌≤◌, ◌==◌, ◌||◌, ◌&&◌, Bool, true, false, eqb, if◌then◌else◌, List, [], ◌∷◌, ◌++◌, length, take, drop, map, Option, Some, None, refl, sym, ap, ◌∙◌, inl, inr, subst, arith, append_assoc, length-append}
use Rattle.std.specs.Prelude.{codes}
use Rattle.std.specs.Char.{is_digit}
use Rattle.std.specs.Cmp.Lexicographic.{bytes_decides}
use Rattle.std.specs.List.{AllByRecursion}
use Rattle.std.specs.Option.{option_map, option_and_then}
use Rattle.std.specs.Str.Parse.{digits_value}
use Rattle.std.proofs.lemmas.Bool.{eqb-true, false_from_ne_true}
use Rattle.std.proofs.Math.Seq.{take-append_seam, drop-append_seam}
use Rattle.tks_text.specs.Integer.{is_space, AreSpaces, AreDigits}
use Rattle.tks_text.specs.Text.{same_text, BeginsNot}
use Rattle.tks_text.proofs.Prefixes.{prefix_of, prefix_at_least, all_pass}
use Rattle.tks_lines.specs.declared.modifier.Step.{Step}
use Rattle.tks_lines.specs.declared.modifier.Modifier.{Modifier}
use Rattle.tks_lines.specs.declared.modifier.Modifier.TheVariants as modifier
use Rattle.tks_lines.specs.declared.parts.Mark.{Mark}
use Rattle.tks_lines.specs.Places.{end_place, place_of_line, changed}
use Rattle.tks_lines.specs.Indices.{space_len, digits_len, word_len, word_at, number_at, column_at, behind_dot, line_column, numbered, named, count_at, unit_named, edge_named, turned_back, unit_at, counted, modifier_at, step_at, go_on, moved}
use Rattle.tks_lines.specs.IndexText.{is_minus, is_sign, is_of_word, Among, IsNumber, ColumnText, PlaceText, NameText, CountText, UnitText, ModifierText, EndsWord, Moves}
use Rattle.tks_lines.specs.Lines.{Lines, Formed, Differ, is_listed, mark_named}
use Rattle.tks_lines.proofs.Kept.{as_read, column_read, step_read, modifier_read, kept_place, kept_changed, changed_inside}
use Rattle.tks_lines.proofs.Moving.{first_moves}
use Rattle.tks_lines.proofs.Inside.{found_inside}

abbrev pub is_decimal : ℕ → Bool
is_decimal c = is_digit c 10

-- ---- characters

-- a digit is no character that is none
pub no_digit : (c k : ℕ) → is_decimal k ≡ false → is_decimal c ≡ true → eqb c k ≡ false
no_digit c k none h = false_from_ne_true (eqb c k) (λ e. let both : true ≡ false = sym h ∙ ap is_decimal (eqb-true c k e) ∙ none in absurd cc)

pub digit_no_space : (c : ℕ) → is_decimal c ≡ true → is_space c ≡ false
digit_no_space c h = rw (no_digit c 32 refl h, no_digit c 9 refl h, no_digit c 10 refl h) refl

pub digit_no_sign : (c : ℕ) → is_decimal c ≡ true → is_sign c ≡ false
digit_no_sign c h = rw (no_digit c 43 refl h, no_digit c 45 refl h) refl

pub digit_no_minus : (c : ℕ) → is_decimal c ≡ true → is_minus c ≡ false
digit_no_minus c h = no_digit c 45 refl h

pub space_no_digit : (c : ℕ) → is_space c ≡ true → is_decimal c ≡ false
space_no_digit c h = false_from_ne_true (is_decimal c) (λ d. let both : true ≡ false = sym h ∙ digit_no_space c d in absurd cc)

pub not_zero : (n : ℕ) → 0 < n → eqb n 0 ≡ false
not_zero n h = false_from_ne_true (eqb n 0) (λ e. let is = eqb-true n 0 e in absurd (omega (arith, is, h)))

-- ---- numbers

pub record NumberAt (t : List ℕ) (len n : ℕ) : Type 0 where
  pub len_is : digits_len t ≡ len
  pub value : number_at t ≡ as_read n
  pub some : eqb (digits_len t) 0 ≡ false

number_front : (l rest : List ℕ) (n : ℕ) → IsNumber l n → BeginsNot is_decimal rest → NumberAt (l ++ rest) (length l) n
number_front l rest n h b =
    let len : digits_len (l ++ rest) ≡ length l = prefix_of is_decimal l rest h.digits b in
    record {
      len_is = len;
      value = ap (λ k. as_read (digits_value 10 (take k (l ++ rest)))) len ∙ ap (λ ds. as_read (digits_value 10 ds)) (take-append_seam l rest) ∙ ap as_read (sym h.value);
      some = not_zero (digits_len (l ++ rest)) (omega (arith, len, h.some));
    }

no_end : (t v : List ℕ) → 0 < length t → AreDigits 10 t → same_text (take 3 (t ++ v)) (codes "end") ≡ false
no_end [] v some d = absurd (omega arith)
no_end (c ∷ ds) v some d = ap (λ b. b && same_text (take 2 (ds ++ v)) (codes "nd")) (no_digit c 101 refl d.0)

-- a column by whether `end` stands there, and whether no digit does
abbrev pub column_by : Bool → Bool → List ℕ → Option (Option ℕ × ℕ)
column_by ends none t = if ends then Some (None, 3) else (if none then None else Some (Some (number_at t), digits_len t))

-- a column in digits, by how many there are
column_digits : (t : List ℕ) → same_text (take 3 t) (codes "end") ≡ false → eqb (digits_len t) 0 ≡ false → column_at t ≡ Some (Some (number_at t), digits_len t)
column_digits t other some = ap (λ b. column_by b (digits_len t == 0) t) other ∙ ap (λ b. column_by false b t) some

column_front : (c v : List ℕ) (column : Option ℕ) → ColumnText c column → BeginsNot is_decimal v → column_at (c ++ v) ≡ Some (column_read column, length c)
column_front _ v _ (ColumnText.number t n h) b =
    let at = number_front t v n h b in
    column_digits (t ++ v) (no_end t v h.some h.digits) at.some
    ∙ ap (λ x. Some (Some x, digits_len (t ++ v))) at.value ∙ ap (λ k. Some (Some (as_read n), k)) at.len_is
column_front _ v _ ColumnText.line_end b = refl

-- what a line and a column come to, by what stands behind the line's digits
abbrev behind_line : ℕ → ℕ → List ℕ → Option (ℕ × Option ℕ × ℕ)
behind_line n len rest = option_map (λ (x : Option ℕ × ℕ). (n, x.0, len + x.1)) (behind_dot rest)

line_by : (l rest : List ℕ) (line : ℕ) → IsNumber l line → BeginsNot is_decimal rest → line_column (l ++ rest) ≡ behind_line (as_read line) (length l) rest
line_by l rest line h b =
    let at = number_front l rest line h b in
    let word = l ++ rest in
    ap (λ b. if b then None else behind_line (number_at word) (digits_len word) (drop (digits_len word) word)) at.some
    ∙ ap (λ n. behind_line n (digits_len word) (drop (digits_len word) word)) at.value
    ∙ ap (λ k. behind_line (as_read line) k (drop k word)) at.len_is
    ∙ ap (behind_line (as_read line) (length l)) (drop-append_seam l rest)

line_front : (l c v : List ℕ) (line : ℕ) (column : Option ℕ) → IsNumber l line → ColumnText c column → BeginsNot is_decimal v
    → line_column (l ++ 46 ∷ (c ++ v)) ≡ Some (as_read line, column_read column, length l + (length c + 1))
line_front l c v line column h k b =
    line_by l (46 ∷ (c ++ v)) line h refl
    ∙ ap (λ o. option_map (λ (x : Option ℕ × ℕ). (as_read line, x.0, length l + x.1)) (option_map (λ (x : Option ℕ × ℕ). (x.0, x.1 + 1)) o)) (column_front c v column k b)

-- ---- places

-- the place of a line and a column behind a minus
abbrev pub below_line : Option (ℕ × Option ℕ × ℕ) → Option (ℕ × ℕ)
below_line o = option_map (λ (x : ℕ × Option ℕ × ℕ). (0, x.2 + 1)) o

-- and without one
abbrev pub of_line : List ℕ → Option (ℕ × Option ℕ × ℕ) → Option (ℕ × ℕ)
of_line text o = option_map (λ (x : ℕ × Option ℕ × ℕ). (place_of_line text x.0 x.1, x.2)) o

unsigned : (text l rest : List ℕ) → 0 < length l → AreDigits 10 l → numbered text (l ++ rest) ≡ of_line text (line_column (l ++ rest))
unsigned text [] rest some d = absurd (omega arith)
unsigned text (c ∷ ds) rest some d =
    ap (λ b. if b then below_line (line_column (ds ++ rest)) else of_line text (line_column (c ∷ (ds ++ rest)))) (digit_no_minus c d.0)

pub numbered_front : (text w v : List ℕ) (p : ℕ) → length text < 2 ^ 63 → PlaceText text w p → BeginsNot is_decimal v → numbered text (w ++ v) ≡ Some (p, length w)
numbered_front text _ v _ short (PlaceText.in_line l c line column h k) b =
    let all : length l + (length c + 1) ≡ length (l ++ 46 ∷ c) = omega (arith, length-append l (46 ∷ c)) in
    ap (numbered text) (append_assoc l (46 ∷ c) v)
    ∙ unsigned text l (46 ∷ (c ++ v)) h.some h.digits
    ∙ ap (of_line text) (line_front l c v line column h k b)
    ∙ ap (λ p. Some (p, length l + (length c + 1))) (kept_place text line column short)
    ∙ ap (λ n. Some (place_of_line text line column, n)) all
numbered_front text _ v _ short (PlaceText.below_first l c line column h k) b =
    let all : length l + (length c + 1) + 1 ≡ suc (length (l ++ 46 ∷ c)) = omega (arith, length-append l (46 ∷ c)) in
    ap (λ t. below_line (line_column t)) (append_assoc l (46 ∷ c) v)
    ∙ ap below_line (line_front l c v line column h k b)
    ∙ ap (λ n. Some (0, n)) all

-- whatever stands behind a place, one is read
some_column : (c v : List ℕ) (column : Option ℕ) → ColumnText c column → column_at (c ++ v) ≡ None → ⊥
some_column _ v _ (ColumnText.number t n h) e =
    let long = prefix_at_least is_decimal t v h.digits in
    let is = column_digits (t ++ v) (no_end t v h.some h.digits) (not_zero (digits_len (t ++ v)) (omega (arith, long, h.some))) in
    let both : None ≡ Option.Some (Option.Some (number_at (t ++ v)), digits_len (t ++ v)) = sym e ∙ is in
    absurd cc
some_column _ v _ ColumnText.line_end e = absurd cc

none_mapped : {X Y : Type 0} (f : X → Y) (o : Option X) → option_map f o ≡ None → o ≡ None
none_mapped f None e = refl
none_mapped f (Some x) e = absurd cc

some_line : (l c v : List ℕ) (line : ℕ) (column : Option ℕ) → IsNumber l line → ColumnText c column → line_column (l ++ 46 ∷ (c ++ v)) ≡ None → ⊥
some_line l c v line column h k e =
    some_column c v column k
    (none_mapped (λ (x : Option ℕ × ℕ). (x.0, x.1 + 1)) (column_at (c ++ v)) (none_mapped (λ (x : Option ℕ × ℕ). (as_read line, x.0, length l + x.1)) (behind_dot (46 ∷ (c ++ v))) (sym (line_by l (46 ∷ (c ++ v)) line h refl) ∙ e)))

pub some_numbered : (text at w v : List ℕ) (p : ℕ) → PlaceText at w p → numbered text (w ++ v) ≡ None → ⊥
some_numbered text at _ v _ (PlaceText.in_line l c line column h k) e =
    some_line l c v line column h k
    (none_mapped (λ (x : ℕ × Option ℕ × ℕ). (place_of_line text x.0 x.1, x.2)) (line_column (l ++ 46 ∷ (c ++ v))) (sym (unsigned text l (46 ∷ (c ++ v)) h.some h.digits) ∙ sym (ap (numbered text) (append_assoc l (46 ∷ c) v)) ∙ e))
some_numbered text at _ v _ (PlaceText.below_first l c line column h k) e =
    some_line l c v line column h k
    (none_mapped (λ (x : ℕ × Option ℕ × ℕ). (0, x.2 + 1)) (line_column (l ++ 46 ∷ (c ++ v))) (sym (ap (λ t. below_line (line_column t)) (append_assoc l (46 ∷ c) v)) ∙ e))

-- ---- names

pub same_names : (a b : List ℕ) → same_text a b ≡ true → a ≡ b
same_names a b e = (bytes_decides a b).0 e

unlisted : (m : Mark) (name : List ℕ) (marks : List Mark) → Among m marks → is_listed name (map (λ m. m.name) marks) ≡ false → same_text name m.name ≡ false
unlisted m name [] a e = absurd a
unlisted m name (x ∷ marks) (inl s) e = by (same_text name x.name) refl e
  where
    by : (b : Bool) → same_text name x.name ≡ b → (b || is_listed name (map (λ m. m.name) marks)) ≡ false → same_text name m.name ≡ false
    by true k f = absurd cc
    by false k f = ap (λ (m : Mark). same_text name m.name) s ∙ k
unlisted m name (x ∷ marks) (inr a) e = unlisted m name marks a (by (same_text name x.name) e)
  where
    by : (b : Bool) → (b || is_listed name (map (λ m. m.name) marks)) ≡ false → is_listed name (map (λ m. m.name) marks) ≡ false
    by true f = absurd cc
    by false f = f

mark_read : (m : Mark) (marks : List Mark) → Among m marks → Differ (map (λ m. m.name) marks) → mark_named m.name marks ≡ Some m
mark_read m [] a d = absurd a
mark_read m (x ∷ marks) (inl s) d =
    ap (λ b. if b then Some x else mark_named m.name marks) ((bytes_decides x.name m.name).1 (ap (λ (m : Mark). m.name) (sym s))) ∙ ap Some (sym s)
mark_read m (x ∷ marks) (inr a) d =
    ap (λ b. if b then Some x else mark_named m.name marks) (unlisted m x.name marks a d.0) ∙ mark_read m marks a d.1

pub name_read : (t : Lines) (name : List ℕ) (p : ℕ) → Formed t → NameText t name p → named t name ≡ Some p
name_read t _ _ f NameText.text_end = refl
name_read t _ _ f (NameText.mark m a n) =
    let other : same_text m.name (codes "end") ≡ false = false_from_ne_true (same_text m.name (codes "end")) (λ e. n (same_names m.name (codes "end") e)) in
    ap (λ b. if b then Some (end_place t.text) else option_map (λ (m : Mark). m.place) (mark_named m.name t.marks)) other
    ∙ ap (option_map (λ (m : Mark). m.place)) (mark_read m t.marks a f.marks_differ)

pub name_inside : (t : Lines) (name : List ℕ) (p : ℕ) → Formed t → NameText t name p → p ≤ end_place t.text
name_inside t _ _ f NameText.text_end = omega arith
name_inside t _ _ f (NameText.mark m a n) = found_inside (length t.text) m.name t.marks m f.inside (sym (mark_read m t.marks a f.marks_differ))

-- ---- words

pub record WordAt (w t : List ℕ) : Type 0 where
  pub len : word_len t ≡ length w
  pub word : word_at t ≡ w

pub word_front : (w v : List ℕ) → AllByRecursion (λ c. is_of_word c ≡ true) w → EndsWord v → WordAt w (w ++ v)
word_front w v h e =
    let len : word_len (w ++ v) ≡ length w = prefix_of is_of_word w v h e in
    record { len = len; word = ap (λ n. take n (w ++ v)) len ∙ take-append_seam w v }

-- ---- units

pub record UnitAt (u : List ℕ) (s : Step) (m : Modifier) : Type 0 where
  pub named : unit_named u s ≡ Some m
  pub each : AllByRecursion (λ c. is_of_word c ≡ true) u
  pub no_space : (v : List ℕ) → BeginsNot is_space (u ++ v)
  pub no_digit : (v : List ℕ) → BeginsNot is_decimal (u ++ v)

chars_read : (u : List ℕ) (s : Step) → Among u (codes "c" ∷ codes "char" ∷ codes "chars" ∷ []) → UnitAt u s (modifier.Chars s)
chars_read u s (inl e) = subst (λ x. UnitAt x s (modifier.Chars s)) (sym e) (record { named = refl; each = all_pass is_of_word (codes "c") refl; no_space = λ v. refl; no_digit = λ v. refl })
chars_read u s (inr (inl e)) = subst (λ x. UnitAt x s (modifier.Chars s)) (sym e) (record { named = refl; each = all_pass is_of_word (codes "char") refl; no_space = λ v. refl; no_digit = λ v. refl })
chars_read u s (inr (inr (inl e))) = subst (λ x. UnitAt x s (modifier.Chars s)) (sym e) (record { named = refl; each = all_pass is_of_word (codes "chars") refl; no_space = λ v. refl; no_digit = λ v. refl })
chars_read u s (inr (inr (inr n))) = absurd n

lines_read : (u : List ℕ) (s : Step) → Among u (codes "l" ∷ codes "line" ∷ codes "lines" ∷ []) → UnitAt u s (modifier.Lines s)
lines_read u s (inl e) = subst (λ x. UnitAt x s (modifier.Lines s)) (sym e) (record { named = refl; each = all_pass is_of_word (codes "l") refl; no_space = λ v. refl; no_digit = λ v. refl })
lines_read u s (inr (inl e)) = subst (λ x. UnitAt x s (modifier.Lines s)) (sym e) (record { named = refl; each = all_pass is_of_word (codes "line") refl; no_space = λ v. refl; no_digit = λ v. refl })
lines_read u s (inr (inr (inl e))) = subst (λ x. UnitAt x s (modifier.Lines s)) (sym e) (record { named = refl; each = all_pass is_of_word (codes "lines") refl; no_space = λ v. refl; no_digit = λ v. refl })
lines_read u s (inr (inr (inr n))) = absurd n

unit_read : (u : List ℕ) (s : Step) (m : Modifier) → UnitText u s m → UnitAt u s m
unit_read _ _ _ (UnitText.chars u s h) = chars_read u s h
unit_read _ _ _ (UnitText.lines u s h) = lines_read u s h

-- what is there, and how many bytes it takes
abbrev pub with_len : {X : Type 0} → ℕ → Option X → Option (X × ℕ)
with_len n o = option_map (λ x. (x, n)) o

-- the unit in a word, behind so much white space
abbrev unit_by : Step → ℕ → List ℕ → Option (Modifier × ℕ)
unit_by s n word = with_len (n + word_len word) (unit_named (word_at word) s)

unit_front : (b u v : List ℕ) (s : Step) (m : Modifier) → AreSpaces b → UnitText u s m → EndsWord v → unit_at s (b ++ (u ++ v)) ≡ Some (m, length b + length u)
unit_front b u v s m h k e =
    let is = unit_read u s m k in
    let t = b ++ (u ++ v) in
    let len : space_len t ≡ length b = prefix_of is_space b (u ++ v) h (is.no_space v) in
    let word = word_front u v is.each e in
    ap (λ n. unit_by s n (drop n t)) len
    ∙ ap (unit_by s (length b)) (drop-append_seam b (u ++ v))
    ∙ ap (λ n. with_len (length b + n) (unit_named (word_at (u ++ v)) s)) word.len
    ∙ ap (λ w. with_len (length b + length u) (unit_named w s)) word.word
    ∙ ap (with_len (length b + length u)) is.named

-- ---- counts

abbrev pub count_by : ℕ → Bool → List ℕ → Option (Step × ℕ)
count_by n back digits = if digits_len digits == 0 then None else Some (record { back = back; count = number_at digits }, n + digits_len digits)

abbrev count_step : Bool → ℕ → Step
count_step back n = record { back = back; count = n }

count_is : (k : ℕ) (back : Bool) (l rest : List ℕ) (n : ℕ) → IsNumber l n → BeginsNot is_decimal rest → count_by k back (l ++ rest) ≡ Some (record { back = back; count = as_read n }, k + length l)
count_is k back l rest n h b =
    let at = number_front l rest n h b in
    let word = l ++ rest in
    ap (λ x. if x then None else Some (count_step back (number_at word), k + digits_len word)) at.some
    ∙ ap (λ v. Some (count_step back v, k + digits_len word)) at.value
    ∙ ap (λ i. Some (count_step back (as_read n), k + i)) at.len_is

count_bare : (l rest : List ℕ) (n : ℕ) → IsNumber l n → BeginsNot is_decimal rest → count_at (l ++ rest) ≡ Some (record { back = false; count = as_read n }, length l)
count_bare [] rest n h b = absurd (omega (arith, h.some))
count_bare (c ∷ l) rest n h b =
    let t = c ∷ (l ++ rest) in
    ap (λ x. count_by (if x then 1 else 0) (is_minus c) (drop (if x then 1 else 0) t)) (digit_no_sign c h.digits.0)
    ∙ ap (λ x. count_by 0 x t) (digit_no_minus c h.digits.0)
    ∙ count_is 0 false (c ∷ l) rest n h b
    ∙ (let all : 0 + length (c ∷ l) ≡ length (c ∷ l) = omega arith in ap (λ i. Some (count_step false (as_read n), i)) all)

count_front : (c rest : List ℕ) (s : Step) → CountText c s → BeginsNot is_decimal rest → count_at (c ++ rest) ≡ Some (step_read s, length c)
count_front _ rest _ (CountText.bare t n h) b = count_bare t rest n h b
count_front _ rest _ (CountText.plus t n h) b =
    let all : 1 + length t ≡ suc (length t) = omega arith in
    count_is 1 false t rest n h b ∙ ap (λ i. Some (count_step false (as_read n), i)) all
count_front _ rest _ (CountText.minus t n h) b =
    let all : 1 + length t ≡ suc (length t) = omega arith in
    count_is 1 true t rest n h b ∙ ap (λ i. Some (count_step true (as_read n), i)) all

count_no_space : (c rest : List ℕ) (s : Step) → CountText c s → BeginsNot is_space (c ++ rest)
count_no_space _ rest _ (CountText.bare [] n h) = absurd (omega (arith, h.some))
count_no_space _ rest _ (CountText.bare (c ∷ t) n h) = digit_no_space c h.digits.0
count_no_space _ rest _ (CountText.plus t n h) = refl
count_no_space _ rest _ (CountText.minus t n h) = refl

-- ---- modifiers

unit_cut : (u : List ℕ) (s : Step) (m : Modifier) → UnitText u s m → UnitText u (step_read s) (modifier_read m)
unit_cut _ _ _ (UnitText.chars u s h) = UnitText.chars u (step_read s) h
unit_cut _ _ _ (UnitText.lines u s h) = UnitText.lines u (step_read s) h

-- white space goes before what is no digit
spaces_no_digit : (b rest : List ℕ) → AreSpaces b → BeginsNot is_decimal rest → BeginsNot is_decimal (b ++ rest)
spaces_no_digit [] rest h k = k
spaces_no_digit (c ∷ b) rest h k = space_no_digit c h.0

-- a count and a unit, each behind white space
abbrev pub step_text : (a n b u : List ℕ) → List ℕ
step_text a n b u = a ++ (n ++ (b ++ u))

pub regroup : (a n b u v : List ℕ) → step_text a n b u ++ v ≡ a ++ (n ++ (b ++ (u ++ v)))
regroup a n b u v =
    append_assoc a (n ++ (b ++ u)) v ∙ ap (λ t. a ++ t) (append_assoc n (b ++ u) v ∙ ap (λ t. n ++ t) (append_assoc b u v))

-- a unit behind so many bytes
abbrev pub unit_behind : ℕ → Option (Modifier × ℕ) → Option (Modifier × ℕ)
unit_behind n o = option_map (λ (y : Modifier × ℕ). (y.0, n + y.1)) o

abbrev pub counted_by : Bool → ℕ → List ℕ → Option (Step × ℕ) → Option (Modifier × ℕ)
counted_by back k number o = option_and_then (λ (x : Step × ℕ). unit_behind (k + x.1) (unit_at (turned_back back x.0) (drop x.1 number))) o

pub counted_is : (back : Bool) (t : List ℕ) → counted back t ≡ counted_by back (space_len t) (drop (space_len t) t) (count_at (drop (space_len t) t))
unfolding counted
counted_is back t = refl

counted_front : (back : Bool) (a n b u v : List ℕ) (s : Step) (m : Modifier) → AreSpaces a → CountText n s → AreSpaces b → UnitText u (turned_back back s) m → EndsWord v
    → counted back (a ++ (n ++ (b ++ (u ++ v)))) ≡ Some (modifier_read m, length a + length n + (length b + length u))
counted_front back a n b u v s m ha hn hb hu e =
    let number = n ++ (b ++ (u ++ v)) in
    let t = a ++ number in
    let len : space_len t ≡ length a = prefix_of is_space a number ha (count_no_space n (b ++ (u ++ v)) s hn) in
    let is = unit_read u (turned_back back s) m hu in
    let turned : turned_back back (step_read s) ≡ step_read (turned_back back s) = same back in
    counted_is back t
    ∙ ap (λ k. counted_by back k (drop k t) (count_at (drop k t))) len
    ∙ ap (λ x. counted_by back (length a) x (count_at x)) (drop-append_seam a number)
    ∙ ap (counted_by back (length a) number) (count_front n (b ++ (u ++ v)) s hn (spaces_no_digit b (u ++ v) hb (is.no_digit v)))
    ∙ ap (λ x. unit_behind (length a + length n) (unit_at (turned_back back (step_read s)) x)) (drop-append_seam n (b ++ (u ++ v)))
    ∙ ap (λ x. unit_behind (length a + length n) (unit_at x (b ++ (u ++ v)))) turned
    ∙ ap (unit_behind (length a + length n)) (unit_front b u v (step_read (turned_back back s)) (modifier_read m) hb (unit_cut u (turned_back back s) m hu) e)
  where
    same : (back : Bool) → turned_back back (step_read s) ≡ step_read (turned_back back s)
    same true = refl
    same false = refl

-- the modifier at the front, by its first character and those behind it
pub record ModifierAt (w v : List ℕ) (m : Modifier) : Type 0 where
  pub first : ℕ
  pub rest : List ℕ
  pub is : w ≡ first ∷ rest
  pub no_space : is_space first ≡ false
  pub no_digit : is_decimal first ≡ false
  pub at : modifier_at (first ∷ (rest ++ v)) ≡ Some (modifier_read m, length rest)

signed_front : (c : ℕ) (rest : List ℕ) → is_sign c ≡ true → modifier_at (c ∷ rest) ≡ counted (is_minus c) rest
unfolding modifier_at
signed_front c rest e = ap (λ b. if b then counted (is_minus c) rest else with_len (word_len (c ∷ rest) - 1) (edge_named (word_at (c ∷ rest)))) e

edge_front : (c : ℕ) (rest v : List ℕ) (m : Modifier) → is_sign c ≡ false → AllByRecursion (λ c. is_of_word c ≡ true) (c ∷ rest) → edge_named (c ∷ rest) ≡ Some m → EndsWord v → modifier_at (c ∷ (rest ++ v)) ≡ Some (m, length rest)
unfolding modifier_at
edge_front c rest v m plain h k e =
    let t = c ∷ (rest ++ v) in
    let word = word_front (c ∷ rest) v h e in
    let all : suc (length rest) - 1 ≡ length rest = omega arith in
    ap (λ b. if b then counted (is_minus c) (rest ++ v) else with_len (word_len t - 1) (edge_named (word_at t))) plain
    ∙ ap (λ n. with_len (n - 1) (edge_named (word_at t))) word.len
    ∙ ap (λ w. with_len (suc (length rest) - 1) (edge_named w)) word.word
    ∙ ap (with_len (suc (length rest) - 1)) k
    ∙ ap (λ n. Some (m, n)) all

pub step_len : (a n b u : List ℕ) → length a + length n + (length b + length u) ≡ length (step_text a n b u)
step_len a n b u = omega (arith, length-append a (n ++ (b ++ u)), length-append n (b ++ u), length-append b u)

modifier_front : (w v : List ℕ) (m : Modifier) → ModifierText w m → EndsWord v → ModifierAt w v m
modifier_front _ v _ (ModifierText.forward a n b u s m ha hn hb hu) e = record {
  first = 43;
  rest = step_text a n b u;
  is = refl;
  no_space = refl;
  no_digit = refl;
  at = signed_front 43 (step_text a n b u ++ v) refl ∙ ap (counted false) (regroup a n b u v) ∙ counted_front false a n b u v s m ha hn hb hu e ∙ ap (λ k. Some (modifier_read m, k)) (step_len a n b u);
}
modifier_front _ v _ (ModifierText.backward a n b u s m ha hn hb hu) e = record {
  first = 45;
  rest = step_text a n b u;
  is = refl;
  no_space = refl;
  no_digit = refl;
  at = signed_front 45 (step_text a n b u ++ v) refl ∙ ap (counted true) (regroup a n b u v) ∙ counted_front true a n b u v s m ha hn hb hu e ∙ ap (λ k. Some (modifier_read m, k)) (step_len a n b u);
}
modifier_front _ v _ ModifierText.line_start e = record {
  first = 108;
  rest = codes "inestart";
  is = refl;
  no_space = refl;
  no_digit = refl;
  at = edge_front 108 (codes "inestart") v modifier.LineStart refl (all_pass is_of_word (codes "linestart") refl) refl e;
}
modifier_front _ v _ ModifierText.line_end e = record {
  first = 108;
  rest = codes "ineend";
  is = refl;
  no_space = refl;
  no_digit = refl;
  at = edge_front 108 (codes "ineend") v modifier.LineEnd refl (all_pass is_of_word (codes "lineend") refl) refl e;
}

-- ---- modifiers, one after the other

-- the place that a modifier makes of another, and how many bytes it takes
abbrev pub step_by : List ℕ → ℕ → Option (Modifier × ℕ) → Option (ℕ × ℕ)
step_by text p o = option_map (λ (x : Modifier × ℕ). (changed text p x.0, x.1)) o

step_over : (text : List ℕ) (p c : ℕ) (u : List ℕ) (m : Modifier) (n : ℕ) → is_space c ≡ false → modifier_at (c ∷ u) ≡ Some (m, n) → step_at text p (c ∷ u) ≡ Some (changed text p m, n)
step_over text p c u m n filled e =
    ap (λ b. if b then Some (p, 0) else step_by text p (modifier_at (c ∷ u))) filled
    ∙ ap (step_by text p) e

pub moves_read : (text u : List ℕ) (p q : ℕ) → length text < 2 ^ 63 → p ≤ end_place text → Moves text u p q → moved text p 0 u ≡ Some q
moves_read text _ _ _ short inside (Moves.none p) = refl
moves_read text _ _ _ short inside (Moves.space c u p q s h) =
    ap (λ b. go_on (if b then Some (p, 0) else step_by text p (modifier_at (c ∷ u))) (λ next more. moved text next more u)) s
    ∙ moves_read text u p q short inside h
moves_read text _ _ _ short inside (Moves.modifier w u m p q k e h) =
    let is = modifier_front w u m k e in
    let t = is.first ∷ (is.rest ++ u) in
    let step : step_at text p t ≡ Some (changed text p (modifier_read m), length is.rest) = step_over text p is.first (is.rest ++ u) (modifier_read m) (length is.rest) is.no_space is.at in
    let one : 1 + length is.rest ≡ suc (length is.rest) = omega arith in
    ap (λ x. moved text p 0 (x ++ u)) is.is
    ∙ sym (first_moves text p (changed text p (modifier_read m)) (length is.rest) t step)
    ∙ ap (λ n. moved text (changed text p (modifier_read m)) 0 (drop n t)) one
    ∙ ap (moved text (changed text p (modifier_read m)) 0) (drop-append_seam is.rest u)
    ∙ ap (λ x. moved text x 0 u) (kept_changed text p m short inside)
    ∙ moves_read text u (changed text p m) q short (changed_inside text p m inside) h

-- no digit begins modifiers
pub moves_no_digit : (text u : List ℕ) (p q : ℕ) → Moves text u p q → BeginsNot is_decimal u
moves_no_digit text _ _ _ (Moves.none p) = tt
moves_no_digit text _ _ _ (Moves.space c u p q s h) = space_no_digit c s
moves_no_digit text _ _ _ (Moves.modifier w u m p q k e h) =
    let is = modifier_front w u m k e in
    subst (λ x. BeginsNot is_decimal (x ++ u)) (sym is.is) is.no_digit
