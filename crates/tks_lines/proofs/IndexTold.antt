-- What is read of a text as an index is told of it.
use Rattle.std.proofs.Common.{◌≡◌, ℕ, zero, suc, ◌+◌, ◌-◌, ◌^◌, ◌<◌, ◌≤◌, ◌||◌, Bool, true, false, eqb, if◌then◌else◌, List, [], ◌∷◌, ◌++◌, length, take, drop, Option, Some, None, refl, sym, ap, ◌∙◌, inl, inr, subst, arith, append_assoc, length-append}
use Rattle.std.specs.Prelude.{codes}
use Rattle.std.specs.Cmp.Lexicographic.{bytes_decides}
use Rattle.std.specs.Option.{option_map}
use Rattle.std.specs.Str.Parse.{digits_value}
use Rattle.std.proofs.lemmas.Bool.{eqb-true, eqb-false}
use Rattle.std.proofs.lemmas.List.{take-append-drop}
use Rattle.std.proofs.lemmas.List.Folds.{length-prefix_len}
use Rattle.std.proofs.Math.Seq.{drop-append_seam}
use Rattle.tks_text.specs.Integer.{is_space, AreSpaces}
use Rattle.tks_text.specs.Text.{same_text}
use Rattle.tks_text.proofs.Prefixes.{prefix_passes}
use Rattle.tks_text.proofs.Tests.{or_case}
use Rattle.tks_lines.specs.declared.modifier.Step.{Step}
use Rattle.tks_lines.specs.declared.modifier.Modifier.{Modifier}
use Rattle.tks_lines.specs.declared.modifier.Modifier.TheVariants as modifier
use Rattle.tks_lines.specs.declared.parts.Mark.{Mark}
use Rattle.tks_lines.specs.Places.{end_place, place_of_line, changed}
use Rattle.tks_lines.specs.Indices.{space_len, digits_len, word_len, word_at, number_at, column_at, behind_dot, line_column, numbered, named, count_at, is_one_of_three, unit_named, edge_named, turned_back, unit_at, counted, modifier_at, go_on, moved}
use Rattle.tks_lines.specs.IndexText.{is_minus, is_of_word, Among, IsNumber, ColumnText, PlaceText, NameText, CountText, UnitText, ModifierText, EndsWord, Moves}
use Rattle.tks_lines.specs.Lines.{Lines, is_mark, mark_named}
use Rattle.tks_lines.proofs.IndexRead.{is_decimal, same_names, column_by, below_line, of_line, with_len, count_by, unit_behind, counted_by, counted_is, step_text, step_len, regroup, step_by}
use Rattle.tks_lines.proofs.Kept.{as_read, column_read, step_read, modifier_read, kept_place, kept_changed, changed_inside}

pub some_is : {X : Type 0} (x y : X) → Option.Some x ≡ Option.Some y → x ≡ y
some_is x y e = cc

pub pair_is : {X Y : Type 0} (a b : X) (m n : Y) → ◌≡◌ {A = Option (X × Y)} (Some (a, m)) (Some (b, n)) → (a ≡ b) × (m ≡ n)
pair_is {X} {Y} a b m n e =
    let is : ◌≡◌ {A = X × Y} (a, m) (b, n) = cc in
    (ap (λ (z : X × Y). z.0) is, ap (λ (z : X × Y). z.1) is)

triple_is : {X Y Z : Type 0} (a b : X) (k l : Y) (m n : Z) → ◌≡◌ {A = Option (X × Y × Z)} (Some (a, k, m)) (Some (b, l, n)) → (a ≡ b) × (k ≡ l) × (m ≡ n)
triple_is {X} {Y} {Z} a b k l m n e =
    let is : ◌≡◌ {A = X × Y × Z} (a, k, m) (b, l, n) = cc in
    (ap (λ (z : X × Y × Z). z.0) is, ap (λ (z : X × Y × Z). z.1) is, ap (λ (z : X × Y × Z). z.2) is)

-- ---- numbers, columns and lines

number_told : (t : List ℕ) → eqb (digits_len t) 0 ≡ false → IsNumber (take (digits_len t) t) (digits_value 10 (take (digits_len t) t))
number_told t e = record {
  some = omega (arith, length-prefix_len is_decimal t, eqb-false (digits_len t) 0 e);
  digits = (prefix_passes is_decimal t).0;
  value = refl;
}

record ColumnFound (t : List ℕ) (c : Option ℕ) (n : ℕ) : Type 0 where
  pub text : List ℕ
  pub rest : List ℕ
  pub column : Option ℕ
  pub is : t ≡ text ++ rest
  pub told : ColumnText text column
  pub value : c ≡ column_read column
  pub len : n ≡ length text

column_told : (t : List ℕ) (c : Option ℕ) (n : ℕ) → column_at t ≡ Some (c, n) → ColumnFound t c n
column_told t c n e = by (same_text (take 3 t) (codes "end")) (eqb (digits_len t) 0) refl refl e
  where
    by : (a b : Bool) → same_text (take 3 t) (codes "end") ≡ a → eqb (digits_len t) 0 ≡ b → column_by a b t ≡ Some (c, n) → ColumnFound t c n
    by true b k l s =
        let is = pair_is None c 3 n s in
        record {
          text = codes "end";
          rest = drop 3 t;
          column = None;
          is = sym (take-append-drop 3 t) ∙ ap (λ x. x ++ drop 3 t) (same_names (take 3 t) (codes "end") k);
          told = ColumnText.line_end;
          value = sym is.0;
          len = sym is.1;
        }
    by false true k l s = absurd cc
    by false false k l s =
        let is = pair_is (Some (number_at t)) c (digits_len t) n s in
        record {
          text = take (digits_len t) t;
          rest = drop (digits_len t) t;
          column = Some (digits_value 10 (take (digits_len t) t));
          is = sym (take-append-drop (digits_len t) t);
          told = ColumnText.number (take (digits_len t) t) (digits_value 10 (take (digits_len t) t)) (number_told t l);
          value = sym is.0;
          len = sym is.1 ∙ sym (length-prefix_len is_decimal t);
        }

-- a column behind a dot
abbrev dot_by : Bool → Option (Option ℕ × ℕ) → Option (Option ℕ × ℕ)
dot_by dot o = if dot then option_map (λ (x : Option ℕ × ℕ). (x.0, x.1 + 1)) o else None

record DotFound (t : List ℕ) (c : Option ℕ) (n : ℕ) : Type 0 where
  pub rest : List ℕ
  pub count : ℕ
  pub is : t ≡ 46 ∷ rest
  pub column : column_at rest ≡ Some (c, count)
  pub len : n ≡ count + 1

dot_told : (t : List ℕ) (c : Option ℕ) (n : ℕ) → behind_dot t ≡ Some (c, n) → DotFound t c n
dot_told [] c n e = absurd cc
dot_told (x ∷ u) c n e = by (eqb x 46) (column_at u) refl refl e
  where
    by : (a : Bool) (o : Option (Option ℕ × ℕ)) → eqb x 46 ≡ a → column_at u ≡ o → dot_by a o ≡ Some (c, n) → DotFound (x ∷ u) c n
    by true (Some y) k l s =
        let is = pair_is y.0 c (y.1 + 1) n s in
        record {
          rest = u;
          count = y.1;
          is = ap (λ z. z ∷ u) (eqb-true x 46 k);
          column = l ∙ ap (λ z. Some (z, y.1)) is.0;
          len = sym is.1;
        }
    by true None k l s = absurd cc
    by false o k l s = absurd cc

-- a line and its column, behind the line's digits
abbrev line_by : Bool → List ℕ → Option (Option ℕ × ℕ) → Option (ℕ × Option ℕ × ℕ)
line_by none t o = if none then None else option_map (λ (x : Option ℕ × ℕ). (number_at t, x.0, digits_len t + x.1)) o

record LineFound (t : List ℕ) (line : ℕ) (c : Option ℕ) (n : ℕ) : Type 0 where
  pub digits : List ℕ
  pub text : List ℕ
  pub rest : List ℕ
  pub number : ℕ
  pub column : Option ℕ
  pub is : t ≡ digits ++ 46 ∷ (text ++ rest)
  pub line_told : IsNumber digits number
  pub column_told : ColumnText text column
  pub line_is : line ≡ as_read number
  pub column_is : c ≡ column_read column
  pub len : n ≡ length digits + (length text + 1)

line_told : (t : List ℕ) (line : ℕ) (c : Option ℕ) (n : ℕ) → line_column t ≡ Some (line, c, n) → LineFound t line c n
line_told t line c n e = by (eqb (digits_len t) 0) (behind_dot (drop (digits_len t) t)) refl refl e
  where
    by : (a : Bool) (o : Option (Option ℕ × ℕ)) → eqb (digits_len t) 0 ≡ a → behind_dot (drop (digits_len t) t) ≡ o
        → line_by a t o ≡ Some (line, c, n) → LineFound t line c n
    by true o k l s = absurd cc
    by false None k l s = absurd cc
    by false (Some y) k l s =
        let is = triple_is (number_at t) line y.0 c (digits_len t + y.1) n s in
        let dot = dot_told (drop (digits_len t) t) y.0 y.1 l in
        let col = column_told dot.rest y.0 dot.count dot.column in
        record {
          digits = take (digits_len t) t;
          text = col.text;
          rest = col.rest;
          number = digits_value 10 (take (digits_len t) t);
          column = col.column;
          is = sym (take-append-drop (digits_len t) t) ∙ ap (λ x. take (digits_len t) t ++ x) (dot.is ∙ ap (λ x. 46 ∷ x) col.is);
          line_told = number_told t k;
          column_told = col.told;
          line_is = sym is.0;
          column_is = sym is.1 ∙ col.value;
          len = omega (arith, is.2, dot.len, col.len, length-prefix_len is_decimal t);
        }

-- ---- places

pub record PlaceFound (text w : List ℕ) (p n : ℕ) : Type 0 where
  pub base : List ℕ
  pub rest : List ℕ
  pub is : w ≡ base ++ rest
  pub told : PlaceText text base p
  pub len : n ≡ length base

below_told : (text u : List ℕ) (c p n : ℕ) (o : Option (ℕ × Option ℕ × ℕ)) → line_column u ≡ o → c ≡ 45 → below_line o ≡ Some (p, n) → PlaceFound text (c ∷ u) p n
below_told text u c p n None l k s = absurd cc
below_told text u c p n (Some y) l k s =
    let is = pair_is 0 p (y.2 + 1) n s in
    let at = line_told u y.0 y.1 y.2 l in
    let base = 45 ∷ (at.digits ++ 46 ∷ at.text) in
    record {
      base = base;
      rest = at.rest;
      is = ap (λ x. x ∷ u) k ∙ ap (λ x. 45 ∷ x) (at.is ∙ sym (append_assoc at.digits (46 ∷ at.text) at.rest));
      told = subst (PlaceText text base) is.0 (PlaceText.below_first at.digits at.text at.number at.column at.line_told at.column_told);
      len = omega (arith, is.1, at.len, length-append at.digits (46 ∷ at.text));
    }

in_line_told : (text w : List ℕ) (p n : ℕ) → length text < 2 ^ 63 → (o : Option (ℕ × Option ℕ × ℕ)) → line_column w ≡ o → of_line text o ≡ Some (p, n) → PlaceFound text w p n
in_line_told text w p n short None l s = absurd cc
in_line_told text w p n short (Some y) l s =
    let is = pair_is (place_of_line text y.0 y.1) p y.2 n s in
    let at = line_told w y.0 y.1 y.2 l in
    let base = at.digits ++ 46 ∷ at.text in
    let here : place_of_line text at.number at.column ≡ p =
    sym (ap (λ x. place_of_line text x y.1) at.line_is ∙ ap (place_of_line text (as_read at.number)) at.column_is ∙ kept_place text at.number at.column short) ∙ is.0 in
    record {
      base = base;
      rest = at.rest;
      is = at.is ∙ sym (append_assoc at.digits (46 ∷ at.text) at.rest);
      told = subst (PlaceText text base) here (PlaceText.in_line at.digits at.text at.number at.column at.line_told at.column_told);
      len = omega (arith, is.1, at.len, length-append at.digits (46 ∷ at.text));
    }

pub numbered_told : (text w : List ℕ) (p n : ℕ) → length text < 2 ^ 63 → numbered text w ≡ Some (p, n) → PlaceFound text w p n
numbered_told text [] p n short e = absurd cc
numbered_told text (c ∷ u) p n short e = by (is_minus c) refl e
  where
    by : (b : Bool) → is_minus c ≡ b
        → (if b then below_line (line_column u) else of_line text (line_column (c ∷ u))) ≡ Some (p, n)
        → PlaceFound text (c ∷ u) p n
    by true k s = below_told text u c p n (line_column u) refl (eqb-true c 45 k) s
    by false k s = in_line_told text (c ∷ u) p n short (line_column (c ∷ u)) refl s

-- ---- names

mark_told : (name : List ℕ) (marks : List Mark) (m : Mark) → mark_named name marks ≡ Some m → Among m marks × (m.name ≡ name)
mark_told name [] m e = absurd cc
mark_told name (x ∷ marks) m e = by (mark_told name marks m) (is_mark name x) refl e
  where
    by : (mark_named name marks ≡ Some m → Among m marks × (m.name ≡ name)) → (b : Bool) → is_mark name x ≡ b → (if b then Some x else mark_named name marks) ≡ Some m → Among m (x ∷ marks) × (m.name ≡ name)
    by later true k s = let is : x ≡ m = some_is x m s in (inl (sym is), ap (λ (m : Mark). m.name) (sym is) ∙ same_names x.name name k)
    by later false k s = let rest = later s in (inr rest.0, rest.1)

other_told : (t : Lines) (name : List ℕ) (p : ℕ) (o : Option Mark) → mark_named name t.marks ≡ o → same_text name (codes "end") ≡ false → option_map (λ (m : Mark). m.place) o ≡ Some p → NameText t name p
other_told t name p None l k s = absurd cc
other_told t name p (Some m) l k s =
    let at = mark_told name t.marks m l in
    let other : m.name ≡ codes "end" → ⊥ = λ e. let both : true ≡ false = sym ((bytes_decides name (codes "end")).1 (sym at.1 ∙ e)) ∙ k in absurd cc in
    subst (NameText t name) (some_is m.place p s) (subst (λ n. NameText t n m.place) at.1 (NameText.mark m at.0 other))

pub name_told : (t : Lines) (name : List ℕ) (p : ℕ) → named t name ≡ Some p → NameText t name p
name_told t name p e = by (same_text name (codes "end")) refl e
  where
    by : (b : Bool) → same_text name (codes "end") ≡ b → (if b then Some (end_place t.text) else option_map (λ (m : Mark). m.place) (mark_named name t.marks)) ≡ Some p → NameText t name p
    by true k s = subst (NameText t name) (some_is (end_place t.text) p s) (subst (λ n. NameText t n (end_place t.text)) (sym (same_names name (codes "end") k)) NameText.text_end)
    by false k s = other_told t name p (mark_named name t.marks) refl k s

-- ---- units

three_told : (a b c w : List ℕ) → is_one_of_three a b c w ≡ true → Among w (a ∷ b ∷ c ∷ [])
three_told a b c w e =
    or_case (same_text w a) (same_text w b || same_text w c) e (λ k. inl (same_names w a k))
    (λ r. or_case (same_text w b) (same_text w c) r (λ k. inr (inl (same_names w b k))) (λ k. inr (inr (inl (same_names w c k)))))

unit_told : (word : List ℕ) (s : Step) (m : Modifier) → unit_named word s ≡ Some m → UnitText word s m
unit_told word s m e = by (is_one_of_three (codes "c") (codes "char") (codes "chars") word) (is_one_of_three (codes "l") (codes "line") (codes "lines") word) refl refl e
  where
    by : (a b : Bool) → is_one_of_three (codes "c") (codes "char") (codes "chars") word ≡ a → is_one_of_three (codes "l") (codes "line") (codes "lines") word ≡ b
        → (if a then Some (modifier.Chars s) else (if b then Some (modifier.Lines s) else None)) ≡ Some m → UnitText word s m
    by true b k l r = subst (UnitText word s) (some_is (modifier.Chars s) m r) (UnitText.chars word s (three_told (codes "c") (codes "char") (codes "chars") word k))
    by false true k l r = subst (UnitText word s) (some_is (modifier.Lines s) m r) (UnitText.lines word s (three_told (codes "l") (codes "line") (codes "lines") word l))
    by false false k l r = absurd cc

record UnitFound (s : Step) (t : List ℕ) (m : Modifier) (n : ℕ) : Type 0 where
  pub before : List ℕ
  pub unit : List ℕ
  pub rest : List ℕ
  pub is : t ≡ before ++ (unit ++ rest)
  pub spaces : AreSpaces before
  pub told : UnitText unit s m
  pub ends : EndsWord rest
  pub len : n ≡ length before + length unit

unit_found : (s : Step) (t : List ℕ) (m : Modifier) (n : ℕ) → unit_at s t ≡ Some (m, n) → UnitFound s t m n
unit_found s t m n e = by (unit_named (word_at (drop (space_len t) t)) s) refl e
  where
    by : (o : Option Modifier) → unit_named (word_at (drop (space_len t) t)) s ≡ o → with_len (space_len t + word_len (drop (space_len t) t)) o ≡ Some (m, n) → UnitFound s t m n
    by None k r = absurd cc
    by (Some x) k r =
        let word = drop (space_len t) t in
        let is = pair_is x m (space_len t + word_len word) n r in
        record {
          before = take (space_len t) t;
          unit = word_at word;
          rest = drop (word_len word) word;
          is = sym (take-append-drop (space_len t) t) ∙ ap (λ y. take (space_len t) t ++ y) (sym (take-append-drop (word_len word) word));
          spaces = (prefix_passes is_space t).0;
          told = subst (UnitText (word_at word) s) is.0 (unit_told (word_at word) s x k);
          ends = (prefix_passes is_of_word word).1;
          len = omega (arith, is.1, length-prefix_len is_space t, length-prefix_len is_of_word word);
        }

-- the unit of a count as it is, by that of the count as it is read
record UnitKept (u : List ℕ) (s : Step) (m : Modifier) : Type 0 where
  pub change : Modifier
  pub told : UnitText u s change
  pub value : m ≡ modifier_read change

unit_kept : (u : List ℕ) (r s : Step) (m : Modifier) → UnitText u r m → r ≡ step_read s → UnitKept u s m
unit_kept _ _ s _ (UnitText.chars u r h) e = record { change = modifier.Chars s; told = UnitText.chars u s h; value = ap modifier.Chars e }
unit_kept _ _ s _ (UnitText.lines u r h) e = record { change = modifier.Lines s; told = UnitText.lines u s h; value = ap modifier.Lines e }

-- ---- counts

record CountFound (t : List ℕ) (x : Step) (n : ℕ) : Type 0 where
  pub count : List ℕ
  pub rest : List ℕ
  pub step : Step
  pub is : t ≡ count ++ rest
  pub told : CountText count step
  pub value : x ≡ step_read step
  pub len : n ≡ length count

abbrev stepping : Bool → ℕ → Step
stepping back n = record { back = back; count = n }

-- a count of digits, behind so many bytes
abbrev digits_by : Bool → Bool → ℕ → List ℕ → Option (Step × ℕ)
digits_by none back k digits = if none then None else Some (stepping back (number_at digits), k + digits_len digits)

record DigitsFound (back : Bool) (digits : List ℕ) (x : Step) (k n : ℕ) : Type 0 where
  pub number : List ℕ
  pub rest : List ℕ
  pub value : ℕ
  pub is : digits ≡ number ++ rest
  pub told : IsNumber number value
  pub step_is : x ≡ step_read (stepping back value)
  pub len : n ≡ k + length number

digits_found : (back : Bool) (digits : List ℕ) (x : Step) (k n : ℕ) → count_by k back digits ≡ Some (x, n) → DigitsFound back digits x k n
digits_found back digits x k n e = by (eqb (digits_len digits) 0) refl e
  where
    by : (b : Bool) → eqb (digits_len digits) 0 ≡ b → digits_by b back k digits ≡ Some (x, n) → DigitsFound back digits x k n
    by true l s = absurd cc
    by false l s =
        let is = pair_is (stepping back (number_at digits)) x (k + digits_len digits) n s in
        record {
          number = take (digits_len digits) digits;
          rest = drop (digits_len digits) digits;
          value = digits_value 10 (take (digits_len digits) digits);
          is = sym (take-append-drop (digits_len digits) digits);
          told = number_told digits l;
          step_is = sym is.0;
          len = omega (arith, is.1, length-prefix_len is_decimal digits);
        }

count_found : (t : List ℕ) (x : Step) (n : ℕ) → count_at t ≡ Some (x, n) → CountFound t x n
count_found [] x n e = absurd cc
count_found (c ∷ u) x n e = by (eqb c 43) (eqb c 45) refl refl e
  where
    by : (a b : Bool) → eqb c 43 ≡ a → eqb c 45 ≡ b → count_by (if a || b then 1 else 0) b (drop (if a || b then 1 else 0) (c ∷ u)) ≡ Some (x, n) → CountFound (c ∷ u) x n
    by true true k l s = let two = sym (eqb-true c 43 k) ∙ eqb-true c 45 l in absurd (omega (arith, two))
    by false true k l s =
        let at = digits_found true u x 1 n s in
        record { count = 45 ∷ at.number; rest = at.rest; step = stepping true at.value; is = ap (λ y. y ∷ u) (eqb-true c 45 l) ∙ ap (λ y. 45 ∷ y) at.is; told = CountText.minus at.number at.value at.told; value = at.step_is; len = omega (arith, at.len) }
    by true false k l s =
        let at = digits_found false u x 1 n s in
        record { count = 43 ∷ at.number; rest = at.rest; step = stepping false at.value; is = ap (λ y. y ∷ u) (eqb-true c 43 k) ∙ ap (λ y. 43 ∷ y) at.is; told = CountText.plus at.number at.value at.told; value = at.step_is; len = omega (arith, at.len) }
    by false false k l s =
        let at = digits_found false (c ∷ u) x 0 n s in
        record { count = at.number; rest = at.rest; step = stepping false at.value; is = at.is; told = CountText.bare at.number at.value at.told; value = at.step_is; len = omega (arith, at.len) }

-- ---- modifiers

record StepFound (back : Bool) (t : List ℕ) (m : Modifier) (n : ℕ) : Type 0 where
  pub a : List ℕ
  pub count : List ℕ
  pub b : List ℕ
  pub unit : List ℕ
  pub rest : List ℕ
  pub step : Step
  pub change : Modifier
  pub is : t ≡ step_text a count b unit ++ rest
  pub first_spaces : AreSpaces a
  pub count_told : CountText count step
  pub second_spaces : AreSpaces b
  pub unit_told : UnitText unit (turned_back back step) change
  pub ends : EndsWord rest
  pub value : m ≡ modifier_read change
  pub len : n ≡ length (step_text a count b unit)

turned_read : (back : Bool) (s : Step) → turned_back back (step_read s) ≡ step_read (turned_back back s)
turned_read true s = refl
turned_read false s = refl

step_found : (back : Bool) (t : List ℕ) (m : Modifier) (n : ℕ) → counted back t ≡ Some (m, n) → StepFound back t m n
step_found back t m n e = by (count_at (drop (space_len t) t)) refl (sym (counted_is back t) ∙ e)
  where
    at_unit : (x : Step × ℕ) → count_at (drop (space_len t) t) ≡ Some x → (o : Option (Modifier × ℕ)) → unit_at (turned_back back x.0) (drop x.1 (drop (space_len t) t)) ≡ o
        → unit_behind (space_len t + x.1) o ≡ Some (m, n) → StepFound back t m n
    at_unit x k None l s = absurd cc
    at_unit x k (Some y) l s =
        let number = drop (space_len t) t in
        let is = pair_is y.0 m (space_len t + x.1 + y.1) n s in
        let c = count_found number x.0 x.1 k in
        let behind : drop x.1 number ≡ c.rest = ap (λ i. drop i number) c.len ∙ ap (drop (length c.count)) c.is ∙ drop-append_seam c.count c.rest in
        let u = unit_found (turned_back back x.0) (drop x.1 number) y.0 y.1 l in
        let kept = unit_kept u.unit (turned_back back x.0) (turned_back back c.step) y.0 u.told (ap (turned_back back) c.value ∙ turned_read back c.step) in
        record {
          a = take (space_len t) t;
          count = c.count;
          b = u.before;
          unit = u.unit;
          rest = u.rest;
          step = c.step;
          change = kept.change;
          is = sym (take-append-drop (space_len t) t) ∙ ap (λ z. take (space_len t) t ++ z) (c.is ∙ ap (λ z. c.count ++ z) (sym behind ∙ u.is)) ∙ sym (regroup (take (space_len t) t) c.count u.before u.unit u.rest);
          first_spaces = (prefix_passes is_space t).0;
          count_told = c.told;
          second_spaces = u.spaces;
          unit_told = kept.told;
          ends = u.ends;
          value = sym is.0 ∙ kept.value;
          len = omega (arith, is.1, length-prefix_len is_space t, c.len, u.len, step_len (take (space_len t) t) c.count u.before u.unit);
        }

    by : (o : Option (Step × ℕ)) → count_at (drop (space_len t) t) ≡ o → counted_by back (space_len t) (drop (space_len t) t) o ≡ Some (m, n) → StepFound back t m n
    by None k s = absurd cc
    by (Some x) k s = at_unit x k (unit_at (turned_back back x.0) (drop x.1 (drop (space_len t) t))) refl s

record ModifierFound (t : List ℕ) (m : Modifier) (n : ℕ) : Type 0 where
  pub word : List ℕ
  pub rest : List ℕ
  pub change : Modifier
  pub is : t ≡ word ++ rest
  pub told : ModifierText word change
  pub ends : EndsWord rest
  pub value : m ≡ modifier_read change
  pub len : suc n ≡ length word

edge_told : (word : List ℕ) (m : Modifier) → edge_named word ≡ Some m → ModifierText word m × (m ≡ modifier_read m) × (0 < length word)
edge_told word m e = by (same_text word (codes "linestart")) (same_text word (codes "lineend")) refl refl e
  where
    by : (a b : Bool) → same_text word (codes "linestart") ≡ a → same_text word (codes "lineend") ≡ b → (if a then Some modifier.LineStart else (if b then Some modifier.LineEnd else None)) ≡ Some m
        → ModifierText word m × (m ≡ modifier_read m) × (0 < length word)
    by true b k l s =
        let is = some_is modifier.LineStart m s in
        let word_is = same_names word (codes "linestart") k in
        subst (λ m. ModifierText word m × (m ≡ modifier_read m) × (0 < length word)) is (subst (λ w. ModifierText w modifier.LineStart) (sym word_is) ModifierText.line_start, refl, omega (arith, ap length word_is))
    by false true k l s =
        let is = some_is modifier.LineEnd m s in
        let word_is = same_names word (codes "lineend") l in
        subst (λ m. ModifierText word m × (m ≡ modifier_read m) × (0 < length word)) is (subst (λ w. ModifierText w modifier.LineEnd) (sym word_is) ModifierText.line_end, refl, omega (arith, ap length word_is))
    by false false k l s = absurd cc

word_found : (t : List ℕ) (m : Modifier) (n : ℕ) (o : Option Modifier) → edge_named (word_at t) ≡ o → with_len (word_len t - 1) o ≡ Some (m, n) → ModifierFound t m n
word_found t m n None k s = absurd cc
word_found t m n (Some x) k s =
    let is = pair_is x m (word_len t - 1) n s in
    let at = edge_told (word_at t) x k in
    record {
      word = word_at t;
      rest = drop (word_len t) t;
      change = x;
      is = sym (take-append-drop (word_len t) t);
      told = at.0;
      ends = (prefix_passes is_of_word t).1;
      value = sym is.0 ∙ at.1;
      len = omega (arith, is.1, length-prefix_len is_of_word t, at.2);
    }

forward_found : (c : ℕ) (u : List ℕ) (m : Modifier) (n : ℕ) → c ≡ 43 → counted false u ≡ Some (m, n) → ModifierFound (c ∷ u) m n
forward_found c u m n k s =
    let at = step_found false u m n s in
    record {
      word = 43 ∷ step_text at.a at.count at.b at.unit;
      rest = at.rest;
      change = at.change;
      is = ap (λ x. x ∷ u) k ∙ ap (λ x. 43 ∷ x) at.is;
      told = ModifierText.forward at.a at.count at.b at.unit at.step at.change at.first_spaces at.count_told at.second_spaces at.unit_told;
      ends = at.ends;
      value = at.value;
      len = ap suc at.len;
    }

back_found : (c : ℕ) (u : List ℕ) (m : Modifier) (n : ℕ) → c ≡ 45 → counted true u ≡ Some (m, n) → ModifierFound (c ∷ u) m n
back_found c u m n k s =
    let at = step_found true u m n s in
    record {
      word = 45 ∷ step_text at.a at.count at.b at.unit;
      rest = at.rest;
      change = at.change;
      is = ap (λ x. x ∷ u) k ∙ ap (λ x. 45 ∷ x) at.is;
      told = ModifierText.backward at.a at.count at.b at.unit at.step at.change at.first_spaces at.count_told at.second_spaces at.unit_told;
      ends = at.ends;
      value = at.value;
      len = ap suc at.len;
    }

modifier_found : (c : ℕ) (u : List ℕ) (m : Modifier) (n : ℕ) → modifier_at (c ∷ u) ≡ Some (m, n) → ModifierFound (c ∷ u) m n
unfolding modifier_at
modifier_found c u m n e = by (eqb c 43) (eqb c 45) refl refl e
  where
    by : (a b : Bool) → eqb c 43 ≡ a → eqb c 45 ≡ b → (if a || b then counted b u else with_len (word_len (c ∷ u) - 1) (edge_named (word_at (c ∷ u)))) ≡ Some (m, n) → ModifierFound (c ∷ u) m n
    by true true k l s = let two = sym (eqb-true c 43 k) ∙ eqb-true c 45 l in absurd (omega (arith, two))
    by true false k l s = forward_found c u m n (eqb-true c 43 k) s
    by false true k l s = back_found c u m n (eqb-true c 45 l) s
    by false false k l s = word_found (c ∷ u) m n (edge_named (word_at (c ∷ u))) refl s

-- ---- modifiers, one after the other

drop_none : (k : ℕ) → drop {A = ℕ} k [] ≡ []
drop_none zero = refl
drop_none (suc k) = refl

module _ (text : List ℕ) (short : length text < 2 ^ 63) where
  -- what is told of the modifiers behind so many bytes of u
  abbrev Tells : List ℕ → Type 0
  Tells u = (skip p q : ℕ) → p ≤ end_place text → moved text p skip u ≡ Some q → Moves text (drop skip u) p q

  over_told : (c : ℕ) (u : List ℕ) (p q : ℕ) → Tells u → p ≤ end_place text → (o : Option (Modifier × ℕ)) → modifier_at (c ∷ u) ≡ o
      → go_on (step_by text p o) (λ next more. moved text next more u) ≡ Some q → Moves text (c ∷ u) p q
  over_told c u p q tells inside None k s = absurd cc
  over_told c u p q tells inside (Some x) k s =
      let at = modifier_found c u x.0 x.1 k in
      let same : changed text p x.0 ≡ changed text p at.change = ap (changed text p) at.value ∙ kept_changed text p at.change short inside in
      let rest : drop x.1 u ≡ at.rest = ap (λ n. drop n (c ∷ u)) at.len ∙ ap (drop (length at.word)) at.is ∙ drop-append_seam at.word at.rest in
      let behind : Moves text (drop x.1 u) (changed text p x.0) q = tells x.1 (changed text p x.0) q (subst (λ n. n ≤ end_place text) (sym same) (changed_inside text p at.change inside)) s in
      subst (λ t. Moves text t p q) (sym at.is)
      (Moves.modifier at.word at.rest at.change p q at.told at.ends (subst (λ t. Moves text t (changed text p at.change) q) rest (subst (λ n. Moves text (drop x.1 u) n q) same behind)))

  moves_from : (u : List ℕ) → Tells u
  moves_from [] skip p q inside e = subst (λ t. Moves text t p q) (sym (drop_none skip)) (subst (Moves text [] p) (some_is p q e) (Moves.none p))
  moves_from (c ∷ u) (suc skip) p q inside e = moves_from u skip p q inside e
  moves_from (c ∷ u) zero p q inside e = at (moves_from u) (is_space c) refl e
    where
      at : Tells u → (b : Bool) → is_space c ≡ b → go_on (if b then Some (p, 0) else step_by text p (modifier_at (c ∷ u))) (λ next more. moved text next more u) ≡ Some q → Moves text (c ∷ u) p q
      at tells true k s = Moves.space c u p q k (tells 0 p q inside s)
      at tells false k s = over_told c u p q tells inside (modifier_at (c ∷ u)) refl s

  pub moves_told : (u : List ℕ) (p q : ℕ) → p ≤ end_place text → moved text p 0 u ≡ Some q → Moves text u p q
  moves_told u p q inside e = moves_from u 0 p q inside e
