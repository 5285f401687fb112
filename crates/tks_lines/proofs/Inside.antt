-- Marks are inside the text.
use Rattle.std.proofs.Common.{◌≡◌, ℕ, ◌+◌, ◌-◌, ◌<◌, ◌≤◌, nat_le, min, max, Bool, true, false, if◌then◌else◌, List, [], ◌∷◌, ◌++◌, length, take, drop, map, Some, refl, sym, subst, arith}
use Rattle.std.specs.Prelude.{IfSome, ◌||◌, not}
use Rattle.std.specs.List.{AllByRecursion, list_any}
use Rattle.std.proofs.lemmas.Bool.Decides.{nat_tests}
use Rattle.std.proofs.lemmas.List.{length-append, length-take-le, length-take, length-drop}
use Rattle.tks_lines.specs.declared.parts.Mark.{Mark}
use Rattle.tks_lines.specs.Lines.{is_mark, mark_named, AreInside, goes_on, moved_on, moved_back, put_at, with_mark, without_marks, turned, turned_marks, cursor_name, is_listed, spliced, cut}

-- the mark of a name is
pub named_inside : (len : ℕ) (name : List ℕ) (marks : List Mark) → AreInside len marks → IfSome (mark_named name marks) (λ m. m.place ≤ len)
named_inside len name [] h = tt
named_inside len name (m ∷ marks) h = by (is_mark name m) (named_inside len name marks h.1)
  where
    by : (b : Bool) → IfSome (mark_named name marks) (λ m. m.place ≤ len) → IfSome (if b then Some m else mark_named name marks) (λ m. m.place ≤ len)
    by true rest = h.0
    by false rest = rest

pub found_inside : (len : ℕ) (name : List ℕ) (marks : List Mark) (m : Mark) → AreInside len marks → Some m ≡ mark_named name marks → m.place ≤ len + 1
found_inside len name marks m h e =
    let here : m.place ≤ len = subst (λ o. IfSome o (λ m. m.place ≤ len)) (sym e) (named_inside len name marks h) in
    omega arith

-- ---- marks that are changed

-- one more is inside where characters come in
one_on : (len place count : ℕ) (m : Mark) → place ≤ len → m.place ≤ len → (moved_on place count m).place ≤ len + count
one_on len place count m here h = by (goes_on place m)
  where
    by : (b : Bool) → (if b then record m { place = m.place + count } else m).place ≤ len + count
    by true = omega arith
    by false = omega arith

on_inside : (len place count : ℕ) (marks : List Mark) → place ≤ len → AreInside len marks → AreInside (len + count) (map (moved_on place count) marks)
on_inside len place count [] here h = h
on_inside len place count (m ∷ marks) here h = (one_on len place count m here h.0, on_inside len place count marks here h.1)

one_back : (len short first last : ℕ) (m : Mark) → min first len + (len - max first last) ≤ short → m.place ≤ len → (moved_back first last m).place ≤ short
one_back len short first last m e h = by (nat_le m.place first) refl
  where
    by : (b : Bool) → nat_le m.place first ≡ b → (if b then m else record m { place = m.place - (min m.place last - first) }).place ≤ short
    by true t = grind (arith, nat_tests)
    by false t = grind (arith, nat_tests)

back_inside : (len short first last : ℕ) (marks : List Mark) → min first len + (len - max first last) ≤ short → AreInside len marks → AreInside short (map (moved_back first last) marks)
back_inside len short first last [] e h = h
back_inside len short first last (m ∷ marks) e h = (one_back len short first last m e h.0, back_inside len short first last marks e h.1)

one_put : (len place : ℕ) (name : List ℕ) (m : Mark) → place ≤ len → m.place ≤ len → (put_at name place m).place ≤ len
one_put len place name m here h = by (is_mark name m)
  where
    by : (b : Bool) → (if b then record m { place = place } else m).place ≤ len
    by true = here
    by false = h

put_inside : (len place : ℕ) (name : List ℕ) (marks : List Mark) → place ≤ len → AreInside len marks → AreInside len (map (put_at name place) marks)
put_inside len place name [] here h = h
put_inside len place name (m ∷ marks) here h = (one_put len place name m here h.0, put_inside len place name marks here h.1)

more_inside : (len : ℕ) (m : Mark) (marks : List Mark) → m.place ≤ len → AreInside len marks → AreInside len (marks ++ m ∷ [])
more_inside len m [] here h = (here, h)
more_inside len m (n ∷ marks) here h = (h.0, more_inside len m marks here h.1)

-- ---- the five changes

pub inserted_inside : (place : ℕ) (more text : List ℕ) (marks : List Mark) → place ≤ length text → AreInside (length text) marks
    → AreInside (length (spliced place more text)) (map (moved_on place (length more)) marks)
inserted_inside place more text marks here h =
    let long : length text + length more ≡ length (spliced place more text) = omega (arith, length-append (take place text) (more ++ drop place text), length-append more (drop place text), length-take-le place text here, length-drop place text) in
    subst (λ n. AreInside n (map (moved_on place (length more)) marks)) long (on_inside (length text) place (length more) marks here h)

pub deleted_inside : (first last : ℕ) (text : List ℕ) (marks : List Mark) → AreInside (length text) marks → AreInside (length (cut first last text)) (map (moved_back first last) marks)
deleted_inside first last text marks h =
    let long : min first (length text) + (length text - max first last) ≤ length (cut first last text) = omega (arith, length-append (take first text) (drop (max first last) text), length-take first text, length-drop (max first last) text) in
    back_inside (length text) (length (cut first last text)) first last marks long h

pub set_inside : (len place : ℕ) (name : List ℕ) (marks : List Mark) → place ≤ len → AreInside len marks → AreInside len (with_mark name place marks)
set_inside len place name marks here h = by (list_any (is_mark name) marks)
  where
    by : (b : Bool) → AreInside len (if b then map (put_at name place) marks else marks ++ (record { name = name; place = place; left = false }) ∷ [])
    by true = put_inside len place name marks here h
    by false = more_inside len (record { name = name; place = place; left = false }) marks here h

if_kept : (len : ℕ) (b : Bool) (m : Mark) (marks : List Mark) → m.place ≤ len → AreInside len marks → AreInside len (if b then m ∷ marks else marks)
if_kept len true m marks here h = (here, h)
if_kept len false m marks here h = h

pub unset_inside : (len : ℕ) (names : List (List ℕ)) (marks : List Mark) → AreInside len marks → AreInside len (without_marks names marks)
unset_inside len names [] h = h
unset_inside len names (m ∷ marks) h = if_kept len (is_mark cursor_name m || not (is_listed m.name names)) m (without_marks names marks) h.0 (unset_inside len names marks h.1)

one_turned : (len : ℕ) (name : List ℕ) (left : Bool) (m : Mark) → m.place ≤ len → (turned name left m).place ≤ len
one_turned len name left m h = by (is_mark name m)
  where
    by : (b : Bool) → (if b then record m { left = left } else m).place ≤ len
    by true = h
    by false = h

pub turned_inside : (len : ℕ) (name : List ℕ) (left : Bool) (marks : List Mark) → AreInside len marks → AreInside len (turned_marks name left marks)
turned_inside len name left [] h = h
turned_inside len name left (m ∷ marks) h = (one_turned len name left m h.0, turned_inside len name left marks h.1)

-- they stay small where they move on
pub small_on : (len count : ℕ) (limit : ℕ) (marks : List Mark) → len + count < limit → AreInside len marks → AllByRecursion (λ m. m.place + count < limit) marks
small_on len count limit [] h a = tt
small_on len count limit (m ∷ marks) h a = (omega (arith, a.0), small_on len count limit marks h a.1)
