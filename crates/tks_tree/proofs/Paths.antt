-- Paths read from either end.
use Rattle.std.proofs.Common.{◌≡◌, ℕ, Bool, true, false, ◌&&◌, true≢false, List, [], ◌∷◌, ◌++◌, length, take, drop, Option, Some, None, is_some, refl, sym, ap, subst, ◌∙◌, if◌then◌else◌}
use Rattle.std.specs.Prelude.{nat_eq, ◌==◌}
use Rattle.std.specs.Cmp.Lexicographic.{pointwise}
use Rattle.tks_tree.specs.Path.{is_dot, before_dot, before_last_dot, or_root, parent_of, root_path, goes_on}
use Rattle.std.specs.Option.{option_map}
use Rattle.tks_text.specs.Text.{is_text_byte, same_text, IsText, begins_dot}

abbrev from_some : {X : Type 0} → X → Option X → X
from_some d None = d
from_some d (Some x) = x

first_true : (a b : Bool) → (a && b) ≡ true → a ≡ true
first_true true b h = refl
first_true false b h = h

second_true : (a b : Bool) → (a && b) ≡ true → b ≡ true
second_true true b h = h
second_true false b h = absurd (true≢false (sym h))

-- what is before the last dot, where the last byte is looked at first
pub last_first : (path : List ℕ) (c : ℕ) → before_last_dot (path ++ c ∷ []) ≡ (if is_dot c then Some path else before_last_dot path)
last_first [] c = refl
last_first (b ∷ path) c = ap (before_dot b) (last_first path c) ∙ by (is_dot c)
  where
    by : (dot : Bool) → before_dot b (if dot then Some path else before_last_dot path) ≡ (if dot then Some (b ∷ path) else before_last_dot (b ∷ path))
    by true = refl
    by false = refl

-- a path that begins with this goes on behind it with a dot or not
pub behind_front : (front path : List ℕ) → pointwise nat_eq (take (length front) path) front ≡ true → goes_on front path ≡ begins_dot (drop (length front) path)
behind_front [] path h = refl
behind_front (b ∷ front) [] h = absurd (true≢false (sym h))
behind_front (b ∷ front) (c ∷ path) h = ap (λ t. t && goes_on front path) (first_true _ _ h) ∙ behind_front front path (second_true _ _ h)

both_false : (same begins goes : Bool) → (same && begins) ≡ false → (begins ≡ false → goes ≡ false) → (same && goes) ≡ false
both_false true begins goes h next = next h
both_false false begins goes h next = refl

-- one that doesn't begin so doesn't go on
pub other_front : (front path : List ℕ) → pointwise nat_eq (take (length front) path) front ≡ false → goes_on front path ≡ false
other_front [] path h = absurd (true≢false h)
other_front (b ∷ front) [] h = refl
other_front (b ∷ front) (c ∷ path) h = both_false (c == b) _ _ h (other_front front path)

-- the step of the loop from the end
pub dot_last : (path front : List ℕ) (c : ℕ) → path ≡ front ++ c ∷ [] → is_dot c ≡ true → before_last_dot path ≡ Some front
dot_last path front c e dot = ap before_last_dot e ∙ last_first front c ∙ ap (λ (b : Bool). if b then Some front else before_last_dot front) dot

pub no_dot_last : (path front : List ℕ) (c : ℕ) → path ≡ front ++ c ∷ [] → is_dot c ≡ false → before_last_dot path ≡ before_last_dot front
no_dot_last path front c e dot = ap before_last_dot e ∙ last_first front c ∙ ap (λ (b : Bool). if b then Some front else before_last_dot front) dot

before_dot_text : (c : ℕ) (o : Option (List ℕ)) (front : List ℕ) → is_text_byte c ≡ true → ((f : List ℕ) → o ≡ Some f → IsText f) → before_dot c o ≡ Some front → IsText front
before_dot_text c None front h rest e = by (is_dot c) e
  where
    by : (b : Bool) → (if b then Some [] else None) ≡ Some front → IsText front
    by true e = subst IsText (ap (from_some []) e) tt
    by false e = absurd (true≢false (ap is_some (sym e)))
before_dot_text c (Some f) front h rest e = subst IsText (ap (from_some []) e) (h, rest f refl)

cut_text : (path front : List ℕ) → IsText path → before_last_dot path ≡ Some front → IsText front
cut_text [] front h e = absurd (true≢false (ap is_some (sym e)))
cut_text (c ∷ path) front h e = before_dot_text c (before_last_dot path) front h.0 (λ f. cut_text path f h.1) e

-- the path that a text stands in is a text
pub parent_text : (path parent : List ℕ) → IsText path → Some parent ≡ parent_of path → IsText parent
parent_text path parent h e = by (same_text path root_path) e
  where
    whole : (front : List ℕ) → IsText front → IsText (or_root front)
    whole [] h = (refl, tt)
    whole (c ∷ front) h = h

    at : (o : Option (List ℕ)) → before_last_dot path ≡ o → Some parent ≡ option_map or_root o → IsText parent
    at None cut e = absurd (true≢false (ap is_some e))
    at (Some front) cut e = subst IsText (sym (ap (from_some []) e)) (whole front (cut_text path front h cut))

    by : (b : Bool) → Some parent ≡ (if b then None else option_map or_root (before_last_dot path)) → IsText parent
    by true e = absurd (true≢false (ap is_some e))
    by false e = at (before_last_dot path) refl e
