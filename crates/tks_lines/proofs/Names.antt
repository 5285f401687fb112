-- Names that differ.
use Rattle.std.proofs.Common.{◌≡◌, ℕ, ◌+◌, ◌-◌, min, nat_le, Bool, true, false, ◌||◌, not, if◌then◌else◌, List, [], ◌∷◌, ◌++◌, map, refl, sym, ap, ◌∙◌, subst}
use Rattle.std.specs.List.{filter, list_any}
use Rattle.tks_text.specs.Text.{same_text}
use Rattle.tks_lines.specs.declared.parts.Tag.{Tag}
use Rattle.tks_lines.specs.declared.parts.Mark.{Mark}
use Rattle.tks_lines.specs.Lines.{Differ, BeginsWithCursor, is_listed, cursor_name, is_tag, is_mark, is_around, is_among, new_tag, with_tag, with_tags, without_tags, tagged, painted, grown, shrunk, goes_on, moved_on, moved_back, put_at, with_mark, without_marks, turned, turned_marks}

either_false : (a b : Bool) → (a || b) ≡ false → (a ≡ false) × (b ≡ false)
either_false true b e = absurd cc
either_false false b e = (refl, e)

both_false : (a b : Bool) → a ≡ false → b ≡ false → (a || b) ≡ false
both_false true b h k = h
both_false false b h k = k

module _ {X : Type 0} (name : X → List ℕ) where
  -- changes that keep the names
  pub same_names : (f : X → X) → ((x : X) → name (f x) ≡ name x) → (xs : List X) → map name (map f xs) ≡ map name xs
  same_names f h [] = refl
  same_names f h (x ∷ xs) = ap (λ n. n ∷ map name (map f xs)) (h x) ∙ ap (λ ns. name x ∷ ns) (same_names f h xs)

  pub changed_differ : (f : X → X) → ((x : X) → name (f x) ≡ name x) → (xs : List X) → Differ (map name xs) → Differ (map name (map f xs))
  changed_differ f h xs d = subst Differ (sym (same_names f h xs)) d

  -- some of them
  fewer_listed : (n : List ℕ) (p : X → Bool) (xs : List X) → is_listed n (map name xs) ≡ false → is_listed n (map name (filter p xs)) ≡ false
  fewer_listed n p [] e = e
  fewer_listed n p (x ∷ xs) e = let both = either_false (same_text n (name x)) (is_listed n (map name xs)) e in by (p x) both.0 (fewer_listed n p xs both.1)
    where
      by : (b : Bool) → same_text n (name x) ≡ false → is_listed n (map name (filter p xs)) ≡ false → is_listed n (map name (if b then x ∷ filter p xs else filter p xs)) ≡ false
      by true h k = both_false (same_text n (name x)) (is_listed n (map name (filter p xs))) h k
      by false h k = k

  pub fewer_differ : (p : X → Bool) (xs : List X) → Differ (map name xs) → Differ (map name (filter p xs))
  fewer_differ p [] d = d
  fewer_differ p (x ∷ xs) d = by (p x) (fewer_listed (name x) p xs d.0) (fewer_differ p xs d.1)
    where
      by : (b : Bool) → is_listed (name x) (map name (filter p xs)) ≡ false → Differ (map name (filter p xs)) → Differ (map name (if b then x ∷ filter p xs else filter p xs))
      by true h k = (h, k)
      by false h k = k

  -- and one more
  more_listed : (n : List ℕ) (y : X) (xs : List X) → same_text n (name y) ≡ false → is_listed n (map name xs) ≡ false → is_listed n (map name (xs ++ y ∷ [])) ≡ false
  more_listed n y [] h e = both_false (same_text n (name y)) false h refl
  more_listed n y (x ∷ xs) h e =
      let both = either_false (same_text n (name x)) (is_listed n (map name xs)) e in
      both_false (same_text n (name x)) (is_listed n (map name (xs ++ y ∷ []))) both.0 (more_listed n y xs h both.1)

  pub more_differ : (y : X) (xs : List X) → list_any (λ x. same_text (name x) (name y)) xs ≡ false → Differ (map name xs) → Differ (map name (xs ++ y ∷ []))
  more_differ y [] e d = (refl, tt)
  more_differ y (x ∷ xs) e d =
      let both = either_false (same_text (name x) (name y)) (list_any (λ x. same_text (name x) (name y)) xs) e in
      (more_listed (name x) y xs both.0 d.0, more_differ y xs both.1 d.1)

-- ---- tags

pub around_differ : (place count : ℕ) (tags : List Tag) → Differ (map (λ g. g.name) tags) → Differ (map (λ g. g.name) (map (λ g. grown place count (is_around place g) g) tags))
around_differ place count tags d = changed_differ (λ g. g.name) (λ g. grown place count (is_around place g) g) (λ g. refl) tags d

pub among_differ : (place count : ℕ) (names : List (List ℕ)) (tags : List Tag) → Differ (map (λ g. g.name) tags) → Differ (map (λ g. g.name) (map (λ g. grown place count (is_among names g) g) tags))
among_differ place count names tags d = changed_differ (λ g. g.name) (λ g. grown place count (is_among names g) g) (λ g. refl) tags d

pub shrunk_differ : (first last : ℕ) (tags : List Tag) → Differ (map (λ g. g.name) tags) → Differ (map (λ g. g.name) (map (shrunk first last) tags))
shrunk_differ first last tags d = changed_differ (λ g. g.name) (shrunk first last) (λ g. refl) tags d

tagged_name : (value : Bool) (name : List ℕ) (first last : ℕ) (g : Tag) → (tagged value name first last g).name ≡ g.name
tagged_name value name first last g = by (is_tag name g)
  where
    by : (b : Bool) → (if b then record g { on = painted value first last g.on } else g).name ≡ g.name
    by true = refl
    by false = refl

pub tagged_differ : (value : Bool) (name : List ℕ) (first last : ℕ) (tags : List Tag) → Differ (map (λ g. g.name) tags) → Differ (map (λ g. g.name) (map (tagged value name first last) tags))
tagged_differ value name first last tags d = changed_differ (λ g. g.name) (tagged value name first last) (tagged_name value name first last) tags d

pub with_tag_differ : (name : List ℕ) (len : ℕ) (tags : List Tag) → Differ (map (λ g. g.name) tags) → Differ (map (λ g. g.name) (with_tag name len tags))
with_tag_differ name len tags d = by (list_any (is_tag name) tags) refl
  where
    by : (b : Bool) → list_any (is_tag name) tags ≡ b → Differ (map (λ g. g.name) (if b then tags else tags ++ new_tag name len ∷ []))
    by true e = d
    by false e = more_differ (λ g. g.name) (new_tag name len) tags e d

pub with_tags_differ : (names : List (List ℕ)) (len : ℕ) (tags : List Tag) → Differ (map (λ g. g.name) tags) → Differ (map (λ g. g.name) (with_tags names len tags))
with_tags_differ [] len tags d = d
with_tags_differ (name ∷ names) len tags d = with_tags_differ names len (with_tag name len tags) (with_tag_differ name len tags d)

pub without_tags_differ : (names : List (List ℕ)) (tags : List Tag) → Differ (map (λ g. g.name) tags) → Differ (map (λ g. g.name) (without_tags names tags))
without_tags_differ names tags d = fewer_differ (λ g. g.name) (λ g. not (is_among names g)) tags d

-- ---- marks

on_name : (place count : ℕ) (m : Mark) → (moved_on place count m).name ≡ m.name
on_name place count m = by (goes_on place m)
  where
    by : (b : Bool) → (if b then record m { place = m.place + count } else m).name ≡ m.name
    by true = refl
    by false = refl

back_name : (first last : ℕ) (m : Mark) → (moved_back first last m).name ≡ m.name
back_name first last m = by (nat_le m.place first)
  where
    by : (b : Bool) → (if b then m else record m { place = m.place - (min m.place last - first) }).name ≡ m.name
    by true = refl
    by false = refl

put_name : (name : List ℕ) (place : ℕ) (m : Mark) → (put_at name place m).name ≡ m.name
put_name name place m = by (is_mark name m)
  where
    by : (b : Bool) → (if b then record m { place = place } else m).name ≡ m.name
    by true = refl
    by false = refl

turned_name : (name : List ℕ) (left : Bool) (m : Mark) → (turned name left m).name ≡ m.name
turned_name name left m = by (is_mark name m)
  where
    by : (b : Bool) → (if b then record m { left = left } else m).name ≡ m.name
    by true = refl
    by false = refl

pub on_differ : (place count : ℕ) (marks : List Mark) → Differ (map (λ m. m.name) marks) → Differ (map (λ m. m.name) (map (moved_on place count) marks))
on_differ place count marks d = changed_differ (λ m. m.name) (moved_on place count) (on_name place count) marks d

pub back_differ : (first last : ℕ) (marks : List Mark) → Differ (map (λ m. m.name) marks) → Differ (map (λ m. m.name) (map (moved_back first last) marks))
back_differ first last marks d = changed_differ (λ m. m.name) (moved_back first last) (back_name first last) marks d

pub turned_differ : (name : List ℕ) (left : Bool) (marks : List Mark) → Differ (map (λ m. m.name) marks) → Differ (map (λ m. m.name) (turned_marks name left marks))
turned_differ name left marks d = changed_differ (λ m. m.name) (turned name left) (turned_name name left) marks d

pub set_differ : (name : List ℕ) (place : ℕ) (marks : List Mark) → Differ (map (λ m. m.name) marks) → Differ (map (λ m. m.name) (with_mark name place marks))
set_differ name place marks d = by (list_any (is_mark name) marks) refl
  where
    by : (b : Bool) → list_any (is_mark name) marks ≡ b → Differ (map (λ m. m.name) (if b then map (put_at name place) marks else marks ++ (record { name = name; place = place; left = false }) ∷ []))
    by true e = changed_differ (λ m. m.name) (put_at name place) (put_name name place) marks d
    by false e = more_differ (λ m. m.name) (record { name = name; place = place; left = false }) marks e d

pub unset_differ : (names : List (List ℕ)) (marks : List Mark) → Differ (map (λ m. m.name) marks) → Differ (map (λ m. m.name) (without_marks names marks))
unset_differ names marks d = fewer_differ (λ m. m.name) (λ m. is_mark cursor_name m || not (is_listed m.name names)) marks d

-- ---- the first mark

first_kept : (f : Mark → Mark) → ((m : Mark) → (f m).name ≡ m.name) → (marks : List Mark) → BeginsWithCursor marks → BeginsWithCursor (map f marks)
first_kept f h [] b = b
first_kept f h (m ∷ marks) b = ap (λ n. same_text n cursor_name) (h m) ∙ b

pub on_first : (place count : ℕ) (marks : List Mark) → BeginsWithCursor marks → BeginsWithCursor (map (moved_on place count) marks)
on_first place count marks b = first_kept (moved_on place count) (on_name place count) marks b

pub back_first : (first last : ℕ) (marks : List Mark) → BeginsWithCursor marks → BeginsWithCursor (map (moved_back first last) marks)
back_first first last marks b = first_kept (moved_back first last) (back_name first last) marks b

pub turned_first : (name : List ℕ) (left : Bool) (marks : List Mark) → BeginsWithCursor marks → BeginsWithCursor (turned_marks name left marks)
turned_first name left marks b = first_kept (turned name left) (turned_name name left) marks b

one_more_first : (n : Mark) (marks : List Mark) → BeginsWithCursor marks → BeginsWithCursor (marks ++ n ∷ [])
one_more_first n [] b = absurd b
one_more_first n (m ∷ marks) b = b

pub set_first : (name : List ℕ) (place : ℕ) (marks : List Mark) → BeginsWithCursor marks → BeginsWithCursor (with_mark name place marks)
set_first name place marks b = by (list_any (is_mark name) marks)
  where
    by : (c : Bool) → BeginsWithCursor (if c then map (put_at name place) marks else marks ++ (record { name = name; place = place; left = false }) ∷ [])
    by true = first_kept (put_at name place) (put_name name place) marks b
    by false = one_more_first (record { name = name; place = place; left = false }) marks b

pub unset_first : (names : List (List ℕ)) (marks : List Mark) → BeginsWithCursor marks → BeginsWithCursor (without_marks names marks)
unset_first names [] b = b
unset_first names (m ∷ marks) b = subst (λ c. BeginsWithCursor (if c || not (is_listed m.name names) then m ∷ without_marks names marks else without_marks names marks)) (sym b) b
