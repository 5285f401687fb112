-- A text widget: its options, the characters of its text, its tags and its marks (text(n), "TAGS", "MARKS"). That marks
-- stand before the last newline at the furthest, that it carries no tag, and that a deletion stops before it, are this
-- project's own rules.
use Rattle.std.specs.Prelude.{◌≡◌, ◌≤◌, ℕ, ◌+◌, ◌-◌, ◌==◌, ◌&&◌, ◌||◌, nat_le, nat_lt, min, max, not, Bool, true, false, if◌then◌else◌, List, [], ◌∷◌, ◌++◌, length, take, drop, map, replicate, codes, Option, Some, None, option_and_then, slice_get}
use Rattle.std.specs.List.{filter, list_any, AllByRecursion}
use Rattle.tks_text.specs.Text.{same_text}
use Rattle.tks_text.specs.declared.class.Class.TheVariants as class
use Rattle.tks_opt.specs.Options.{Options, first_options, value_in}
use Rattle.tks_opt.specs.Values.{state_named, is_normal}
use Rattle.tks_opt.specs.declared.name.OptionName.TheVariants as name
use Rattle.tks_lines.specs.declared.parts.Tag.{Tag}
use Rattle.tks_lines.specs.declared.parts.Mark.{Mark}

-- the characters but the last newline; the tags in the order in which they were made, each with whether it is on each of
-- the characters; and the marks, `insert` first, the others in the order in which they were made
pub record Lines : Type 0 where
  pub options : Options
  pub text : List ℕ
  pub tags : List Tag
  pub marks : List Mark

abbrev pub is_listed : List ℕ → List (List ℕ) → Bool
is_listed name names = list_any (same_text name) names

-- the mark at which keys insert
abbrev pub cursor_name : List ℕ
cursor_name = codes "insert"

-- no mark is behind the last newline
abbrev pub AreInside : ℕ → List Mark → Type 0
AreInside len marks = AllByRecursion (λ m. m.place ≤ len) marks

-- each tag is on so many characters or isn't
abbrev pub AreLong : ℕ → List Tag → Type 0
AreLong len tags = AllByRecursion (λ g. length g.on ≡ len) tags

-- no two names are the same
abbrev pub Differ : List (List ℕ) → Type 0
Differ [] = Unit {0}
Differ (name ∷ names) = (is_listed name names ≡ false) × Differ names

-- the first is the mark at which keys insert
abbrev pub BeginsWithCursor : List Mark → Type 0
BeginsWithCursor [] = ⊥
BeginsWithCursor (m ∷ marks) = same_text m.name cursor_name ≡ true

pub record Formed (t : Lines) : Type 0 where
  pub class : t.options.class ≡ class.Text
  pub inside : AreInside (length t.text) t.marks
  pub long : AreLong (length t.text) t.tags
  pub tags_differ : Differ (map (λ g. g.name) t.tags)
  pub marks_differ : Differ (map (λ m. m.name) t.marks)
  pub cursor_first : BeginsWithCursor t.marks

abbrev pub first_mark : Mark
first_mark = record { name = cursor_name; place = 0; left = false }

abbrev pub first_lines : List ℕ → Lines
first_lines path = record { options = first_options class.Text path; text = []; tags = []; marks = first_mark ∷ [] }

-- ---- lists

-- with more at a place
abbrev pub spliced : {X : Type 0} → ℕ → List X → List X → List X
spliced place more xs = take place xs ++ (more ++ drop place xs)

-- without what stands from one place up to another
abbrev pub cut : {X : Type 0} → ℕ → ℕ → List X → List X
cut first last xs = take first xs ++ drop (max first last) xs

-- with a value in each place from one up to another
abbrev pub painted : Bool → ℕ → ℕ → List Bool → List Bool
painted value first last on = take first on ++ (replicate (min last (length on) - first) value ++ drop (max first last) on)

-- ---- tags

abbrev pub is_tag : List ℕ → Tag → Bool
is_tag name g = same_text g.name name

abbrev pub is_true : Option Bool → Bool
is_true None = false
is_true (Some b) = b

-- whether the character behind a place has a tag
abbrev pub is_on : Tag → ℕ → Bool
is_on g place = is_true (slice_get g.on place)

-- whether the characters on both sides of a place have it
abbrev pub is_around : ℕ → Tag → Bool
is_around place g = not (place == 0) && (is_on g (place - 1) && is_on g place)

abbrev pub is_among : List (List ℕ) → Tag → Bool
is_among names g = is_listed g.name names

-- a tag that is on no character
abbrev pub new_tag : List ℕ → ℕ → Tag
new_tag name len = record { name = name; on = replicate len false }

-- the tags, with one of the name
abbrev pub with_tag : List ℕ → ℕ → List Tag → List Tag
with_tag name len tags = if list_any (is_tag name) tags then tags else tags ++ new_tag name len ∷ []

-- with one of each of the names, in turn
abbrev pub with_tags : List (List ℕ) → ℕ → List Tag → List Tag
with_tags [] len tags = tags
with_tags (name ∷ names) len tags = with_tags names len (with_tag name len tags)

-- without those of the names
abbrev pub without_tags : List (List ℕ) → List Tag → List Tag
without_tags names tags = filter (λ g. not (is_among names g)) tags

-- put on the characters between two places, or taken from them
abbrev pub tagged : Bool → List ℕ → ℕ → ℕ → Tag → Tag
tagged value name first last g = if is_tag name g then record g { on = painted value first last g.on } else g

-- where so many characters come in, which have the tag or don't
abbrev pub grown : ℕ → ℕ → Bool → Tag → Tag
grown place count value g = record g { on = spliced place (replicate count value) g.on }

abbrev pub shrunk : ℕ → ℕ → Tag → Tag
shrunk first last g = record g { on = cut first last g.on }

-- ---- marks

abbrev pub is_mark : List ℕ → Mark → Bool
is_mark name m = same_text m.name name

abbrev pub mark_named : List ℕ → List Mark → Option Mark
mark_named name [] = None
mark_named name (m ∷ marks) = if is_mark name m then Some m else mark_named name marks

-- where so many characters come in: a mark behind the place goes on, one at the place where it has right gravity
abbrev pub goes_on : ℕ → Mark → Bool
goes_on place m = nat_lt place m.place || ((place == m.place) && not m.left)

abbrev pub moved_on : ℕ → ℕ → Mark → Mark
moved_on place count m = if goes_on place m then record m { place = m.place + count } else m

-- where the characters between two places go out
abbrev pub moved_back : ℕ → ℕ → Mark → Mark
moved_back first last m = if nat_le m.place first then m else record m { place = m.place - (min m.place last - first) }

abbrev pub put_at : List ℕ → ℕ → Mark → Mark
put_at name place m = if is_mark name m then record m { place = place } else m

-- a mark at a place; a new one comes last, and has right gravity
abbrev pub with_mark : List ℕ → ℕ → List Mark → List Mark
with_mark name place marks =
    if list_any (is_mark name) marks then map (put_at name place) marks else marks ++ (record { name = name; place = place; left = false }) ∷ []

-- without those of the names; `insert` stays
abbrev pub without_marks : List (List ℕ) → List Mark → List Mark
without_marks names marks = filter (λ m. is_mark cursor_name m || not (is_listed m.name names)) marks

abbrev pub turned : List ℕ → Bool → Mark → Mark
turned name left m = if is_mark name m then record m { left = left } else m

abbrev pub turned_marks : List ℕ → Bool → List Mark → List Mark
turned_marks name left marks = map (turned name left) marks

-- ---- changes of the text

-- whether scripts may change the text
abbrev pub is_editable : Lines → Bool
is_editable t = is_normal (option_and_then state_named (value_in t.options.values name.State))

-- the last newline's place, for one behind it
abbrev pub at_most_last : Lines → ℕ → ℕ
at_most_last t place = min place (length t.text)

-- characters come in at a place, with the tags for which a test holds
abbrev pub put_in : ℕ → List ℕ → (Tag → Bool) → Lines → Lines
put_in place more test t =
    record t { text = spliced place more t.text; tags = map (λ g. grown place (length more) (test g) g) t.tags; marks = map (moved_on place (length more)) t.marks }

-- `insert` without tags: those on both neighbours; at the end, before the last newline
abbrev pub inserted : ℕ → List ℕ → Lines → Lines
inserted place more t = let at = at_most_last t place in if is_editable t then put_in at more (is_around at) t else t

-- `insert` with tags
abbrev pub inserted_with : ℕ → List ℕ → List (List ℕ) → Lines → Lines
inserted_with place more names t =
    let at = at_most_last t place in
    if is_editable t then put_in at more (is_among names) (record t { tags = with_tags names (length t.text) t.tags }) else t

-- `delete`: from one place up to another; the last newline stays
abbrev pub deleted : ℕ → ℕ → Lines → Lines
deleted first last t =
    if is_editable t then record t { text = cut first last t.text; tags = map (shrunk first last) t.tags; marks = map (moved_back first last) t.marks } else t
