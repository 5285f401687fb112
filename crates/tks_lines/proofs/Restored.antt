-- Text widgets that are made again.
use Rattle.std.proofs.Common.{◌≡◌, ◌≤◌, ℕ, ◌==◌, ◌&&◌, nat_le, not, Bool, true, false, if◌then◌else◌, List, [], ◌∷◌, length, Option, Some, None, refl, sym, ap, subst, true≢false, arith}
use Rattle.std.specs.Prelude.{map}
use Rattle.std.specs.List.{list_all}
use Rattle.std.proofs.lemmas.Bool.Decides.{nat_tests}
use Rattle.tks_text.specs.declared.class.Class.{Class}
use Rattle.tks_text.specs.declared.class.Class.TheVariants as class
use Rattle.tks_opt.specs.Options.{Options}
use Rattle.tks_lines.specs.Lines.{Lines, Formed, AreInside, AreLong, Differ, BeginsWithCursor, is_listed}
use Rattle.tks_lines.specs.Restoring.{is_text, differ, begins_with_cursor, are_tags, are_marks, restored}
use Rattle.tks_lines.specs.declared.parts.Tag.{Tag}
use Rattle.tks_lines.specs.declared.parts.Mark.{Mark}

-- ---- tests of both

both : (a b : Bool) → a ≡ true → b ≡ true → (a && b) ≡ true
both true b h k = k
both false b h k = h

each : (a b : Bool) → (a && b) ≡ true → (a ≡ true) × (b ≡ true)
each true b h = (refl, h)
each false b h = absurd (true≢false (sym h))

negated : (b : Bool) → b ≡ false → not b ≡ true
negated true h = absurd (true≢false h)
negated false h = refl

denied : (b : Bool) → not b ≡ true → b ≡ false
denied true h = absurd (true≢false (sym h))
denied false h = refl

-- ---- the tests decide

differ_told : (names : List (List ℕ)) → Differ names → differ names ≡ true
differ_told [] d = refl
differ_told (name ∷ names) d = both (not (is_listed name names)) (differ names) (negated (is_listed name names) d.0) (differ_told names d.1)

pub they_differ : (names : List (List ℕ)) → differ names ≡ true → Differ names
they_differ [] d = tt
they_differ (name ∷ names) d = let e = each (not (is_listed name names)) (differ names) d in (denied (is_listed name names) e.0, they_differ names e.1)

long_told : (len : ℕ) (tags : List Tag) → AreLong len tags → list_all (λ g. length g.on == len) tags ≡ true
long_told len [] h = refl
long_told len (g ∷ tags) h = both (length g.on == len) (list_all (λ g. length g.on == len) tags) (grind (arith, nat_tests)) (long_told len tags h.1)

they_are_long : (len : ℕ) (tags : List Tag) → list_all (λ g. length g.on == len) tags ≡ true → AreLong len tags
they_are_long len [] h = tt
they_are_long len (g ∷ tags) h = let e = each (length g.on == len) (list_all (λ g. length g.on == len) tags) h in (same (length g.on) e.0, they_are_long len tags e.1)
  where
    same : (n : ℕ) → (n == len) ≡ true → n ≡ len
    same n h = grind (arith, nat_tests)

inside_told : (len : ℕ) (marks : List Mark) → AreInside len marks → list_all (λ m. nat_le m.place len) marks ≡ true
inside_told len [] h = refl
inside_told len (m ∷ marks) h = both (nat_le m.place len) (list_all (λ m. nat_le m.place len) marks) (grind (arith, nat_tests)) (inside_told len marks h.1)

they_are_inside : (len : ℕ) (marks : List Mark) → list_all (λ m. nat_le m.place len) marks ≡ true → AreInside len marks
they_are_inside len [] h = tt
they_are_inside len (m ∷ marks) h = let e = each (nat_le m.place len) (list_all (λ m. nat_le m.place len) marks) h in (within m.place e.0, they_are_inside len marks e.1)
  where
    within : (n : ℕ) → nat_le n len ≡ true → n ≤ len
    within n h = grind (arith, nat_tests)

first_told : (marks : List Mark) → BeginsWithCursor marks → begins_with_cursor marks ≡ true
first_told [] h = absurd h
first_told (m ∷ marks) h = h

first_is : (marks : List Mark) → begins_with_cursor marks ≡ true → BeginsWithCursor marks
first_is [] h = absurd (true≢false (sym h))
first_is (m ∷ marks) h = h

text_told : (c : Class) → c ≡ class.Text → is_text c ≡ true
text_told c h = ap is_text h

it_is_text : (c : Class) → is_text c ≡ true → c ≡ class.Text
it_is_text class.Root h = absurd (true≢false (sym h))
it_is_text class.Frame h = absurd (true≢false (sym h))
it_is_text class.Label h = absurd (true≢false (sym h))
it_is_text class.Button h = absurd (true≢false (sym h))
it_is_text class.Checkbutton h = absurd (true≢false (sym h))
it_is_text class.Entry h = absurd (true≢false (sym h))
it_is_text class.Listbox h = absurd (true≢false (sym h))
it_is_text class.Text h = refl

pub tags_told : (len : ℕ) (tags : List Tag) → AreLong len tags → Differ (map (λ g. g.name) tags) → are_tags len tags ≡ true
tags_told len tags h d = both (list_all (λ g. length g.on == len) tags) (differ (map (λ g. g.name) tags)) (long_told len tags h) (differ_told (map (λ g. g.name) tags) d)

pub marks_told : (len : ℕ) (marks : List Mark) → AreInside len marks → Differ (map (λ m. m.name) marks) → BeginsWithCursor marks → are_marks len marks ≡ true
marks_told len marks h d f =
    both (list_all (λ m. nat_le m.place len) marks) (differ (map (λ m. m.name) marks) && begins_with_cursor marks) (inside_told len marks h)
    (both (differ (map (λ m. m.name) marks)) (begins_with_cursor marks) (differ_told (map (λ m. m.name) marks) d) (first_told marks f))

abbrev test : Options → List ℕ → List Tag → List Mark → Bool
test options text tags marks = is_text options.class && (are_tags (length text) tags && are_marks (length text) marks)

is_told : (t : Lines) → Formed t → test t.options t.text t.tags t.marks ≡ true
is_told t h =
    both (is_text t.options.class) (are_tags (length t.text) t.tags && are_marks (length t.text) t.marks) (text_told t.options.class h.class)
    (both (are_tags (length t.text) t.tags) (are_marks (length t.text) t.marks) (tags_told (length t.text) t.tags h.long h.tags_differ) (marks_told (length t.text) t.marks h.inside h.marks_differ h.cursor_first))

is_formed : (t : Lines) → test t.options t.text t.tags t.marks ≡ true → Formed t
is_formed t h =
    let a = each (is_text t.options.class) (are_tags (length t.text) t.tags && are_marks (length t.text) t.marks) h in
    let b = each (are_tags (length t.text) t.tags) (are_marks (length t.text) t.marks) a.1 in
    let tags = each (list_all (λ g. length g.on == length t.text) t.tags) (differ (map (λ g. g.name) t.tags)) b.0 in
    let marks = each (list_all (λ m. nat_le m.place (length t.text)) t.marks) (differ (map (λ m. m.name) t.marks) && begins_with_cursor t.marks) b.1 in
    let names = each (differ (map (λ m. m.name) t.marks)) (begins_with_cursor t.marks) marks.1 in
    record {
      class = it_is_text t.options.class a.0;
      inside = they_are_inside (length t.text) t.marks marks.0;
      long = they_are_long (length t.text) t.tags tags.0;
      tags_differ = they_differ (map (λ g. g.name) t.tags) tags.1;
      marks_differ = they_differ (map (λ m. m.name) t.marks) names.0;
      cursor_first = first_is t.marks names.1;
    }

-- the class, the tags and the marks are those of a text widget
pub parts_formed : (t : Lines) → t.options.class ≡ class.Text → are_tags (length t.text) t.tags ≡ true → are_marks (length t.text) t.marks ≡ true → Formed t
parts_formed t c tags marks =
    is_formed t (both (is_text t.options.class) (are_tags (length t.text) t.tags && are_marks (length t.text) t.marks) (text_told t.options.class c)
    (both (are_tags (length t.text) t.tags) (are_marks (length t.text) t.marks) tags marks))

-- ---- the laws

pub kept_restored : (t : Lines) → Formed t → restored t.options t.text t.tags t.marks ≡ Some t
kept_restored t h = ap (λ (b : Bool). if b then Some t else None) (is_told t h)

-- what is told of a text widget that was made again
abbrev Told : Options → List ℕ → List Tag → List Mark → Option Lines → Type 0
Told options text tags marks None = Unit {0}
Told options text tags marks (Some t) = (t ≡ record { options = options; text = text; tags = tags; marks = marks }) × Formed t

told : (options : Options) (text : List ℕ) (tags : List Tag) (marks : List Mark) → Told options text tags marks (restored options text tags marks)
told options text tags marks = by (test options text tags marks) refl
  where
    by : (b : Bool) → test options text tags marks ≡ b → Told options text tags marks (if b then Some (record { options = options; text = text; tags = tags; marks = marks }) else None)
    by true h = (refl, is_formed (record { options = options; text = text; tags = tags; marks = marks }) h)
    by false h = tt

pub restored_has : (options : Options) (text : List ℕ) (tags : List Tag) (marks : List Mark) (t : Lines) → restored options text tags marks ≡ Some t → (t ≡ record { options = options; text = text; tags = tags; marks = marks }) × Formed t
restored_has options text tags marks t h = subst (Told options text tags marks) h (told options text tags marks)
