-- Tags are as long as the text.
use Rattle.std.proofs.Common.{◌≡◌, ℕ, ◌+◌, ◌-◌, ◌≤◌, min, max, Bool, true, false, not, if◌then◌else◌, List, [], ◌∷◌, ◌++◌, length, take, drop, map, ◌∙◌, arith}
use Rattle.std.specs.Prelude.{replicate}
use Rattle.std.specs.List.{list_any}
use Rattle.std.proofs.lemmas.List.{length-append, length-take-le, length-take, length-drop, length-replicate}
use Rattle.tks_lines.specs.declared.parts.Tag.{Tag}
use Rattle.tks_lines.specs.Lines.{AreLong, is_tag, is_around, is_among, new_tag, with_tag, with_tags, without_tags, tagged, painted, grown, shrunk, spliced, cut}

all_long : (len long : ℕ) (f : Tag → Tag) → ((g : Tag) → length g.on ≡ len → length (f g).on ≡ long) → (tags : List Tag) → AreLong len tags → AreLong long (map f tags)
all_long len long f h [] a = a
all_long len long f h (g ∷ tags) a = (h g a.0, all_long len long f h tags a.1)

spliced_long : {X : Type 0} (place : ℕ) (more xs : List X) → place ≤ length xs → length (spliced place more xs) ≡ length xs + length more
spliced_long place more xs here = omega (arith, length-append (take place xs) (more ++ drop place xs), length-append more (drop place xs), length-take-le place xs here, length-drop place xs)

cut_long : {X : Type 0} (first last : ℕ) (xs : List X) → length (cut first last xs) ≡ min first (length xs) + (length xs - max first last)
cut_long first last xs = omega (arith, length-append (take first xs) (drop (max first last) xs), length-take first xs, length-drop (max first last) xs)

painted_long : (value : Bool) (first last : ℕ) (on : List Bool) → length (painted value first last on) ≡ length on
painted_long value first last on =
    let middle : List Bool = replicate (min last (length on) - first) value in
    omega (arith, length-append (take first on) (middle ++ drop (max first last) on), length-append middle (drop (max first last) on), length-replicate (min last (length on) - first) value, length-take first on, length-drop (max first last) on)

grown_long : (place : ℕ) (more text : List ℕ) (value : Bool) (g : Tag) → place ≤ length text → length g.on ≡ length text → length (grown place (length more) value g).on ≡ length (spliced place more text)
grown_long place more text value g here e =
    omega (arith, spliced_long place (replicate (length more) value) g.on (omega arith), length-replicate (length more) value, spliced_long place more text here)

pub around_long : (place : ℕ) (more text : List ℕ) (tags : List Tag) → place ≤ length text → AreLong (length text) tags
    → AreLong (length (spliced place more text)) (map (λ g. grown place (length more) (is_around place g) g) tags)
around_long place more text tags here a =
    all_long (length text) (length (spliced place more text)) (λ g. grown place (length more) (is_around place g) g) (λ g e. grown_long place more text (is_around place g) g here e) tags a

pub among_long : (place : ℕ) (more text : List ℕ) (names : List (List ℕ)) (tags : List Tag) → place ≤ length text → AreLong (length text) tags
    → AreLong (length (spliced place more text)) (map (λ g. grown place (length more) (is_among names g) g) tags)
among_long place more text names tags here a =
    all_long (length text) (length (spliced place more text)) (λ g. grown place (length more) (is_among names g) g) (λ g e. grown_long place more text (is_among names g) g here e) tags a

pub shrunk_long : (first last : ℕ) (text : List ℕ) (tags : List Tag) → AreLong (length text) tags → AreLong (length (cut first last text)) (map (shrunk first last) tags)
shrunk_long first last text tags a =
    all_long (length text) (length (cut first last text)) (shrunk first last) (λ g e. omega (arith, cut_long first last g.on, cut_long first last text)) tags a

one_tagged : (len : ℕ) (value : Bool) (name : List ℕ) (first last : ℕ) (g : Tag) → length g.on ≡ len → length (tagged value name first last g).on ≡ len
one_tagged len value name first last g e = by (is_tag name g)
  where
    by : (b : Bool) → length (if b then record g { on = painted value first last g.on } else g).on ≡ len
    by true = painted_long value first last g.on ∙ e
    by false = e

pub tagged_long : (len : ℕ) (value : Bool) (name : List ℕ) (first last : ℕ) (tags : List Tag) → AreLong len tags → AreLong len (map (tagged value name first last) tags)
tagged_long len value name first last tags a = all_long len len (tagged value name first last) (one_tagged len value name first last) tags a

more_long : (len : ℕ) (n : Tag) (tags : List Tag) → length n.on ≡ len → AreLong len tags → AreLong len (tags ++ n ∷ [])
more_long len n [] e a = (e, a)
more_long len n (g ∷ tags) e a = (a.0, more_long len n tags e a.1)

pub with_tag_long : (name : List ℕ) (len : ℕ) (tags : List Tag) → AreLong len tags → AreLong len (with_tag name len tags)
with_tag_long name len tags a = by (list_any (is_tag name) tags)
  where
    by : (b : Bool) → AreLong len (if b then tags else tags ++ new_tag name len ∷ [])
    by true = a
    by false = more_long len (new_tag name len) tags (length-replicate len false) a

pub with_tags_long : (names : List (List ℕ)) (len : ℕ) (tags : List Tag) → AreLong len tags → AreLong len (with_tags names len tags)
with_tags_long [] len tags a = a
with_tags_long (name ∷ names) len tags a = with_tags_long names len (with_tag name len tags) (with_tag_long name len tags a)

if_long : (len : ℕ) (b : Bool) (g : Tag) (tags : List Tag) → length g.on ≡ len → AreLong len tags → AreLong len (if b then g ∷ tags else tags)
if_long len true g tags e a = (e, a)
if_long len false g tags e a = a

pub without_tags_long : (len : ℕ) (names : List (List ℕ)) (tags : List Tag) → AreLong len tags → AreLong len (without_tags names tags)
without_tags_long len names [] a = a
without_tags_long len names (g ∷ tags) a = if_long len (not (is_among names g)) g (without_tags names tags) a.0 (without_tags_long len names tags a.1)
