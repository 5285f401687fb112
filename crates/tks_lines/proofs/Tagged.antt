-- The tag of a name, changed where it stands.
use Rattle.std.proofs.Common.{◌≡◌, ℕ, zero, suc, ◌+◌, ◌<◌, ◌≤◌, Bool, true, false, ◌||◌, not, cond, if◌then◌else◌, get_or, List, [], ◌∷◌, ◌++◌, length, take, drop, map, replicate, min, max, ◌-◌, refl, sym, ap, ◌∙◌, arith}
use Rattle.std.specs.Prelude.{slice_set}
use Rattle.std.specs.List.{AllByRecursion, list_any, prefix_len}
use Rattle.std.proofs.lemmas.Bool.{false_from_ne_true}
use Rattle.std.proofs.lemmas.List.{map-append, take-append-le, length-append}
use Rattle.tks_text.specs.Text.{same_text}
use Rattle.tks_lines.specs.declared.parts.Tag.{Tag}
use Rattle.tks_lines.specs.Lines.{Differ, is_listed, is_tag, new_tag, with_tag, with_tags, tagged, painted}
use Rattle.tks_lines.proofs.IndexRead.{same_names}
use Rattle.std.specs.Cmp.Lexicographic.{bytes_decides}

-- how many stand before the one of a name
abbrev pub before : List ℕ → List Tag → ℕ
before name tags = prefix_len (λ g. not (is_tag name g)) tags

other_name : (a b name : List ℕ) → same_text a name ≡ true → same_text a b ≡ false → same_text b name ≡ false
other_name a b name e f = false_from_ne_true (same_text b name) (λ g. apart (ap (same_text a) (same_names b name g) ∙ e))
  where
    apart : same_text a b ≡ true → ⊥
    apart e = cc

-- none has the name
abbrev None_of : List ℕ → List Tag → Type 0
None_of name tags = AllByRecursion (λ g. is_tag name g ≡ false) tags

none_after : (name : List ℕ) (g : Tag) (tags : List Tag) → is_tag name g ≡ true → is_listed g.name (map (λ h. h.name) tags) ≡ false → None_of name tags
none_after name g [] e f = tt
none_after name g (h ∷ tags) e f = by (same_text g.name h.name) refl f (λ m. none_after name g tags e m)
  where
    by : (b : Bool) → same_text g.name h.name ≡ b → (b || is_listed g.name (map (λ h. h.name) tags)) ≡ false → (is_listed g.name (map (λ h. h.name) tags) ≡ false → None_of name tags) → None_of name (h ∷ tags)
    by true k m rest = absurd cc
    by false k m rest = (other_name g.name h.name name e k, rest m)

-- they stay as they are
left_alone : (value : Bool) (name : List ℕ) (first last : ℕ) (tags : List Tag) → None_of name tags → map (tagged value name first last) tags ≡ tags
left_alone value name first last [] a = refl
left_alone value name first last (g ∷ tags) a =
    ap (λ b. (if b then record g { on = painted value first last g.on } else g) ∷ map (tagged value name first last) tags) a.0
    ∙ ap (λ gs. g ∷ gs) (left_alone value name first last tags a.1)

none_before_all : (name : List ℕ) (tags : List Tag) → length tags ≤ before name tags → None_of name tags
none_before_all name [] h = tt
none_before_all name (g ∷ tags) h = by (is_tag name g) refl (λ l. none_before_all name tags l)
  where
    by : (b : Bool) → is_tag name g ≡ b → (length tags ≤ before name tags → None_of name tags) → None_of name (g ∷ tags)
    by true e rest =
        let none : before name (g ∷ tags) ≡ 0 = ap (λ b. cond (not b) (1 + before name tags) 0) e in
        absurd (omega arith)
    by false e rest =
        let one : before name (g ∷ tags) ≡ 1 + before name tags = ap (λ b. cond (not b) (1 + before name tags) 0) e in
        (e, rest (omega arith))

none_any : (name : List ℕ) (tags : List Tag) → None_of name tags → list_any (is_tag name) tags ≡ false
none_any name [] a = refl
none_any name (g ∷ tags) a = ap (λ b. b || list_any (is_tag name) tags) a.0 ∙ none_any name tags a.1

-- the one of the name is there
pub some_any : (name : List ℕ) (tags : List Tag) → before name tags < length tags → list_any (is_tag name) tags ≡ true
some_any name [] h = absurd (omega arith)
some_any name (g ∷ tags) h = by (is_tag name g) refl (λ l. some_any name tags l)
  where
    by : (b : Bool) → is_tag name g ≡ b → (before name tags < length tags → list_any (is_tag name) tags ≡ true) → (is_tag name g || list_any (is_tag name) tags) ≡ true
    by true e rest = ap (λ b. b || list_any (is_tag name) tags) e
    by false e rest =
        let one : before name (g ∷ tags) ≡ 1 + before name tags = ap (λ b. cond (not b) (1 + before name tags) 0) e in
        ap (λ b. b || list_any (is_tag name) tags) e ∙ rest (omega arith)

-- it alone is changed
pub one_tagged : (value : Bool) (name : List ℕ) (first last n : ℕ) (d new : Tag) (tags : List Tag) → n ≡ before name tags → n < length tags → Differ (map (λ g. g.name) tags)
    → new ≡ record (get_or tags n d) { on = painted value first last (get_or tags n d).on } → slice_set tags n new ≡ map (tagged value name first last) tags
one_tagged value name first last n d new [] e h differ made = absurd (omega arith)
one_tagged value name first last n d new (g ∷ tags) e h differ made = by (is_tag name g) refl n h made e (λ k l f m. one_tagged value name first last k d new tags f l differ.1 m)
  where
    by : (b : Bool) → is_tag name g ≡ b → (n : ℕ) → n < length (g ∷ tags) → new ≡ record (get_or (g ∷ tags) n d) { on = painted value first last (get_or (g ∷ tags) n d).on } → n ≡ before name (g ∷ tags)
        → ((k : ℕ) → k < length tags → k ≡ before name tags → new ≡ record (get_or tags k d) { on = painted value first last (get_or tags k d).on } → slice_set tags k new ≡ map (tagged value name first last) tags)
        → slice_set (g ∷ tags) n new ≡ map (tagged value name first last) (g ∷ tags)
    by true t zero l m f rest =
        ap (λ h. h ∷ tags) m
        ∙ sym (
        ap (λ b. (if b then record g { on = painted value first last g.on } else g) ∷ map (tagged value name first last) tags) t
        ∙ ap (λ gs. (record g { on = painted value first last g.on }) ∷ gs) (left_alone value name first last tags (none_after name g tags t differ.0))
        )
    by true t (suc k) l m f rest =
        let none : before name (g ∷ tags) ≡ 0 = ap (λ b. cond (not b) (1 + before name tags) 0) t in
        absurd (omega arith)
    by false t zero l m f rest =
        let one : before name (g ∷ tags) ≡ 1 + before name tags = ap (λ b. cond (not b) (1 + before name tags) 0) t in
        absurd (omega arith)
    by false t (suc k) l m f rest =
        let one : before name (g ∷ tags) ≡ 1 + before name tags = ap (λ b. cond (not b) (1 + before name tags) 0) t in
        ap (λ gs. g ∷ gs) (rest k (omega arith) (omega arith) m)
        ∙ sym (ap (λ b. (if b then record g { on = painted value first last g.on } else g) ∷ map (tagged value name first last) tags) t)

-- none is changed, where there is none of the name
pub none_tagged : (value : Bool) (name : List ℕ) (first last n : ℕ) (tags : List Tag) → n ≡ before name tags → length tags ≤ n → map (tagged value name first last) tags ≡ tags
none_tagged value name first last n tags e h = left_alone value name first last tags (none_before_all name tags (omega arith))

-- one is added there
pub with_one : (name : List ℕ) (len n : ℕ) (tags : List Tag) → n ≡ before name tags → length tags ≤ n → with_tag name len tags ≡ tags ++ new_tag name len ∷ []
with_one name len n tags e h = ap (λ b. if b then tags else tags ++ new_tag name len ∷ []) (none_any name tags (none_before_all name tags (omega arith)))

pub with_none : (name : List ℕ) (len n : ℕ) (tags : List Tag) → n ≡ before name tags → n < length tags → with_tag name len tags ≡ tags
with_none name len n tags e h = ap (λ b. if b then tags else tags ++ new_tag name len ∷ []) (some_any name tags (omega arith))

same_self : (name : List ℕ) → same_text name name ≡ true
same_self name = (bytes_decides name name).1 refl

-- the one that is added, and changed
pub new_tagged : (value : Bool) (name : List ℕ) (len first last n : ℕ) (new : Tag) (tags : List Tag) → n ≡ before name tags → length tags ≤ n
    → new ≡ record (new_tag name len) { on = painted value first last (new_tag name len).on } → tags ++ new ∷ [] ≡ map (tagged value name first last) (with_tag name len tags)
new_tagged value name len first last n new tags e h m =
    let added = new_tag name len in
    ap (λ g. tags ++ g ∷ []) m
    ∙ sym (
    ap (map (tagged value name first last)) (with_one name len n tags e h)
    ∙ map-append (tagged value name first last) tags (added ∷ [])
    ∙ ap (λ gs. gs ++ tagged value name first last added ∷ []) (none_tagged value name first last n tags e h)
    ∙ ap (λ b. tags ++ (if b then record added { on = painted value first last added.on } else added) ∷ []) (same_self name)
    )

-- a new one that is put on no character is as it was made
pub painted_none : (on : List Bool) → painted true 0 0 on ≡ on
painted_none on = let none : min 0 (length on) - 0 ≡ 0 = omega arith in let none_too : max 0 0 ≡ 0 = omega arith in ap (λ n. replicate n true ++ drop (max 0 0) on) none ∙ ap (λ n. drop n on) none_too

-- ---- several that are added

one_more_stays : (name : List ℕ) (len n : ℕ) (tags so_far : List Tag) → take n so_far ≡ tags → n ≤ length so_far → take n (with_tag name len so_far) ≡ tags
one_more_stays name len n tags so_far e h = by (list_any (is_tag name) so_far)
  where
    by : (b : Bool) → take n (if b then so_far else so_far ++ new_tag name len ∷ []) ≡ tags
    by true = e
    by false = take-append-le n so_far (new_tag name len ∷ []) h ∙ e

pub front_stays : (names : List (List ℕ)) (len n : ℕ) (tags so_far : List Tag) → take n so_far ≡ tags → n ≤ length so_far → take n (with_tags names len so_far) ≡ tags
front_stays [] len n tags so_far e h = e
front_stays (name ∷ names) len n tags so_far e h = front_stays names len n tags (with_tag name len so_far) (one_more_stays name len n tags so_far e h) (longer (list_any (is_tag name) so_far))
  where
    longer : (b : Bool) → n ≤ length (if b then so_far else so_far ++ new_tag name len ∷ [])
    longer true = h
    longer false = omega (arith, length-append so_far (new_tag name len ∷ []))

-- what is read of a tag at its index
pub read_tag : (value : Bool) (first last n : ℕ) (found : Tag) (tags : List Tag) → found ≡ get_or tags n found → record found { on = painted value first last found.on } ≡ record (get_or tags n found) { on = painted value first last (get_or tags n found).on }
read_tag value first last n found tags e = ap (λ (g : Tag). record g { on = painted value first last g.on }) e
