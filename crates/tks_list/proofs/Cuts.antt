-- Parts of a text, and texts that lie one behind the other in one.
use Rattle.std.proofs.Common.{◌≡◌, ℕ, ◌+◌, ◌-◌, ◌<◌, ◌≤◌, cond, ltb, List, [], ◌∷◌, ◌++◌, append_assoc, length, take, drop, get_or, Some, None, refl, sym, subst, ap, ◌∙◌, arith}
use Rattle.std.specs.Prelude.{map, min, not, position}
use Rattle.std.specs.List.{AllByRecursion, position_or_len}
use Rattle.std.proofs.lemmas.List.{take-append-le, take_all, length-append, length-map, length-take, map-append, drop_more, get_or-take, length-drop, length-take-le, take_min, drop_min, drop-take, drop-drop}
use Rattle.std.proofs.Math.Seq.{drop-append_seam}
use Rattle.tks_text.specs.Text.{IsText, same_text}
use Rattle.tks_text.proofs.Texts.{text_drop, text_take}
use Rattle.tks_list.specs.Cuts.{cut, AllEnd}
use Rattle.tks_list.specs.Quoting.{quoted, spaced}
use Rattle.tks_list.specs.declared.elements.Span.{Span}

pub text_cut : (text : List ℕ) (span : Span) → IsText text → IsText (cut text span)
text_cut text span h = text_drop span.start _ (text_take span.end text h)

-- what is put behind a text leaves its parts
cut_more : (xs more : List ℕ) (span : Span) → span.end ≤ length xs → cut (xs ++ more) span ≡ cut xs span
cut_more xs more span h = ap (drop span.start) (take-append-le span.end xs more h)

pub cuts_more : (xs more : List ℕ) (spans : List Span) → AllEnd (length xs) spans → map (cut (xs ++ more)) spans ≡ map (cut xs) spans
cuts_more xs more [] h = refl
cuts_more xs more (span ∷ spans) h = ap (λ e. e ∷ map (cut (xs ++ more)) spans) (cut_more xs more span h.0) ∙ ap (λ l. cut xs span ∷ l) (cuts_more xs more spans h.1)

-- a span of what stands behind the front of a text, as a span of the text
pub cut_behind : (text : List ℕ) (start : ℕ) (span : Span) → start ≤ length text → cut text (record { start = start + min span.start (min span.end (length text - start)); end = start + min span.end (length text - start) }) ≡ cut (drop start text) span
cut_behind text start span h =
    let rest = drop start text in
    let end = min span.end (length text - start) in
    let len : length rest ≡ length text - start = length-drop start text in
    let whole : take end rest ≡ take span.end rest = subst (λ n. take (min span.end n) rest ≡ take span.end rest) len (take_min span.end rest) in
    let cut_len : length (take end rest) ≡ end = length-take-le end rest (omega (arith, len)) in
    sym (drop-drop (min span.start end) start (take (start + end) text))
    ∙ ap (drop (min span.start end)) (drop-take start end text)
    ∙ subst (λ n. drop (min span.start n) (take end rest) ≡ drop span.start (take end rest)) cut_len (drop_min span.start (take end rest))
    ∙ ap (drop span.start) whole

pub ends_more : (len new : ℕ) (spans : List Span) → len ≤ new → AllEnd len spans → AllEnd new spans
ends_more len new [] le h = tt
ends_more len new (span ∷ spans) le h = (omega (arith, le, h.0), ends_more len new spans le h.1)

all_more : {X : Type 0} (P : X → Type 0) (xs : List X) (x : X) → AllByRecursion P xs → P x → AllByRecursion P (xs ++ x ∷ [])
all_more P [] x h k = (k, tt)
all_more P (y ∷ xs) x h k = (h.0, all_more P xs x h.1 k)

-- what is put behind a text, and its span
abbrev pub last_span : List ℕ → List ℕ → Span
last_span xs more = record { start = length xs; end = length (xs ++ more) }

pub last_cut : (xs more : List ℕ) → cut (xs ++ more) (last_span xs more) ≡ more
last_cut xs more = ap (drop (length xs)) (take_all (length (xs ++ more)) (xs ++ more) (omega arith)) ∙ drop-append_seam xs more

pub pushed : (xs more : List ℕ) (spans : List Span) → AllEnd (length xs) spans → map (cut (xs ++ more)) (spans ++ last_span xs more ∷ []) ≡ map (cut xs) spans ++ more ∷ []
pushed xs more spans h =
    map-append (cut (xs ++ more)) spans (last_span xs more ∷ [])
    ∙ ap (λ l. l ++ cut (xs ++ more) (last_span xs more) ∷ []) (cuts_more xs more spans h)
    ∙ ap (λ e. map (cut xs) spans ++ e ∷ []) (last_cut xs more)

pub ends_pushed : (xs more : List ℕ) (spans : List Span) → AllEnd (length xs) spans → AllEnd (length (xs ++ more)) (spans ++ last_span xs more ∷ [])
ends_pushed xs more spans h =
    all_more (λ (s : Span). s.end ≤ length (xs ++ more)) spans (last_span xs more) (ends_more (length xs) (length (xs ++ more)) spans (omega (arith, length-append xs more)) h) (omega arith)

-- ---- one after the other

place_cut : (value text : List ℕ) (spans : List Span) → position_or_len (λ s. same_text (cut text s) value) spans ≡ position_or_len (λ e. same_text e value) (map (cut text) spans)
place_cut value text [] = refl
place_cut value text (span ∷ spans) = ap (λ n. cond (not (same_text (cut text span) value)) (1 + n) 0) (place_cut value text spans)

pub position_cut : (value text : List ℕ) (spans : List Span) → position (λ s. same_text (cut text s) value) spans ≡ position (λ e. same_text e value) (map (cut text) spans)
position_cut value text spans =
    ap (λ n. cond (ltb n (length spans)) (Some n) None) (place_cut value text spans)
    ∙ ap (λ k. cond (ltb (position_or_len (λ e. same_text e value) (map (cut text) spans)) k) (Some (position_or_len (λ e. same_text e value) (map (cut text) spans))) None) (sym (length-map spans (cut text)))

min_le : (m n : ℕ) → m ≤ n → min m n ≡ m
min_le m n h = omega arith

-- the element at an index, and those behind it
pub element_at : (l : List (List ℕ)) (i behind : ℕ) (e : List ℕ) → i < behind → behind ≤ length l → e ≡ get_or l i e → drop i (take behind l) ≡ e ∷ drop (i + 1) (take behind l)
element_at l i behind e lt within is =
    let len : i < length (take behind l) = omega (arith, length-take behind l, min_le behind (length l) within) in
    drop_more (take behind l) i e len ∙ ap (λ x. x ∷ drop (i + 1) (take behind l)) (get_or-take behind l i e lt ∙ sym is)

-- an element behind a text
pub spaced_at : (text e : List ℕ) (l : List (List ℕ)) → ((text ++ 32 ∷ []) ++ quoted e) ++ spaced l ≡ text ++ spaced (e ∷ l)
spaced_at text e l = append_assoc (text ++ 32 ∷ []) (quoted e) (spaced l) ∙ append_assoc text (32 ∷ []) (quoted e ++ spaced l)
