-- Texts by the place of the first byte that stands in none, texts one after the other, and texts that are the same.
use Rattle.std.proofs.Common.{zero, suc, take, drop, ◌≡◌, ℕ, ◌+◌, ◌≤◌, Bool, true, false, cond, ltb, List, [], ◌∷◌, ◌++◌, length, Option, Some, None, refl, sym, ◌∙◌, true≢false, arith}
use Rattle.std.specs.List.{list_all, position, position_or_len, prefix_len}
use Rattle.std.specs.Prelude.{not, ◌&&◌}
use Rattle.std.specs.Cmp.Lexicographic.{bytes_decides}
use Rattle.std.proofs.lemmas.Bool.{ltb-false, and_from}
use Rattle.tks_text.specs.Text.{is_text_byte, is_text, IsText, same_text}

abbrev pub is_bad : ℕ → Bool
is_bad b = not (is_text_byte b)

good : (b : Bool) → not (not b) ≡ true → b ≡ true
good true e = refl
good false e = absurd cc

-- a text, where no byte is bad
pub text_from_len : (bytes : List ℕ) → length bytes ≤ prefix_len (λ x. not (is_bad x)) bytes → IsText bytes
text_from_len [] h = tt
text_from_len (b ∷ bytes) h =
    let step : (t : Bool) → not (is_bad b) ≡ t → length (b ∷ bytes) ≤ cond t (1 + prefix_len (λ x. not (is_bad x)) bytes) 0 → IsText (b ∷ bytes) =
    λ t. elim t as (λ v. not (is_bad b) ≡ v → length (b ∷ bytes) ≤ cond v (1 + prefix_len (λ x. not (is_bad x)) bytes) 0 → IsText (b ∷ bytes)) [
      | true ↦ λ e k. (good (is_text_byte b) e, text_from_len bytes (omega (arith, k)))
      | false ↦ λ e k. absurd (omega (arith, k))
    ] in
    step (not (is_bad b)) refl h

nothing : Option ℕ
nothing = None

none_len : (n m : ℕ) (b : Bool) → ltb n m ≡ b → cond b (Some n) None ≡ nothing → m ≤ n
unfolding nothing
none_len n m true l e = absurd cc
none_len n m false l e = ltb-false n m l

pub text_from_none : (bytes : List ℕ) → position is_bad bytes ≡ None → IsText bytes
unfolding nothing
text_from_none bytes e = text_from_len bytes (none_len (position_or_len is_bad bytes) (length bytes) _ refl e)

pub both : (a b : Bool) → a && b ≡ true → (a ≡ true) × (b ≡ true)
both true b e = (refl, e)
both false b e = absurd cc

-- bytes that pass the test are a text
pub text_from_all : (bytes : List ℕ) → is_text bytes ≡ true → IsText bytes
text_from_all [] e = tt
text_from_all (b ∷ bytes) e = let h = both (is_text_byte b) (is_text bytes) e in (h.0, text_from_all bytes h.1)

-- and a text passes it
pub all_from_text : (bytes : List ℕ) → IsText bytes → is_text bytes ≡ true
all_from_text [] h = refl
all_from_text (b ∷ bytes) h = and_from (is_text_byte b) (list_all is_text_byte bytes) h.0 (all_from_text bytes h.1)

pub text_push : (bytes : List ℕ) (b : ℕ) → IsText bytes → is_text_byte b ≡ true → IsText (bytes ++ b ∷ [])
text_push [] b h e = (e, tt)
text_push (x ∷ bytes) b h e = (h.0, text_push bytes b h.1 e)

pub text_append : (xs ys : List ℕ) → IsText xs → IsText ys → IsText (xs ++ ys)
text_append [] ys h k = k
text_append (x ∷ xs) ys h k = (h.0, text_append xs ys h.1 k)

pub text_drop : (n : ℕ) (bytes : List ℕ) → IsText bytes → IsText (drop n bytes)
text_drop zero bytes h = h
text_drop (suc n) [] h = tt
text_drop (suc n) (b ∷ bytes) h = text_drop n bytes h.1

pub text_take : (n : ℕ) (bytes : List ℕ) → IsText bytes → IsText (take n bytes)
text_take zero bytes h = tt
text_take (suc n) [] h = tt
text_take (suc n) (b ∷ bytes) h = (h.0, text_take n bytes h.1)

pub text_append_take : (n : ℕ) (xs ys : List ℕ) → IsText xs → IsText ys → IsText (xs ++ take n ys)
text_append_take n xs ys h k = text_append xs (take n ys) h (text_take n ys k)

pub text_append_drop : (n : ℕ) (xs ys : List ℕ) → IsText xs → IsText ys → IsText (xs ++ drop n ys)
text_append_drop n xs ys h k = text_append xs (drop n ys) h (text_drop n ys k)

-- whichever of the two is asked about
pub same_either_way : (a b : List ℕ) → same_text a b ≡ same_text b a
same_either_way a b = by (same_text a b) (same_text b a) refl refl
  where
    by : (u v : Bool) → same_text a b ≡ u → same_text b a ≡ v → u ≡ v
    by true true s t = refl
    by false false s t = refl
    by true false s t = absurd (true≢false (sym ((bytes_decides b a).1 (sym ((bytes_decides a b).0 s))) ∙ t))
    by false true s t = absurd (true≢false (sym ((bytes_decides a b).1 (sym ((bytes_decides b a).0 t))) ∙ s))
