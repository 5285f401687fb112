-- Reading a text at once, and byte by byte.
use Rattle.std.proofs.Common.{◌≡◌, ℕ, zero, suc, ◌+◌, ◌-◌, ◌<◌, ◌≤◌, true, false, List, [], ◌∷◌, length, take, drop, Option, Some, Ok, Err, refl, ap, ◌∙◌, arith}
use Rattle.std.specs.List.{prefix_len}
use Rattle.std.proofs.lemmas.Bool.{cond_both}
use Rattle.tks_text.specs.Text.{is_text_byte, IsText}
use Rattle.tks_text.proofs.Prefixes.{front_passes}
use Rattle.tks_spelling.specs.Spelling.{Read, ◌>>=◌, members_at, text_byte}

abbrev at : Option ℕ → ℕ → List ℕ → Read (List ℕ)
at before n bytes = members_at (λ before. text_byte) before n bytes

abbrev good : List ℕ → ℕ
good bytes = prefix_len is_text_byte bytes

-- what is read behind the first byte
abbrev behind : ℕ → Read (List ℕ) → Read (List ℕ)
behind b r = r >>= λ x. Ok (b ∷ x.0, x.1)

first_good : (before : Option ℕ) (n b : ℕ) (bytes : List ℕ) → is_text_byte b ≡ true → at before (suc n) (b ∷ bytes) ≡ behind b (at (Some b) n bytes)
unfolding members_at
first_good before n b bytes e = rw e refl

first_bad : (before : Option ℕ) (n b : ℕ) (bytes : List ℕ) → is_text_byte b ≡ false → at before (suc n) (b ∷ bytes) ≡ Err (suc (length bytes))
unfolding members_at
first_bad before n b bytes e = rw e refl

-- the first byte at fault, or the end
pub letters_fault : (before : Option ℕ) (n : ℕ) (bytes : List ℕ) → good bytes < n → at before n bytes ≡ Err (length bytes - good bytes)
unfolding members_at
letters_fault before zero bytes h = absurd (omega (arith, h))
letters_fault before (suc n) [] h = refl
letters_fault before (suc n) (b ∷ bytes) h =
    cond_both (is_text_byte b) (1 + good bytes) 0 (λ k. k < suc n → at before (suc n) (b ∷ bytes) ≡ Err (suc (length bytes) - k))
    (λ e lt. first_good before n b bytes e ∙ ap (behind b) (letters_fault (Some b) n bytes (omega (arith, lt))) ∙ ap (λ (k : ℕ). Err k) (omega arith))
    (λ e lt. first_bad before n b bytes e ∙ ap (λ (k : ℕ). Err k) (omega arith))
    h

pub letters_read : (before : Option ℕ) (n : ℕ) (bytes : List ℕ) → n ≤ good bytes → at before n bytes ≡ Ok (take n bytes, drop n bytes)
unfolding members_at
letters_read before zero bytes h = refl
letters_read before (suc n) [] h = absurd (omega (arith, h))
letters_read before (suc n) (b ∷ bytes) h =
    cond_both (is_text_byte b) (1 + good bytes) 0 (λ k. suc n ≤ k → at before (suc n) (b ∷ bytes) ≡ Ok (b ∷ take n bytes, drop n bytes))
    (λ e le. first_good before n b bytes e ∙ ap (behind b) (letters_read (Some b) n bytes (omega (arith, le))))
    (λ e le. absurd (omega (arith, le)))
    h

pub letters_are_text : (n : ℕ) (bytes : List ℕ) → n ≤ good bytes → IsText (take n bytes)
letters_are_text n bytes h = front_passes is_text_byte n bytes h
