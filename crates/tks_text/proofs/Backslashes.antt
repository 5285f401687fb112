-- How far an escape reaches.
use Rattle.std.proofs.Common.{◌≡◌, ℕ, suc, ◌≤◌, eqb, List, [], ◌∷◌, length, Some, None, ap, arith}
use Rattle.std.proofs.lemmas.Bool.{cond_both}
use Rattle.std.proofs.lemmas.List.Sums.{prefix_len-le-length}
use Rattle.std.specs.Char.{is_digit}
use Rattle.tks_text.specs.Backslash.{is_blank, digit_count, number_of, hex_escape, octal_escape, escaped, escape}

abbrev Within : ℕ → ℕ × ℕ → Type 0
Within n x = x.1 ≤ n

count_within : (base most : ℕ) (t : List ℕ) → digit_count base most t ≤ length t
count_within base most t = omega (arith, prefix_len-le-length (λ c. is_digit c base) t)

hex_within : (letter most : ℕ) (t : List ℕ) → Within (suc (length t)) (hex_escape letter most t)
hex_within letter most t =
    cond_both (eqb (digit_count 16 most t) 0) _ _ (Within (suc (length t))) (λ e. omega arith) (λ e. omega (arith, count_within 16 most t))

octal_within : (t : List ℕ) → Within (length t) (octal_escape t)
octal_within t = cond_both _ (number_of 8 0 (digit_count 8 3 t) t) (number_of 8 0 (digit_count 8 2 t) t) (Within (length t)) (λ e. omega (arith, count_within 8 3 t)) (λ e. omega (arith, count_within 8 2 t))

escaped_within : (t : List ℕ) → Within (length t) (escaped t)
escaped_within [] = omega arith
escaped_within (c ∷ t) =
    cond_both (eqb c 10) _ _ (Within (suc (length t))) (λ e. omega (arith, prefix_len-le-length is_blank t))
    (λ e. cond_both (eqb c 120) _ _ (Within (suc (length t))) (λ e. hex_within 120 2 t)
    (λ e. cond_both (eqb c 117) _ _ (Within (suc (length t))) (λ e. hex_within 117 4 t)
    (λ e. cond_both (is_digit c 8) _ _ (Within (suc (length t))) (λ e. octal_within (c ∷ t)) (λ e. omega arith))))

-- no escape takes more than there is
pub escape_within : (t : List ℕ) (c n : ℕ) → escape t ≡ Some (c, n) → n ≤ length t
unfolding escape
escape_within t c n e =
    cond_both _ (Some (escaped t)) None (λ o. o ≡ Some (c, n) → n ≤ length t)
    (λ h v. let same : escaped t ≡ (c, n) = cc in omega (arith, escaped_within t, ap (λ (x : ℕ × ℕ). x.1) same))
    (λ h v. absurd cc) e
