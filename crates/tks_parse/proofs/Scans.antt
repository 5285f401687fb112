-- Loops that go over a text byte by byte.
use Rattle.std.proofs.Common.{◌≡◌, ℕ, zero, suc, ◌+◌, ◌*◌, ◌<◌, ◌≤◌, Bool, false, cond, List, length, get_or, drop, ap, ◌∙◌, arith}
use Rattle.std.specs.Prelude.{◌^◌}
use Rattle.std.proofs.lemmas.List.{at_drop_more}
use Rattle.tks_parse.specs.Braces.{quotes, ends_comment, comment_len, ends_braces, held_behind, braced_len}

pub comment_goes : (t : List ℕ) (i : ℕ) (q : Bool) → i < length t → ends_comment q (get_or t i 0) ≡ false → comment_len q (drop i t) ≡ suc (comment_len (quotes q (get_or t i 0)) (drop (i + 1) t))
comment_goes t i q lt e = at_drop_more (comment_len q) t i 0 lt ∙ ap (λ b. cond b 0 (suc (comment_len (quotes q (get_or t i 0)) (drop (i + 1) t)))) e

pub braces_go : (t : List ℕ) (i h : ℕ) (q : Bool) → i < length t → ends_braces h q (get_or t i 0) ≡ false → braced_len h q (drop i t) ≡ suc (braced_len (held_behind h q (get_or t i 0)) (quotes q (get_or t i 0)) (drop (i + 1) t))
braces_go t i h q lt e = at_drop_more (braced_len h q) t i 0 lt ∙ ap (λ b. cond b 0 (suc (braced_len (held_behind h q (get_or t i 0)) (quotes q (get_or t i 0)) (drop (i + 1) t)))) e

-- a number of less than four digits
pub small_number : (n i : ℕ) → i < 4 → n + 17 ≤ 17 * 16 ^ i → n < 69_632
small_number n zero lt h = omega (arith, h)
small_number n (suc zero) lt h = omega (arith, h)
small_number n (suc (suc zero)) lt h = omega (arith, h)
small_number n (suc (suc (suc zero))) lt h = omega (arith, h)
small_number n (suc (suc (suc (suc i)))) lt h = absurd (omega (arith, lt))
