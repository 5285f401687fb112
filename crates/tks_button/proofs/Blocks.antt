-- The longest line.
use Rattle.std.proofs.Common.{◌≡◌, ℕ, suc, ◌≤◌, Bool, true, false, ◌==◌, max, if◌then◌else◌, List, [], ◌∷◌, Option, Some, None, length, refl, sym, ap, ◌∙◌, arith}
use Rattle.std.specs.Prelude.{map}
use Rattle.std.specs.List.{fold, reduce, onto_first}
use Rattle.std.specs.Option.{unwrap_or, option_map}
use Rattle.tks_button.specs.Block.{lines, longest}

folded : (a : ℕ) (ls : List (List ℕ)) → fold max a (map length ls) ≡ max a (longest ls)
folded a [] = omega arith
folded a (l ∷ ls) = folded (max a (length l)) ls ∙ omega arith

greatest : (ls : List (List ℕ)) → unwrap_or (reduce max (map length ls)) 0 ≡ longest ls
greatest [] = refl
greatest (l ∷ ls) = folded (length l) ls

same_option : (o : Option ℕ) → option_map (λ x. x) o ≡ o
same_option None = refl
same_option (Some x) = refl

-- the greatest of the lengths, or 0 where there is none
pub longest_is : (ls : List (List ℕ)) (most : Option ℕ) → option_map (λ x. x) most ≡ reduce max (map length ls) → unwrap_or most 0 ≡ longest ls
longest_is ls most h = ap (λ o. unwrap_or o 0) (sym (same_option most) ∙ h) ∙ greatest ls

-- no line is longer than the text

longest_with : (c : ℕ) (ls : List (List ℕ)) → longest (onto_first c ls) ≤ suc (longest ls)
longest_with c [] = omega arith
longest_with c (l ∷ ls) = omega arith

pub longest_within : (text : List ℕ) → longest (lines text) ≤ length text
longest_within [] = omega arith
longest_within (c ∷ text) = by (c == 10) (longest_within text)
  where
    by : (b : Bool) → longest (lines text) ≤ length text → longest (if b then [] ∷ lines text else onto_first c (lines text)) ≤ suc (length text)
    by true ih = omega arith
    by false ih = omega (arith, longest_with c (lines text))
