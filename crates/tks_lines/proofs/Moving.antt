-- Modifiers, read one after the other.
use Rattle.std.proofs.Common.{◌≡◌, ℕ, zero, suc, ◌+◌, ◌<◌, List, [], ◌∷◌, length, drop, Some, None, refl, sym, ap, ◌∙◌, arith}
use Rattle.tks_lines.specs.Indices.{step_at, go_on, moved}

-- bytes that are read already are passed over
pub passed : (text : List ℕ) (place skip : ℕ) (t : List ℕ) → moved text place skip t ≡ moved text place 0 (drop skip t)
passed text place zero t = refl
passed text place (suc skip) [] = refl
passed text place (suc skip) (c ∷ t) = passed text place skip t

-- the first modifier, and what is behind it
pub first_moves : (text : List ℕ) (place next taken : ℕ) (t : List ℕ) → step_at text place t ≡ Some (next, taken) → moved text next 0 (drop (1 + taken) t) ≡ moved text place 0 t
first_moves text place next taken [] e = absurd cc
first_moves text place next taken (c ∷ t) e =
    let one : suc taken ≡ 1 + taken = omega arith in
    ap (λ n. moved text next 0 (drop n (c ∷ t))) (sym one) ∙ sym (passed text next taken t) ∙ ap (λ s. go_on s (λ p more. moved text p more t)) (sym e)

-- where it is none
pub none_moves : (text : List ℕ) (place : ℕ) (t : List ℕ) → 0 < length t → step_at text place t ≡ None → moved text place 0 t ≡ None
none_moves text place [] some e = absurd (omega arith)
none_moves text place (c ∷ t) some e = ap (λ s. go_on s (λ p more. moved text p more t)) e
