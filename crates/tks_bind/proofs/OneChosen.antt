-- There is one choice, where bindings differ in their numbers.
use Rattle.std.specs.Prelude.{◌==◌, not, nat_lt}
use Rattle.std.specs.List.{list_all}
use Rattle.std.proofs.Common.{◌≡◌, ℕ, inl, inr, Bool, true, false, List, [], ◌∷◌, Option, Some, None, refl, ap, sym, ◌∙◌, arith}
use Rattle.std.proofs.lemmas.Bool.{eq-eqb}
use Rattle.tks_text.proofs.Texts.{both}
use Rattle.tks_bind.specs.declared.binding.Binding.{Binding}
use Rattle.tks_bind.specs.Binding.{is_for}
use Rattle.tks_bind.specs.Distinct.{all_differ}
use Rattle.tks_bind.specs.WellFormed.{differ, are_bindings}
use Rattle.tks_bind.specs.Chosen.{Scene, IsOneOf, ChosenSo}

-- what holds of each holds of one of them
pub all_in : {T : Type 0} (test : T → Bool) (xs : List T) (x : T) → list_all test xs ≡ true → IsOneOf x xs → test x ≡ true
all_in test [] x h i = absurd i
all_in test (y ∷ xs) x h (inl e) = ap test e ∙ (both (test y) (list_all test xs) h).0
all_in test (y ∷ xs) x h (inr i) = all_in test xs x (both (test y) (list_all test xs) h).1 i

never_alike : (b c : Binding) → differ b c ≡ true → b.number ≡ c.number → ⊥
never_alike b c h e =
    let apart : not (b.number == c.number) ≡ true = (both (not (b.number == c.number)) (not (is_for b.tag b.sequence c)) h).0 in
    let f : false ≡ true = rw (eq-eqb b.number c.number e) at apart in
    cc

one_of_number : (bs : List Binding) (b c : Binding) → all_differ differ bs ≡ true → IsOneOf b bs → IsOneOf c bs → b.number ≡ c.number → b ≡ c
one_of_number [] b c h i j e = absurd i
one_of_number (x ∷ bs) b c h i j e =
    let two = both (list_all (differ x) bs) (all_differ differ bs) h in
    by two.0 i j (one_of_number bs b c two.1)
  where
    by : list_all (differ x) bs ≡ true → IsOneOf b (x ∷ bs) → IsOneOf c (x ∷ bs) → (IsOneOf b bs → IsOneOf c bs → b.number ≡ c.number → b ≡ c) → b ≡ c
    by apart (inl f) (inl g) rest = f ∙ sym g
    by apart (inl f) (inr j) rest = absurd (never_alike x c (all_in (differ x) bs c apart j) (ap (λ (y : Binding). y.number) (sym f) ∙ e))
    by apart (inr i) (inl g) rest = absurd (never_alike x b (all_in (differ x) bs b apart i) (ap (λ (y : Binding). y.number) (sym g) ∙ sym e))
    by apart (inr i) (inr j) rest = rest i j e

pub one_chosen : (s : Scene) (next : ℕ) → are_bindings next s.bindings ≡ true → (o p : Option Binding) → ChosenSo s o → ChosenSo s p → o ≡ p
one_chosen s next h None None c d = refl
one_chosen s next h None (Some b) c d = absurd (c b d.wins.0 d.wins.1.candidate)
one_chosen s next h (Some b) None c d = absurd (d b c.wins.0 c.wins.1.candidate)
one_chosen s next h (Some b) (Some e) c d =
    let up = d.last b c.wins.0 c.wins.1 in
    let down = c.last e d.wins.0 d.wins.1 in
    let apart = (both (list_all (λ (x : Binding). nat_lt x.number next) s.bindings) (all_differ differ s.bindings) h).1 in
    ap (λ x. Some x) (one_of_number s.bindings b e apart c.wins.1.candidate.there d.wins.1.candidate.there (omega (arith, up, down)))
