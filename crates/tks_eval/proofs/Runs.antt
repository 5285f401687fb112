-- A run of characters in a word joins what is made of it all at once.
use Rattle.std.proofs.Common.{◌≡◌, ◌==◌, ◌||◌, suc, rules, ℕ, ◌<◌, ◌≤◌, true, false, cond, leb, List, [], ◌∷◌, ◌++◌, length, get_or, Ok, Err, refl, sym, ap, ◌∙◌, arith, append-nil, append_assoc, length-append}
use Rattle.std.proofs.lemmas.Bool.{le-leb, leb-true}
use Rattle.tks_text.specs.declared.limits.Limits.{Limits}
use Rattle.tks_parse.specs.Tree.{Parts, chars, parts_size}
use Rattle.tks_vars.specs.Variables.{Variables}
use Rattle.tks_tcl.specs.Cause.{OverLimit}
use Rattle.tks_text.specs.Limits.{fits}
use Rattle.tks_eval.specs.Outcome.{Level, appended, given}
use Rattle.tks_eval.specs.Evaluation.{parts_do}

-- characters don't count in the size of parts
pub chars_weigh : (t : List ℕ) (rest : Parts) → parts_size (chars t rest) ≡ parts_size rest
chars_weigh [] rest = refl
chars_weigh (c ∷ t) rest = chars_weigh t rest

-- the only one
pub one_of : {A : Type 0} (xs : List A) (x : A) → 1 ≤ length xs → length xs < 2 → x ≡ get_or xs 0 x → xs ≡ x ∷ []
one_of [] x l m f = absurd (omega (arith, l))
one_of (a ∷ []) x l m f = ap (λ z. z ∷ []) (sym f)
one_of (a ∷ b ∷ xs) x l m f = absurd (omega (arith, m))

module _ (limits : Limits) where
  -- what joins is not empty
  pub appended_some : (made : List ℕ) (c : ℕ) (t : List ℕ) → appended limits made (c ∷ t) ≡ cond (fits limits (made ++ c ∷ t)) (Ok (made ++ c ∷ t)) (Err OverLimit)
  appended_some made c t =
      let some : (suc (length t) == 0) ≡ false = search rules in
      ap (λ b. cond (b || fits limits (made ++ c ∷ t)) (Ok (made ++ c ∷ t)) (Err OverLimit)) some

  -- a character, and then others, join as all of them do
  pub appended_on : (made : List ℕ) (c : ℕ) (t : List ℕ) → fits limits (made ++ c ∷ []) ≡ true → appended limits (made ++ c ∷ []) t ≡ appended limits made (c ∷ t)
  appended_on made c [] h =
      let one : (made ++ c ∷ []) ++ [] ≡ made ++ c ∷ [] = append-nil (made ++ c ∷ []) in
      ap Ok one ∙ ap (λ b. cond b (Ok (made ++ c ∷ [])) (Err OverLimit)) (sym h) ∙ sym (appended_some made c [])
  appended_on made c (d ∷ t) h =
      appended_some (made ++ c ∷ []) d t ∙ ap (λ x. cond (fits limits x) (Ok x) (Err OverLimit)) (append_assoc made (c ∷ []) (d ∷ t)) ∙ sym (appended_some made c (d ∷ t))

  -- where a character passes the limit, it and others do
  pub appended_over : (made : List ℕ) (c : ℕ) (t : List ℕ) → fits limits (made ++ c ∷ []) ≡ false → appended limits made (c ∷ t) ≡ Err OverLimit
  appended_over made c t h =
      appended_some made c t ∙ elim (leb (length (made ++ c ∷ t)) limits.text) as (λ b. leb (length (made ++ c ∷ t)) limits.text ≡ b → cond b (Ok (made ++ c ∷ t)) (Err OverLimit) ≡ Err OverLimit) [
        | true ↦ λ e.
            let le = leb-true (length (made ++ c ∷ t)) limits.text e in
            let less : length (made ++ c ∷ []) ≤ limits.text = omega (arith, le, length-append made (c ∷ t), length-append made (c ∷ [])) in
            let no : true ≡ false = sym (le-leb (length (made ++ c ∷ [])) limits.text less) ∙ h in
            cc
        | false ↦ λ e. refl
      ] refl

  module _ {S : Type 0} (inner : Level S) (state : S) (variables : Variables) (fuel : ℕ) where
    pub chars_join : (t made : List ℕ) (rest : Parts) → parts_do limits inner (chars t rest) made state variables fuel
        ≡ given limits (appended limits made t) state variables fuel (λ made. parts_do limits inner rest made state variables fuel)
    chars_join [] made rest = ap (λ m. parts_do limits inner rest m state variables fuel) (sym (append-nil made))
    chars_join (c ∷ t) made rest =
        ap (λ v. given limits v state variables fuel (λ made. parts_do limits inner (chars t rest) made state variables fuel)) (appended_some made c []) ∙ elim (fits limits (made ++ c ∷ [])) as (λ b. fits limits (made ++ c ∷ []) ≡ b →
        given limits (cond b (Ok (made ++ c ∷ [])) (Err OverLimit)) state variables fuel (λ made. parts_do limits inner (chars t rest) made state variables fuel)
        ≡ given limits (appended limits made (c ∷ t)) state variables fuel (λ made. parts_do limits inner rest made state variables fuel)) [
          | true ↦ λ e. chars_join t (made ++ c ∷ []) rest ∙ ap (λ v. given limits v state variables fuel (λ made. parts_do limits inner rest made state variables fuel)) (appended_on made c t e)
          | false ↦ λ e. ap (λ v. given limits v state variables fuel (λ made. parts_do limits inner rest made state variables fuel)) (sym (appended_over made c t e))
        ] refl
