-- What is made of a script is made of it piece by piece.
use Rattle.std.proofs.Common.{◌≡◌, ◌↔◌, ◌==◌, ℕ, Bool, true, false, cond, List, [], ◌∷◌, ◌++◌, refl, ap, sym, subst, true≢false, ◌∙◌}
use Rattle.std.proofs.lemmas.Bool.{eqb-true}
use Rattle.tks_event.specs.Event.{Event}
use Rattle.tks_bind.specs.Percents.{formed, replaced, percents}
use Rattle.tks_bind.specs.Pieces.{Replaced, nothing, other, form, sign_at_end}

module _ (e : Event) (path : List ℕ) where
  no_sign : (c : ℕ) → ¬ (c ≡ 37) → (c == 37) ≡ false
  no_sign c h = by (c == 37) refl
    where
      by : (b : Bool) → (c == 37) ≡ b → b ≡ false
      by true is = absurd (h (eqb-true c 37 is))
      by false is = refl

  made_so : (script made : List ℕ) → Replaced e path script made → percents e path script ≡ made
  made_so _ _ nothing = refl
  made_so _ _ (other c script made h r) = rw (no_sign c h) (ap (λ t. c ∷ t) (made_so script made r))
  made_so _ _ (form c script made r) = ap (λ t. formed e path c ++ t) (made_so script made r)
  made_so _ _ sign_at_end = refl

  pieces : (script : List ℕ) → Replaced e path script (percents e path script)
  pieces [] = nothing
  pieces (c ∷ []) = by (c == 37) refl
    where
      by : (b : Bool) → (c == 37) ≡ b → Replaced e path (c ∷ []) (cond b (37 ∷ []) (c ∷ []))
      by true is = subst (λ d. Replaced e path (d ∷ []) (37 ∷ [])) (sym (eqb-true c 37 is)) sign_at_end
      by false is = other c [] [] (λ same. true≢false (sym (ap (λ d. d == 37) same) ∙ is)) nothing
  pieces (c ∷ d ∷ script) = by (c == 37) refl (pieces (d ∷ script)) (pieces script)
    where
      by : (b : Bool) → (c == 37) ≡ b → Replaced e path (d ∷ script) (percents e path (d ∷ script)) → Replaced e path script (percents e path script)
          → Replaced e path (c ∷ d ∷ script) (cond b (formed e path d ++ replaced e path false script) (c ∷ replaced e path false (d ∷ script)))
      by true is rest behind = subst (λ s. Replaced e path (s ∷ d ∷ script) (formed e path d ++ replaced e path false script)) (sym (eqb-true c 37 is)) (form d script (percents e path script) behind)
      by false is rest behind = other c (d ∷ script) (percents e path (d ∷ script)) (λ same. true≢false (sym (ap (λ s. s == 37) same) ∙ is)) rest

pub replaced_so : (e : Event) (path script made : List ℕ) → Replaced e path script made ↔ (percents e path script ≡ made)
replaced_so e path script made = (made_so e path script made, λ is. subst (Replaced e path script) is (pieces e path script))
