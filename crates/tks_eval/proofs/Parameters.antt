-- The parameters of a procedure are read as their grammar says.
use Rattle.std.proofs.Common.{◌≡◌, ℕ, Bool, true, false, ◌||◌, not, if◌then◌else◌, List, [], ◌∷◌, ◌++◌, length, Option, Some, None, Result, Ok, Err, refl, sym, ap, subst, ◌∙◌, append_assoc}
use Rattle.std.specs.Prelude.{◌==◌}
use Rattle.std.proofs.lemmas.List.{append-nil}
use Rattle.tks_list.specs.ListText.{Splits}
use Rattle.tks_list.specs.Reading.{list_of}
use Rattle.tks_list.proofs.Told.{splits_one}
use Rattle.tks_vars.specs.Names.{named, is_whole}
use Rattle.tks_vars.specs.declared.procedure.Parameter.{Parameter}
use Rattle.tks_tcl.specs.Cause.{Cause, after}
use Rattle.tks_tcl.specs.Words.{list_read, list_in}
use Rattle.tks_eval.specs.Grammar.{NamesParameter, SaysParameter, SayParameters, ReadsParameters}
use Rattle.tks_eval.specs.Procedures.{bad_parameters, parameter_named, parameter, parameters, parameters_in}

ok_same : {X E : Type 0} {x y : X} → ◌≡◌ {A = Result X E} (Ok x) (Ok y) → x ≡ y
ok_same {x = x} e = ap (λ r. elim r as (λ _. _) [ Ok z ↦ z | Err why ↦ x ]) e

-- ---- lists

listed : (text : List ℕ) (texts : List (List ℕ)) → Splits text texts → list_in text ≡ Ok texts
listed text texts h = ap list_read ((splits_one text texts).0 h)

list_told : (text : List ℕ) (texts : List (List ℕ)) → list_in text ≡ Ok texts → Splits text texts
list_told text texts e = by (list_of text) refl e
  where
    by : (o : Option (List (List ℕ))) → list_of text ≡ o → list_read o ≡ Ok texts → Splits text texts
    by (Some l) is h = (splits_one text texts).1 (is ∙ ap Some (ok_same h))
    by None is h = absurd cc

-- ---- one parameter

name_read : (procedure name : List ℕ) (default : Option (List ℕ)) → NamesParameter name → parameter_named procedure name default ≡ Ok (record { name = name; default = default })
name_read procedure name default n =
    let made : Result Parameter Cause = Ok (record { name = name; default = default }) in
    ap (λ b. if b || not (is_whole (named name)) then bad_parameters procedure else made) n.some
    ∙ ap (λ b. if not b then bad_parameters procedure else made) n.whole

name_told : (procedure name : List ℕ) (default : Option (List ℕ)) (p : Parameter) → parameter_named procedure name default ≡ Ok p → NamesParameter name × (p ≡ record { name = name; default = default })
name_told procedure name default p e = by (length name == 0) refl (is_whole (named name)) refl e
  where
    by : (a : Bool) → (length name == 0) ≡ a → (b : Bool) → is_whole (named name) ≡ b → (if a || not b then bad_parameters procedure else Ok (record { name = name; default = default })) ≡ Ok p
        → NamesParameter name × (p ≡ record { name = name; default = default })
    by true x b y h = absurd cc
    by false x false y h = absurd cc
    by false x true y h = (record { some = x; whole = y }, sym (ok_same h))

one_read : (procedure text : List ℕ) (p : Parameter) → SaysParameter text p → after (list_in text) (parameter procedure) ≡ Ok p
one_read procedure _ _ (SaysParameter.alone text name s n) = ap (λ r. after r (parameter procedure)) (listed text (name ∷ []) s) ∙ name_read procedure name None n
one_read procedure _ _ (SaysParameter.with_default text name default s n) = ap (λ r. after r (parameter procedure)) (listed text (name ∷ default ∷ []) s) ∙ name_read procedure name (Some default) n

fields_told : (procedure text : List ℕ) (fields : List (List ℕ)) (p : Parameter) → Splits text fields → parameter procedure fields ≡ Ok p → SaysParameter text p
fields_told procedure text [] p s e = absurd cc
fields_told procedure text (name ∷ []) p s e = let h = name_told procedure name None p e in subst (λ q. SaysParameter text q) (sym h.1) (SaysParameter.alone text name s h.0)
fields_told procedure text (name ∷ default ∷ []) p s e = let h = name_told procedure name (Some default) p e in subst (λ q. SaysParameter text q) (sym h.1) (SaysParameter.with_default text name default s h.0)
fields_told procedure text (name ∷ default ∷ more ∷ fields) p s e = absurd cc

-- ---- all of them

all_read : (procedure : List ℕ) (made : List Parameter) (texts : List (List ℕ)) (ps : List Parameter) → SayParameters texts ps → parameters procedure made texts ≡ Ok (made ++ ps)
all_read procedure made _ _ SayParameters.none = ap Ok (sym (append-nil made))
all_read procedure made _ _ (SayParameters.more text texts p ps one rest) =
    first (list_in text) (one_read procedure text p one) ∙ all_read procedure (made ++ p ∷ []) texts ps rest ∙ ap Ok (append_assoc made (p ∷ []) ps)
  where
    then_more : (r : Result Parameter Cause) → r ≡ Ok p → after r (λ q. parameters procedure (made ++ q ∷ []) texts) ≡ parameters procedure (made ++ p ∷ []) texts
    then_more r e = ap (λ x. after x (λ q. parameters procedure (made ++ q ∷ []) texts)) e

    first : (r : Result (List (List ℕ)) Cause) → after r (parameter procedure) ≡ Ok p
        → after r (λ fields. after (parameter procedure fields) (λ q. parameters procedure (made ++ q ∷ []) texts)) ≡ parameters procedure (made ++ p ∷ []) texts
    first (Ok fields) e = then_more (parameter procedure fields) e
    first (Err cause) e = absurd cc

-- what these texts say behind those that were made
pub record Further (made : List Parameter) (texts : List (List ℕ)) (ps : List Parameter) : Type 0 where
  pub more : List Parameter
  pub are : ps ≡ made ++ more
  pub said : SayParameters texts more

one_further : (made : List Parameter) (text : List ℕ) (texts : List (List ℕ)) (p : Parameter) (ps : List Parameter) → SaysParameter text p → Further (made ++ p ∷ []) texts ps → Further made (text ∷ texts) ps
one_further made text texts p ps one rest =
    record { more = p ∷ rest.more; are = rest.are ∙ append_assoc made (p ∷ []) rest.more; said = SayParameters.more text texts p rest.more one rest.said }

all_told : (procedure : List ℕ) (made : List Parameter) (texts : List (List ℕ)) (ps : List Parameter) → parameters procedure made texts ≡ Ok ps → Further made texts ps
all_told procedure made [] ps e = record { more = []; are = sym (ok_same e) ∙ sym (append-nil made); said = SayParameters.none }
all_told procedure made (text ∷ texts) ps e = at (list_in text) refl e (λ p h. all_told procedure (made ++ p ∷ []) texts ps h)
  where
    one : (fields : List (List ℕ)) → Splits text fields → (r : Result Parameter Cause) → parameter procedure fields ≡ r → after r (λ p. parameters procedure (made ++ p ∷ []) texts) ≡ Ok ps
        → ((p : Parameter) → parameters procedure (made ++ p ∷ []) texts ≡ Ok ps → Further (made ++ p ∷ []) texts ps) → Further made (text ∷ texts) ps
    one fields s (Ok p) is h rest = one_further made text texts p ps (fields_told procedure text fields p s is) (rest p h)
    one fields s (Err cause) is h rest = absurd cc

    at : (r : Result (List (List ℕ)) Cause) → list_in text ≡ r → after r (λ fields. after (parameter procedure fields) (λ p. parameters procedure (made ++ p ∷ []) texts)) ≡ Ok ps
        → ((p : Parameter) → parameters procedure (made ++ p ∷ []) texts ≡ Ok ps → Further (made ++ p ∷ []) texts ps) → Further made (text ∷ texts) ps
    at (Ok fields) is h rest = one fields (list_told text fields is) (parameter procedure fields) refl h rest
    at (Err cause) is h rest = absurd cc

read : (procedure text : List ℕ) (ps : List Parameter) → (texts : List (List ℕ)) × Splits text texts × SayParameters texts ps → parameters_in procedure text ≡ Ok ps
read procedure text ps h = ap (λ r. after r (parameters procedure [])) (listed text h.0 h.1) ∙ all_read procedure [] h.0 ps h.2

told : (procedure text : List ℕ) (ps : List Parameter) → parameters_in procedure text ≡ Ok ps → (texts : List (List ℕ)) × Splits text texts × SayParameters texts ps
told procedure text ps e = by (list_in text) refl e
  where
    by : (r : Result (List (List ℕ)) Cause) → list_in text ≡ r → after r (parameters procedure []) ≡ Ok ps → (texts : List (List ℕ)) × Splits text texts × SayParameters texts ps
    by (Ok texts) is h = let all = all_told procedure [] texts ps h in (texts, list_told text texts is, subst (λ qs. SayParameters texts qs) (sym all.are) all.said)
    by (Err cause) is h = absurd cc

pub reads_parameters : ReadsParameters
reads_parameters procedure text ps = (told procedure text ps, read procedure text ps)
