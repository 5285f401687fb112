-- The value that an option has after pairs were given.
use Rattle.std.proofs.Common.{◌≡◌, ℕ, Bool, true, false, if◌then◌else◌, List, [], ◌∷◌, Option, Some, None, Result, Ok, Err, refl, sym, ap, ◌∙◌}
use Rattle.std.specs.Prelude.{is_some}
use denote.Enum.Bare.{same_true, true_same}
use Rattle.tks_text.specs.Fault.{fault_about}
use Rattle.tks_text.specs.declared.fault.ErrorNumber.TheVariants.{BadValue}
use Rattle.tks_text.specs.declared.fault.ScriptFault.{ScriptFault}
use Rattle.tks_opt.specs.contracts.name.OptionName.{the_type}
use Rattle.tks_opt.specs.declared.name.OptionName.{OptionName}
use Rattle.tks_opt.specs.Table.{option_named, accepts}
use Rattle.tks_opt.specs.Options.{Options, same_name, value_in, named_value, or_unknown, value_of, replaced, had, after, accepted_as, with_value, configured}
use Rattle.tks_opt.specs.Laws.{words_of, name_one, or_else, last_value, given_or, LastWins}

same_as : (a b : OptionName) → same_name a b ≡ true → a ≡ b
same_as a b e = same_true the_type _ a b e

itself : (a : OptionName) → same_name a a ≡ true
itself a = true_same the_type a a refl

module _ (o : OptionName) (value : List ℕ) where
  -- the value that was put there
  put_step : (e : OptionName × List ℕ) (es : List (OptionName × List ℕ)) (b : Bool) → same_name o e.0 ≡ b → (is_some (value_in es o) ≡ true → value_in (replaced es o value) o ≡ Some value)
      → is_some (value_in (e ∷ es) o) ≡ true → value_in (replaced (e ∷ es) o value) o ≡ Some value
  put_step e es true is h there =
      ap (λ b. value_in (if b then (e.0, value) ∷ es else e ∷ replaced es o value) o) is ∙ ap (λ b. if b then Some value else value_in es o) is
  put_step e es false is h there =
      ap (λ b. value_in (if b then (e.0, value) ∷ es else e ∷ replaced es o value) o) is
      ∙ ap (λ b. if b then Some e.1 else value_in (replaced es o value) o) is
      ∙ h (sym (ap (λ b. is_some (if b then Some e.1 else value_in es o)) is) ∙ there)

  put_there : (es : List (OptionName × List ℕ)) → is_some (value_in es o) ≡ true → value_in (replaced es o value) o ≡ Some value
  put_there [] there = absurd cc
  put_there (e ∷ es) there = put_step e es (same_name o e.0) refl (put_there es) there

  -- the others stay
  module _ (q : OptionName) (other : same_name q o ≡ false) where
    apart_step : (e : OptionName × List ℕ) (es : List (OptionName × List ℕ)) (b : Bool) → same_name o e.0 ≡ b → value_in (replaced es o value) q ≡ value_in es q
        → value_in (replaced (e ∷ es) o value) q ≡ value_in (e ∷ es) q
    apart_step e es true is h =
        let not_it : same_name q e.0 ≡ false = ap (same_name q) (sym (same_as o e.0 is)) ∙ other in
        ap (λ b. value_in (if b then (e.0, value) ∷ es else e ∷ replaced es o value) q) is
        ∙ ap (λ b. if b then Some value else value_in es q) not_it
        ∙ sym (ap (λ b. if b then Some e.1 else value_in es q) not_it)
    apart_step e es false is h =
        ap (λ b. value_in (if b then (e.0, value) ∷ es else e ∷ replaced es o value) q) is
        ∙ ap (λ r. if same_name q e.0 then Some e.1 else r) h

    apart : (es : List (OptionName × List ℕ)) → value_in (replaced es o value) q ≡ value_in es q
    apart [] = refl
    apart (e ∷ es) = apart_step e es (same_name o e.0) refl (apart es)

-- ---- one pair

module _ (t u : Options) (text value name : List ℕ) where
  -- what is told of an option after another, or the same, was given a value
  told : (o : OptionName) (y : Option OptionName) → is_some (value_in t.values o) ≡ true → u.values ≡ replaced t.values o value
      → or_unknown name (named_value u.values y) ≡ given_or (if name_one y (Some o) then Some value else None) (or_unknown name (named_value t.values y))
  told o None there is = refl
  told o (Some q) there is = by (same_name q o) refl
    where
      by : (b : Bool) → same_name q o ≡ b
          → or_unknown name (value_in u.values q) ≡ given_or (if same_name q o then Some value else None) (or_unknown name (value_in t.values q))
      by true same =
          ap (λ es. or_unknown name (value_in es q)) is
          ∙ ap (λ x. or_unknown name (value_in (replaced t.values o value) x)) (same_as q o same)
          ∙ ap (or_unknown name) (put_there o value t.values there)
          ∙ sym (ap (λ b. given_or (if b then Some value else None) (or_unknown name (value_in t.values q))) same)
      by false other =
          ap (λ es. or_unknown name (value_in es q)) is
          ∙ ap (or_unknown name) (apart o value q other t.values)
          ∙ sym (ap (λ b. given_or (if b then Some value else None) (or_unknown name (value_in t.values q))) other)

  accepted_by : (o : OptionName) (b : Bool) → accepts t.class o value ≡ b → accepted_as t text value o ≡ Ok u → u.values ≡ replaced t.values o value
  accepted_by o true ok e = ap (λ (w : Options). w.values) (made (sym (ap (λ b. if b then Ok (record t { values = replaced t.values o value }) else Err (fault_about BadValue text)) ok) ∙ e))
    where
      made : ◌≡◌ {A = Result Options ScriptFault} (Ok (record t { values = replaced t.values o value })) (Ok u) → u ≡ record t { values = replaced t.values o value }
      made e = cc
  accepted_by o false ok e = absurd (none (sym (ap (λ b. if b then Ok (record t { values = replaced t.values o value }) else Err (fault_about BadValue text)) ok) ∙ e))
    where
      none : ◌≡◌ {A = Result Options ScriptFault} (Err (fault_about BadValue text)) (Ok u) → ⊥
      none e = cc

  had_by : (o : OptionName) (y : Option OptionName) (b : Bool) → is_some (value_in t.values o) ≡ b → after (or_unknown text (if b then Some o else None)) (accepted_as t text value) ≡ Ok u
      → or_unknown name (named_value u.values y) ≡ given_or (if name_one y (Some o) then Some value else None) (or_unknown name (named_value t.values y))
  had_by o y true there e = told o y there (accepted_by o _ refl e)
  had_by o y false there e = absurd cc

  set_by : (x y : Option OptionName) → after (or_unknown text (had t.values x)) (accepted_as t text value) ≡ Ok u
      → or_unknown name (named_value u.values y) ≡ given_or (if name_one y x then Some value else None) (or_unknown name (named_value t.values y))
  set_by None y e = absurd cc
  set_by (Some o) y e = had_by o y (is_some (value_in t.values o)) refl e

-- ---- all pairs

both_given : (l c : Option (List ℕ)) (r : Result (List ℕ) ScriptFault) → given_or l (given_or c r) ≡ given_or (or_else l c) r
both_given None c r = refl
both_given (Some value) c r = refl

pairs_step : (t u : Options) (p : List ℕ × List ℕ) (ps : List (List ℕ × List ℕ)) (name : List ℕ) (r : Result Options ScriptFault) → with_value t p.0 p.1 ≡ r
    → ((v : Options) → configured v (words_of ps) ≡ Ok u → value_of u name ≡ given_or (last_value (option_named name) ps) (value_of v name))
    → after r (λ v. configured v (words_of ps)) ≡ Ok u → value_of u name ≡ given_or (last_value (option_named name) (p ∷ ps)) (value_of t name)
pairs_step t u p ps name (Ok v) is h e =
    h v e
    ∙ ap (given_or (last_value (option_named name) ps)) (set_by t v p.0 p.1 name (option_named p.0) (option_named name) is)
    ∙ both_given (last_value (option_named name) ps) _ (value_of t name)
pairs_step t u p ps name (Err fault) is h e = absurd cc

by_pairs : (t u : Options) (ps : List (List ℕ × List ℕ)) (name : List ℕ) → configured t (words_of ps) ≡ Ok u → value_of u name ≡ given_or (last_value (option_named name) ps) (value_of t name)
by_pairs t u [] name e =
    let same : u ≡ t = cc in
    ap (λ (w : Options). value_of w name) same
by_pairs t u (p ∷ ps) name e = pairs_step t u p ps name (with_value t p.0 p.1) refl (λ v. by_pairs v u ps name) e

pub last_wins : (t u : Options) (pairs : List (List ℕ × List ℕ)) → LastWins t pairs u
last_wins t u pairs name e = by_pairs t u pairs name e
