-- The values of options, as the code keeps them.
use Rattle.std.proofs.Common.{◌≡◌, ℕ, Bool, true, false, cond, List, [], ◌∷◌, Option, Some, None, is_some, Result, Ok, Err, refl, sym, ap, subst, ◌∙◌, true≢false, if◌then◌else◌, ◌||◌}
use Rattle.std.specs.Prelude.{map}
use Rattle.std.specs.List.{AllByRecursion, list_any}
use Rattle.std.specs.Map.{lookup}
use Rattle.indexmap.specs.IndexMap.{insert_entry}
use Rattle.tks_text.specs.declared.class.Class.{Class}
use Rattle.tks_text.specs.declared.class.Class.TheVariants as class
use Rattle.tks_opt.specs.Table.{options_of, first_value, accepts, option_named}
use Rattle.tks_text.specs.Fault.{fault_about}
use Rattle.tks_text.specs.declared.fault.ErrorNumber.TheVariants.{BadValue}
use Rattle.tks_text.specs.declared.fault.ScriptFault.{ScriptFault}
use Rattle.tks_opt.specs.Options.{Options, Legal, same_name, has_option, value_in, replaced, first_options, had, after as then_set, or_unknown, accepted_as, with_value, configured}
use Rattle.tks_opt.specs.declared.name.OptionName.{OptionName}
use Rattle.tks_opt.specs.contracts.name.OptionName.{the_type}
use denote.Enum.Bare.{same_true}

pub looked_up : (o : OptionName) (es : List (OptionName × List ℕ)) → lookup (same_name o) es ≡ value_in es o
looked_up o [] = refl
looked_up o (e ∷ es) = ap (cond (same_name o e.0) (Some e.1)) (looked_up o es)

names_there : (o : OptionName) (es : List (OptionName × List ℕ)) → list_any (same_name o) (map (λ e. e.0) es) ≡ is_some (value_in es o)
names_there o [] = refl
names_there o (e ∷ es) = by (same_name o e.0) (names_there o es)
  where
    by : (b : Bool) → list_any (same_name o) (map (λ e. e.0) es) ≡ is_some (value_in es o)
        → (b || list_any (same_name o) (map (λ e. e.0) es)) ≡ is_some (if b then Some e.1 else value_in es o)
    by true ih = refl
    by false ih = ih

-- each option of the class has a value
pub own_there : (t : Options) (o : OptionName) → Legal t → has_option t.class o ≡ true → is_some (value_in t.values o) ≡ true
own_there t o legal h = sym (names_there o t.values) ∙ ap (list_any (same_name o)) legal.names ∙ h

-- an option that the class lacks has none
pub none_there : (t : Options) (o : OptionName) → Legal t → has_option t.class o ≡ false → value_in t.values o ≡ None
none_there t o legal h = by (value_in t.values o) (sym (names_there o t.values) ∙ ap (list_any (same_name o)) legal.names ∙ h)
  where
    by : (value : Option (List ℕ)) → is_some value ≡ false → value ≡ None
    by None lacks = refl
    by (Some value) lacks = absurd (true≢false lacks)

-- a value in the place of one that is there
pub put_there : (o : OptionName) (value : List ℕ) (es : List (OptionName × List ℕ)) → is_some (value_in es o) ≡ true → insert_entry same_name es o value ≡ replaced es o value
put_there o value [] h = absurd (true≢false (sym h))
put_there o value (e ∷ es) h = by (same_name o e.0) h (put_there o value es)
  where
    by : (b : Bool) → is_some (if b then Some e.1 else value_in es o) ≡ true → (is_some (value_in es o) ≡ true → insert_entry same_name es o value ≡ replaced es o value)
        → (if b then (e.0, value) ∷ es else e ∷ insert_entry same_name es o value) ≡ (if b then (e.0, value) ∷ es else e ∷ replaced es o value)
    by true h rest = refl
    by false h rest = ap (λ fs. e ∷ fs) (rest h)

same_names : (o : OptionName) (value : List ℕ) (es : List (OptionName × List ℕ)) → map (λ e. e.0) (replaced es o value) ≡ map (λ e. e.0) es
same_names o value [] = refl
same_names o value (e ∷ es) = by (same_name o e.0) (same_names o value es)
  where
    by : (b : Bool) → map (λ e. e.0) (replaced es o value) ≡ map (λ e. e.0) es → map (λ e. e.0) (if b then (e.0, value) ∷ es else e ∷ replaced es o value) ≡ e.0 ∷ map (λ e. e.0) es
    by true ih = refl
    by false ih = ap (λ os. e.0 ∷ os) ih

still_accepted : (c : Class) (o : OptionName) (value : List ℕ) (es : List (OptionName × List ℕ)) → accepts c o value ≡ true
    → AllByRecursion (λ e. accepts c e.0 e.1 ≡ true) es → AllByRecursion (λ e. accepts c e.0 e.1 ≡ true) (replaced es o value)
still_accepted c o value [] h all = tt
still_accepted c o value (e ∷ es) h all = by (same_name o e.0) refl (still_accepted c o value es h all.1)
  where
    by : (b : Bool) → same_name o e.0 ≡ b → AllByRecursion (λ e. accepts c e.0 e.1 ≡ true) (replaced es o value)
        → AllByRecursion (λ e. accepts c e.0 e.1 ≡ true) (if b then (e.0, value) ∷ es else e ∷ replaced es o value)
    by true same rest = (subst (λ p. accepts c p value ≡ true) (same_true the_type tt o e.0 same) h, all.1)
    by false same rest = (all.0, rest)

pub still_legal : (t : Options) (o : OptionName) (value : List ℕ) → Legal t → accepts t.class o value ≡ true → Legal (record t { values = replaced t.values o value })
still_legal t o value legal h = record {
  names = same_names o value t.values ∙ legal.names;
  accepted = still_accepted t.class o value t.values h legal.accepted;
}

-- a value in the place of one that is looked up, and of none
pub put_over : (o : OptionName) (value copy : List ℕ) (es after : List (OptionName × List ℕ)) (there : Bool) → there ≡ true → there ≡ is_some (lookup (same_name o) es) → copy ≡ value
    → after ≡ insert_entry same_name es o copy → after ≡ replaced es o value
put_over o value copy es after there found h same e =
    e ∙ ap (insert_entry same_name es o) same ∙ put_there o value es (ap is_some (sym (looked_up o es)) ∙ sym h ∙ found)

nothing_put : (o : OptionName) (value : List ℕ) (es : List (OptionName × List ℕ)) → is_some (value_in es o) ≡ false → replaced es o value ≡ es
nothing_put o value [] h = refl
nothing_put o value (e ∷ es) h = by (same_name o e.0) h (nothing_put o value es)
  where
    by : (b : Bool) → is_some (if b then Some e.1 else value_in es o) ≡ false → (is_some (value_in es o) ≡ false → replaced es o value ≡ es)
        → (if b then (e.0, value) ∷ es else e ∷ replaced es o value) ≡ e ∷ es
    by true h rest = absurd (true≢false h)
    by false h rest = ap (λ fs. e ∷ fs) (rest h)

pub not_put : (o : OptionName) (value : List ℕ) (es : List (OptionName × List ℕ)) (there : Bool) → there ≡ false → there ≡ is_some (lookup (same_name o) es) → replaced es o value ≡ es
not_put o value es there absent h = nothing_put o value es (ap is_some (sym (looked_up o es)) ∙ sym h ∙ absent)

-- options put in one after the other, each with its first value
abbrev pub filled : Class → List ℕ → List (OptionName × List ℕ) → List OptionName → List (OptionName × List ℕ)
filled c path es [] = es
filled c path es (o ∷ os) = filled c path (insert_entry same_name es o (first_value c path o)) os

pub filled_all : (c : Class) (path : List ℕ) → filled c path [] (options_of c) ≡ (first_options c path).values
filled_all class.Root path = refl
filled_all class.Frame path = refl
filled_all class.Label path = refl
filled_all class.Button path = refl
filled_all class.Checkbutton path = refl
filled_all class.Entry path = refl
filled_all class.Listbox path = refl
filled_all class.Text path = refl

names_first : (c : Class) (path : List ℕ) (os : List OptionName) → map (λ (e : OptionName × List ℕ). e.0) (map (λ o. (o, first_value c path o)) os) ≡ os
names_first c path [] = refl
names_first c path (o ∷ os) = ap (λ ps. o ∷ ps) (names_first c path os)

first_accepted : (c : Class) (path : List ℕ) → AllByRecursion (λ e. accepts c e.0 e.1 ≡ true) (first_options c path).values
first_accepted class.Root path = (refl, (refl, (refl, (refl, (refl, (refl, (refl, (refl, tt))))))))
first_accepted class.Frame path = (refl, (refl, (refl, (refl, (refl, (refl, (refl, (refl, tt))))))))
first_accepted class.Label path = (refl, (refl, (refl, (refl, (refl, (refl, (refl, (refl, (refl, (refl, tt))))))))))
first_accepted class.Button path = (refl, (refl, (refl, (refl, (refl, (refl, (refl, (refl, (refl, (refl, (refl, (refl, tt))))))))))))
first_accepted class.Checkbutton path = (refl, (refl, (refl, (refl, (refl, (refl, (refl, (refl, (refl, (refl, (refl, (refl, (refl, (refl, (refl, tt)))))))))))))))
first_accepted class.Entry path = (refl, (refl, (refl, (refl, (refl, (refl, (refl, (refl, (refl, (refl, tt))))))))))
first_accepted class.Listbox path = (refl, (refl, (refl, (refl, (refl, (refl, (refl, (refl, (refl, (refl, tt))))))))))
first_accepted class.Text path = (refl, (refl, (refl, (refl, (refl, (refl, (refl, (refl, (refl, (refl, tt))))))))))

pub first_legal : (c : Class) (path : List ℕ) → Legal (first_options c path)
first_legal c path = record { names = names_first c path (options_of c); accepted = first_accepted c path }

-- ---- the option that a text names

abbrev from_some : OptionName → Option OptionName → OptionName
from_some p None = p
from_some p (Some o) = o

had_there : (values : List (OptionName × List ℕ)) (o : OptionName) (there : Bool) → is_some (value_in values o) ≡ there → had values (Some o) ≡ (if there then Some o else None)
had_there values o there h = ap (λ (b : Bool). if b then Some o else None) h

-- by a look-up of its value among those kept
pub had_kept : (t : Options) (kept : List (OptionName × List ℕ)) (o : OptionName) (r : Option OptionName) (there : Bool) → kept ≡ t.values → Some o ≡ r
    → there ≡ is_some (lookup (same_name o) kept) → had t.values r ≡ (if there then Some o else None)
had_kept t kept o r there k e h =
    ap (had t.values) (sym e)
    ∙ had_there t.values o there (ap (λ es. is_some (value_in es o)) (sym k) ∙ ap is_some (sym (looked_up o kept)) ∙ sym h)

had_is : (values : List (OptionName × List ℕ)) (r : Option OptionName) (o : OptionName) → Some o ≡ had values r → is_some (value_in values o) ≡ true
had_is values None o h = absurd (true≢false (ap is_some h))
had_is values (Some p) o h = by (is_some (value_in values p)) refl h
  where
    by : (b : Bool) → is_some (value_in values p) ≡ b → Some o ≡ (if b then Some p else None) → is_some (value_in values o) ≡ true
    by true e h = ap (λ q. is_some (value_in values (from_some p q))) h ∙ e
    by false e h = absurd (true≢false (ap is_some h))

-- what is kept after a value was put in
pub put_as : (kept after : List (OptionName × List ℕ)) (t : Options) (text value copy : List ℕ) (o : OptionName) → kept ≡ t.values → Some o ≡ had t.values (option_named text)
    → copy ≡ value → after ≡ insert_entry same_name kept o copy → after ≡ replaced t.values o value
put_as kept after t text value copy o k h c e =
    e ∙ (λ i. insert_entry same_name (k i) o (c i)) ∙ put_there o value t.values (had_is t.values (option_named text) o h)

pub set_to : (t : Options) (text value : List ℕ) (o : OptionName) → Some o ≡ had t.values (option_named text) → accepts t.class o value ≡ true
    → with_value t text value ≡ Ok (record t { values = replaced t.values o value })
set_to t text value o h agreed =
    ap (λ r. then_set (or_unknown text r) (accepted_as t text value)) (sym h)
    ∙ ap (λ (b : Bool). if b then Ok (record t { values = replaced t.values o value }) else Err (fault_about BadValue text)) agreed

-- a pair of words, and those behind it
pub one_pair : (t u : Options) (rest behind more : List (List ℕ)) (text value : List ℕ) → rest ≡ text ∷ behind → behind ≡ value ∷ more → with_value t text value ≡ Ok u
    → configured u more ≡ configured t rest
one_pair t u rest behind more text value r b h =
    sym (ap (configured t) (r ∙ ap (λ ws. text ∷ ws) b) ∙ ap (λ x. then_set x (λ v. configured v more)) h)

-- ---- the class stays

abbrev SameClass : Options → Result Options ScriptFault → Type 0
SameClass t (Ok u) = u.class ≡ t.class
SameClass t (Err fault) = Unit {0}

accepted_class : (t : Options) (text value : List ℕ) (o : OptionName) → SameClass t (accepted_as t text value o)
accepted_class t text value o = by (accepts t.class o value)
  where
    by : (b : Bool) → SameClass t (if b then Ok (record t { values = replaced t.values o value }) else Err (fault_about BadValue text))
    by true = refl
    by false = tt

value_class : (t : Options) (text value : List ℕ) → SameClass t (with_value t text value)
value_class t text value = by (had t.values (option_named text))
  where
    by : (o : Option OptionName) → SameClass t (then_set (or_unknown text o) (accepted_as t text value))
    by None = tt
    by (Some o) = accepted_class t text value o

same_along : (t u : Options) (r : Result Options ScriptFault) → u.class ≡ t.class → SameClass u r → SameClass t r
same_along t u (Ok v) first next = next ∙ first
same_along t u (Err fault) first next = tt

configured_class : (t : Options) (pairs : List (List ℕ)) → SameClass t (configured t pairs)
configured_class t [] = refl
configured_class t (text ∷ []) = refl
configured_class t (text ∷ value ∷ pairs) = by (with_value t text value) (value_class t text value) (λ u. configured_class u pairs)
  where
    by : (r : Result Options ScriptFault) → SameClass t r → ((u : Options) → SameClass u (configured u pairs)) → SameClass t (then_set r (λ u. configured u pairs))
    by (Err fault) same rest = tt
    by (Ok u) same rest = same_along t u (configured u pairs) same (rest u)

pub same_class : (t u : Options) (pairs : List (List ℕ)) → configured t pairs ≡ Ok u → u.class ≡ t.class
same_class t u pairs h = subst (SameClass t) h (configured_class t pairs)
