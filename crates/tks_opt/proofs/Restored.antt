-- Options that are made again from their values.
use Rattle.std.proofs.Common.{◌≡◌, ℕ, ◌+◌, arith, length, Bool, true, false, not, List, [], ◌∷◌, ◌++◌, Option, Some, None, refl, sym, ap, subst, ◌∙◌, true≢false, if◌then◌else◌, ◌||◌, ◌&&◌}
use Rattle.std.specs.Prelude.{map}
use Rattle.std.specs.List.{AllByRecursion, list_any, zip}
use Rattle.std.proofs.lemmas.List.{append_assoc, append-nil, map-append}
use Rattle.indexmap.specs.IndexMap.{insert_entry, insert_all}
use Rattle.tks_text.specs.declared.class.Class.{Class}
use Rattle.tks_text.specs.declared.class.Class.TheVariants as class
use Rattle.tks_opt.specs.Table.{options_of, accepts}
use Rattle.tks_opt.specs.Options.{Options, Legal, same_name, values_in_order, are_values, restored}
use Rattle.tks_opt.specs.declared.name.OptionName.{OptionName}

-- ---- put in one after the other

-- whether none of the names is among those before, nor before itself
abbrev fresh : List OptionName → List OptionName → Bool
fresh seen [] = true
fresh seen (o ∷ os) = not (list_any (same_name o) seen) && fresh (seen ++ o ∷ []) os

fresh_names : (c : Class) → fresh [] (options_of c) ≡ true
fresh_names class.Root = refl
fresh_names class.Frame = refl
fresh_names class.Label = refl
fresh_names class.Button = refl
fresh_names class.Checkbutton = refl
fresh_names class.Entry = refl
fresh_names class.Listbox = refl
fresh_names class.Text = refl

put_last : (o : OptionName) (value : List ℕ) (es : List (OptionName × List ℕ)) → not (list_any (same_name o) (map (λ e. e.0) es)) ≡ true
    → insert_entry same_name es o value ≡ es ++ (o, value) ∷ []
put_last o value [] h = refl
put_last o value (e ∷ es) h = by (same_name o e.0) h (put_last o value es)
  where
    by : (b : Bool) → not (b || list_any (same_name o) (map (λ e. e.0) es)) ≡ true
        → (not (list_any (same_name o) (map (λ e. e.0) es)) ≡ true → insert_entry same_name es o value ≡ es ++ (o, value) ∷ [])
        → (if b then (e.0, value) ∷ es else e ∷ insert_entry same_name es o value) ≡ e ∷ (es ++ (o, value) ∷ [])
    by true h rest = absurd (true≢false (sym h))
    by false h rest = ap (λ fs. e ∷ fs) (rest h)

-- the two facts of a test of both
first_true : (a b : Bool) → (a && b) ≡ true → a ≡ true
first_true true b h = refl
first_true false b h = absurd (true≢false (sym h))

second_true : (a b : Bool) → (a && b) ≡ true → b ≡ true
second_true true b h = h
second_true false b h = absurd (true≢false (sym h))

put_all : (os : List OptionName) (values : List (List ℕ)) (es : List (OptionName × List ℕ)) → fresh (map (λ e. e.0) es) os ≡ true
    → insert_all same_name es (zip os values) ≡ es ++ zip os values
put_all [] values es h = sym (append-nil es)
put_all (o ∷ os) [] es h = sym (append-nil es)
put_all (o ∷ os) (value ∷ values) es h =
    ap (λ fs. insert_all same_name fs (zip os values)) (put_last o value es (first_true _ _ h))
    ∙ put_all os values (es ++ (o, value) ∷ []) (ap (λ ns. fresh ns os) (map-append (λ (e : OptionName × List ℕ). e.0) es ((o, value) ∷ [])) ∙ second_true _ _ h)
    ∙ append_assoc es ((o, value) ∷ []) (zip os values)

-- what is kept of the options of a class with values
pub kept_values : (c : Class) (values : List (List ℕ)) → insert_all same_name [] (zip (options_of c) values) ≡ zip (options_of c) values
kept_values c values = put_all (options_of c) values [] (fresh_names c)

-- one more put in
pub one_put : (o : OptionName) (value : List ℕ) (names behind : List OptionName) (values more : List (List ℕ)) (es after : List (OptionName × List ℕ))
    → names ≡ o ∷ behind → values ≡ value ∷ more → after ≡ insert_entry same_name es o value
    → insert_all same_name after (zip behind more) ≡ insert_all same_name es (zip names values)
one_put o value names behind values more es after n v e = rw (n, v, e) refl

-- nothing more to put in
pub no_names : (names : List OptionName) (values : List (List ℕ)) (es : List (OptionName × List ℕ)) → names ≡ [] → es ≡ insert_all same_name es (zip names values)
no_names names values es n = sym (ap (λ os. insert_all same_name es (zip os values)) n)

pub no_values : (names : List OptionName) (values : List (List ℕ)) (es : List (OptionName × List ℕ)) → values ≡ [] → es ≡ insert_all same_name es (zip names values)
no_values names values es v = sym (ap (λ vs. insert_all same_name es (zip names vs)) v ∙ by names)
  where
    by : (os : List OptionName) → insert_all same_name es (zip os []) ≡ es
    by [] = refl
    by (o ∷ os) = refl

-- a list that became shorter by one
pub one_fewer : {X : Type 0} {x : X} {old new : List X} {m n : ℕ} → old ≡ x ∷ new → n + 1 ≡ m → m ≡ length old → n ≡ length new
one_fewer o e h = omega (arith, h, e, ap length o)

-- an option without a value
pub too_few : {o : OptionName} {os behind : List OptionName} (c : Class) (values : List (List ℕ)) → os ≡ o ∷ behind → values ≡ [] → false ≡ are_values c os values
too_few c values n v = rw (n, v) refl

-- ---- what is made is lawful, and what is lawful is made

values_have_names : (c : Class) (os : List OptionName) (values : List (List ℕ)) → are_values c os values ≡ true → map (λ (e : OptionName × List ℕ). e.0) (zip os values) ≡ os
values_have_names c [] values h = refl
values_have_names c (o ∷ os) [] h = absurd (true≢false (sym h))
values_have_names c (o ∷ os) (value ∷ values) h = ap (λ ns. o ∷ ns) (values_have_names c os values (second_true _ _ h))

values_stay : (c : Class) (os : List OptionName) (values : List (List ℕ)) → are_values c os values ≡ true → map (λ (e : OptionName × List ℕ). e.1) (zip os values) ≡ values
values_stay c [] [] h = refl
values_stay c [] (value ∷ values) h = absurd (true≢false (sym h))
values_stay c (o ∷ os) [] h = absurd (true≢false (sym h))
values_stay c (o ∷ os) (value ∷ values) h = ap (λ vs. value ∷ vs) (values_stay c os values (second_true _ _ h))

values_accepted : (c : Class) (os : List OptionName) (values : List (List ℕ)) → are_values c os values ≡ true → AllByRecursion (λ e. accepts c e.0 e.1 ≡ true) (zip os values)
values_accepted c [] values h = tt
values_accepted c (o ∷ os) [] h = tt
values_accepted c (o ∷ os) (value ∷ values) h = (first_true _ _ h, values_accepted c os values (second_true _ _ h))

pub made_legal : (c : Class) (values : List (List ℕ)) → are_values c (options_of c) values ≡ true → Legal (record { class = c; values = zip (options_of c) values })
made_legal c values h = record { names = values_have_names c (options_of c) values h; accepted = values_accepted c (options_of c) values h }

pub made : (c : Class) (values : List (List ℕ)) → are_values c (options_of c) values ≡ true → restored c values ≡ Some (record { class = c; values = zip (options_of c) values })
made c values h = ap (λ (b : Bool). if b then Some (record { class = c; values = zip (options_of c) values }) else None) h

kept_are_values : (c : Class) (es : List (OptionName × List ℕ)) → AllByRecursion (λ e. accepts c e.0 e.1 ≡ true) es → are_values c (map (λ e. e.0) es) (map (λ e. e.1) es) ≡ true
kept_are_values c [] all = refl
kept_are_values c (e ∷ es) all = ap (λ b. b && are_values c (map (λ e. e.0) es) (map (λ e. e.1) es)) all.0 ∙ kept_are_values c es all.1

zip_back : (es : List (OptionName × List ℕ)) → zip (map (λ e. e.0) es) (map (λ e. e.1) es) ≡ es
zip_back [] = refl
zip_back (e ∷ es) = ap (λ fs. e ∷ fs) (zip_back es)

-- ---- the laws

pub kept_restored : (t : Options) → Legal t → restored t.class (values_in_order t) ≡ Some t
kept_restored t legal =
    ap (λ os. if are_values t.class os (values_in_order t) then Some (record { class = t.class; values = zip os (values_in_order t) }) else None) (sym legal.names)
    ∙ ap (λ (b : Bool). if b then Some (record { class = t.class; values = zip (map (λ e. e.0) t.values) (values_in_order t) }) else None) (kept_are_values t.class t.values legal.accepted)
    ∙ ap (λ es. Some (record { class = t.class; values = es })) (zip_back t.values)

-- what is told of options that were made again
abbrev Told : Class → List (List ℕ) → Option Options → Type 0
Told c values None = Unit {0}
Told c values (Some t) = (t.class ≡ c) × (values_in_order t ≡ values) × Legal t

told : (c : Class) (values : List (List ℕ)) → Told c values (restored c values)
told c values = by (are_values c (options_of c) values) refl
  where
    by : (b : Bool) → are_values c (options_of c) values ≡ b → Told c values (if b then Some (record { class = c; values = zip (options_of c) values }) else None)
    by true h = (refl, values_stay c (options_of c) values h, made_legal c values h)
    by false h = tt

pub restored_has : (c : Class) (values : List (List ℕ)) (t : Options) → restored c values ≡ Some t → (t.class ≡ c) × (values_in_order t ≡ values) × Legal t
restored_has c values t h = subst (Told c values) h (told c values)
