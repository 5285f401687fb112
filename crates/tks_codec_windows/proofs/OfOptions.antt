-- What holds of the spellings of options.
use Rattle.std.proofs.Common.{◌≡◌, ◌⊎◌, inl, inr, ℕ, suc, ◌<◌, ◌≤◌, get_or, Ok, Err, slice_get, Bool, true, false, List, length, Option, Some, None, refl, sym, ap, ◌∙◌, if◌then◌else◌, arith}
use Rattle.tks_text.specs.declared.class.Class.{Class}
use Rattle.tks_opt.specs.Options.{Options, Legal, values_in_order, restored}
use Rattle.tks_opt.proofs.Restored.{made, kept_restored, restored_has}
use Rattle.std.proofs.lemmas.Option.{slice_get_cases, get_or_from_slice_get}
use Rattle.tks_spelling.specs.Spelling.{Read, Lawful, texts, such_that, passed, ◌>>=◌}
use Rattle.tks_spelling.proofs.EachKind.{test_lawful, through_lawful, texts_lawful}
use Rattle.tks_codec_windows.specs.Options.{are_of, with_values, options}

values_told : (c : Class) (values : List (List ℕ)) → (such_that (are_of c) texts).Legal values → values_in_order (with_values c values) ≡ values
values_told c values h = (restored_has c values (with_values c values) (made c values h.1)).1

pub options_lawful : (c : Class) → Lawful (options c)
options_lawful c = through_lawful values_in_order (with_values c) (such_that (are_of c) texts) (values_told c) (test_lawful (are_of c) texts (λ v h. omega arith) texts_lawful)

-- options that are lawful have values that make them
abbrev Makes : Options → Bool → Type 0
Makes t b = (if b then Some (with_values t.class (values_in_order t)) else None) ≡ Some t → (b ≡ true) × (t ≡ with_values t.class (values_in_order t))

abbrev or_these : Options → Option Options → Options
or_these t None = t
or_these t (Some u) = u

makes : (t : Options) (b : Bool) → Makes t b
makes t true e = (refl, sym (ap (or_these t) e))
makes t false e = absurd cc

pub options_legal : (t : Options) → Legal t → texts.Legal (values_in_order t) → (options t.class).Legal t
options_legal t legal values = let m = makes t (are_of t.class (values_in_order t)) (kept_restored t legal) in ((values, m.0), m.1)

-- options of values that were read
abbrev made_of : Class → List (List ℕ) × List ℕ → Read Options
made_of c found = Ok (with_values c found.0, found.1)

abbrev behind_values : Class → Read (List (List ℕ)) → Read Options
behind_values c read = (read >>= passed (are_of c)) >>= made_of c

-- where such values are read, so are the options
pub read_some : (c : Class) (bytes : List ℕ) (values : List (List ℕ)) (rest : List ℕ) (t : Options) → texts.read bytes ≡ Ok (values, rest) → restored c values ≡ Some t → (options c).read bytes ≡ Ok (t, rest)
read_some c bytes values rest t e h = ap (behind_values c) e ∙ with_test (are_of c values) h
  where
    with_test : (b : Bool) → (if b then Some (with_values c values) else None) ≡ Some t → ((if b then Ok (values, rest) else Err (suc (length rest))) >>= made_of c) ≡ Ok (t, rest)
    with_test true h = ap (λ u. Ok (or_these t u, rest)) h
    with_test false h = absurd cc

some_is_there : {X : Type 0} {x : X} {A : Type 0} → Some x ≡ None → A
some_is_there e = absurd cc

-- an item that stands in a place
pub in_place : {X : Type 0} (xs : List X) (i : ℕ) (x : X) → slice_get xs i ≡ Some x → (i < length xs) × (x ≡ get_or xs i x)
in_place {X = X} xs i x e = by (slice_get_cases xs i).1
  where
    by : ((y : X) × (i < length xs) × (slice_get xs i ≡ Some y) × (get_or xs i y ≡ y)) ⊎ ((length xs ≤ i) × (slice_get xs i ≡ None)) → (i < length xs) × (x ≡ get_or xs i x)
    by (inl (y, lt, f, g)) = (lt, sym (get_or_from_slice_get xs i x x e))
    by (inr (le, f)) = some_is_there (sym e ∙ f)
