-- What options say stays within limits where they are given texts that are; what follows on results of options.
use Rattle.std.proofs.Common.{◌≡◌, ℕ, Bool, true, false, true≢false, not, ◌||◌, if◌then◌else◌, List, [], ◌∷◌, codes, Option, Some, None, IfSome, Result, Ok, Err, IfOk, refl, sym, subst, ◌∙◌}
use Rattle.std.specs.List.{list_all}
use Rattle.std.proofs.lemmas.Bool.{and_parts, and_from}
use Rattle.std.proofs.lemmas.List.Folds.{list_all-map}
use denote.Enum.Bare.{same_true}
use Rattle.tks_text.specs.Text.{same_text}
use Rattle.tks_text.specs.declared.fault.ScriptFault.{ScriptFault}
use Rattle.tks_text.specs.declared.limits.Limits.{Limits}
use Rattle.tks_opt.specs.Calls.{are_pairs, cget_does, subcommand_does, with_subcommand, called}
use Rattle.tks_opt.specs.Options.{Options, same_name, value_in, or_unknown, value_of, values_in_order, replaced, had, after, accepted_as, with_value, configured}
use Rattle.tks_opt.specs.Table.{option_named, accepts}
use Rattle.tks_opt.specs.contracts.name.OptionName.{the_type}
use Rattle.tks_opt.specs.declared.name.OptionName.{OptionName}
use Rattle.tks_opt.specs.declared.name.OptionName.TheVariants as name
use Rattle.tks_opt.specs.declared.said.Said.{Said}
use Rattle.tks_button.specs.Sizes.{or_else, said_by}
use Rattle.tks_limits.specs.Within.{fits, texts_fit}
use Rattle.tks_keeping.proofs.Lists.{one_so, one_of, AllSo}
use Rattle.tks_keeping.proofs.Texts.{TextFits, empty_fits, other_words, TextsFit}

-- ---- what follows on a result

-- what follows has P, whatever it follows on
pub follows : {X Y : Type 0} (P : Y → Type 0) (r : Result X ScriptFault) (next : X → Result Y ScriptFault) → ((x : X) → IfOk (next x) P) → IfOk (after r next) P
follows P (Ok x) next h = h x
follows P (Err fault) next h = tt

-- the same, where what it follows on has Q
pub follows_on : {X Y : Type 0} (Q : X → Type 0) (P : Y → Type 0) (r : Result X ScriptFault) (next : X → Result Y ScriptFault) → IfOk r Q → ((x : X) → Q x → IfOk (next x) P)
    → IfOk (after r next) P
follows_on Q P (Ok x) next q h = h x q
follows_on Q P (Err fault) next q h = tt

-- what a whole command comes to has P, where each subcommand's outcome does with words that fit
pub whole_so : {X : Type 0} (limits : Limits) (P : X → Type 0) (words : List (List ℕ)) (does : List ℕ → List ℕ → List (List ℕ) → Result X ScriptFault)
    → TextsFit limits words → ((path name : List ℕ) (rest : List (List ℕ)) → TextsFit limits rest → IfOk (does path name rest) P) → IfOk (with_subcommand words does) P
whole_so limits P [] does w h = tt
whole_so limits P (path ∷ []) does w h = tt
whole_so limits P (path ∷ (name ∷ words)) does w h =
    h path name words (other_words limits name words (other_words limits path (name ∷ words) w))

-- ---- options

-- whether an option says a global's name
abbrev pub names_global : OptionName → Bool
names_global name.TextVariable = true
names_global name.Variable = true
names_global o = false

-- whether it is asked of an option, where it is asked of all, or of those alone that say a global's name
abbrev pub is_asked : Bool → OptionName → Bool
is_asked true o = true
is_asked false o = names_global o

-- it is asked of the option that says what a text is linked to
pub link_asked : (all : Bool) → is_asked all name.TextVariable ≡ true
link_asked true = refl
link_asked false = refl

-- and of the one that says what a checkbutton sets
pub switch_asked : (all : Bool) → is_asked all name.Variable ≡ true
switch_asked true = refl
switch_asked false = refl

module _ (limits : Limits) (all : Bool) where
  -- whether what an option says fits, if it is asked of that option
  abbrev pub says_fitting : OptionName × List ℕ → Bool
  says_fitting e = not (is_asked all e.0) || fits limits e.1

  -- what the options say of which it is asked fits
  abbrev pub OptionsFit : Options → Type 0
  OptionsFit t = AllSo says_fitting t.values

  -- the same of options that an answer stands beside
  abbrev pub CalledFits : Said × Options → Type 0
  CalledFits x = OptionsFit x.1

  given_fits : (o : OptionName) (value : List ℕ) → TextFits limits value → says_fitting (o, value) ≡ true
  given_fits o value h = by (is_asked all o)
    where
      by : (b : Bool) → (not b || fits limits value) ≡ true
      by true = h
      by false = refl

  asked_fits : (o : OptionName) (value : List ℕ) → is_asked all o ≡ true → says_fitting (o, value) ≡ true → TextFits limits value
  asked_fits o value is h = by (is_asked all o) is h
    where
      by : (b : Bool) → b ≡ true → (not b || fits limits value) ≡ true → TextFits limits value
      by true is h = h
      by false is h = absurd (true≢false (sym is))

  -- an option that says another text
  pub replaced_fit : (values : List (OptionName × List ℕ)) (o : OptionName) (value : List ℕ) → TextFits limits value → AllSo says_fitting values
      → AllSo says_fitting (replaced values o value)
  replaced_fit [] o value v h = refl
  replaced_fit (e ∷ values) o value v h =
      let both = and_parts (says_fitting e) (list_all says_fitting values) h in
      one_so (λ (es : List (OptionName × List ℕ)). AllSo says_fitting es) (same_name o e.0) ((e.0, value) ∷ values) (e ∷ replaced values o value)
      (and_from (says_fitting (e.0, value)) (list_all says_fitting values) (given_fits e.0 value v) both.1)
      (and_from (says_fitting e) (list_all says_fitting (replaced values o value)) both.0 (replaced_fit values o value v both.1))

  value_fits : (t : Options) (text value : List ℕ) → TextFits limits value → OptionsFit t → IfOk (with_value t text value) OptionsFit
  value_fits t text value v h =
      follows OptionsFit (or_unknown text (had t.values (option_named text))) (accepted_as t text value)
      (λ o. one_of OptionsFit (accepts t.class o value) _ _ (replaced_fit t.values o value v h) tt)

  -- `configure` with words that fit
  pub configured_fit : (t : Options) (pairs : List (List ℕ)) → TextsFit limits pairs → OptionsFit t → IfOk (configured t pairs) OptionsFit
  configured_fit t [] w h = h
  configured_fit t (text ∷ []) w h = h
  configured_fit t (text ∷ (value ∷ pairs)) w h =
      let both = and_parts (fits limits value) (texts_fit limits pairs) (other_words limits text (value ∷ pairs) w) in
      follows_on OptionsFit OptionsFit (with_value t text value) (λ u. configured u pairs) (value_fits t text value both.0 h) (λ u k. configured_fit u pairs both.1 k)

  -- ---- what they say

  -- the value of an option of which it is asked
  pub value_in_fits : (values : List (OptionName × List ℕ)) (o : OptionName) → is_asked all o ≡ true → AllSo says_fitting values → IfSome (value_in values o) (TextFits limits)
  value_in_fits [] o is h = tt
  value_in_fits (e ∷ values) o is h = by (same_name o e.0) refl (value_in_fits values o is both.1)
    where
      both : (says_fitting e ≡ true) × AllSo says_fitting values
      both = and_parts (says_fitting e) (list_all says_fitting values) h

      by : (b : Bool) → same_name o e.0 ≡ b → IfSome (value_in values o) (TextFits limits) → IfSome (if b then Some e.1 else value_in values o) (TextFits limits)
      by true same rest = asked_fits e.0 e.1 (subst (λ n. is_asked all n ≡ true) (same_true the_type _ o e.0 same) is) both.0
      by false other rest = rest

  -- the same, or nothing
  pub said_by_fits : (t : Options) (o : OptionName) → is_asked all o ≡ true → OptionsFit t → TextFits limits (said_by t o)
  said_by_fits t o is h = by (value_in t.values o) (value_in_fits t.values o is h)
    where
      by : (x : Option (List ℕ)) → IfSome x (TextFits limits) → TextFits limits (or_else [] x)
      by None k = empty_fits limits
      by (Some v) k = k

  -- an option that was made to say a text says it, or nothing
  pub said_again_fits : (values : List (OptionName × List ℕ)) (o : OptionName) (value : List ℕ) → TextFits limits value → TextFits limits (or_else [] (value_in (replaced values o value) o))
  said_again_fits [] o value v = empty_fits limits
  said_again_fits (e ∷ values) o value v = by (same_name o e.0) refl (said_again_fits values o value v)
    where
      by : (b : Bool) → same_name o e.0 ≡ b → TextFits limits (or_else [] (value_in (replaced values o value) o))
          → TextFits limits (or_else [] (value_in (if b then (e.0, value) ∷ values else e ∷ replaced values o value) o))
      by true same rest = subst (λ b. TextFits limits (or_else [] (if b then Some value else value_in values o))) (sym same) v
      by false other rest = subst (λ b. TextFits limits (or_else [] (if b then Some e.1 else value_in (replaced values o value) o))) (sym other) rest

  -- ---- commands

  cget_fits : (path : List ℕ) (words : List (List ℕ)) (t : Options) → OptionsFit t → IfOk (cget_does path words t) CalledFits
  cget_fits path [] t h = tt
  cget_fits path (name ∷ []) t h = follows CalledFits (value_of t name) _ (λ value. h)
  cget_fits path (name ∷ (other ∷ words)) t h = tt

  -- a subcommand that all widgets have
  pub subcommand_fits : (path name : List ℕ) (words : List (List ℕ)) (t : Options) → TextsFit limits words → OptionsFit t → IfOk (subcommand_does path name words t) CalledFits
  subcommand_fits path name words t w h =
      one_of CalledFits (same_text name (codes "configure")) _ _
      (one_of CalledFits (are_pairs words) _ _ (follows_on OptionsFit CalledFits (configured t words) _ (configured_fit t words w h) (λ u k. k)) tt)
      (one_of CalledFits (same_text name (codes "cget")) _ _ (cget_fits path words t h) tt)

  -- a whole command
  pub called_fits : (t : Options) (words : List (List ℕ)) → TextsFit limits words → OptionsFit t → IfOk (called t words) CalledFits
  called_fits t words w h = whole_so limits CalledFits words _ w (λ path name rest r. subcommand_fits path name rest t r h)

-- ---- all options

module _ (limits : Limits) where
  -- where all is asked, it is asked of the values
  pub all_fit : (t : Options) → TextsFit limits (values_in_order t) → OptionsFit limits true t
  all_fit t h = sym (list_all-map (fits limits) (λ (e : OptionName × List ℕ). e.1) t.values) ∙ h

  -- and the other way round
  pub values_fit : (t : Options) → OptionsFit limits true t → TextsFit limits (values_in_order t)
  values_fit t h = list_all-map (fits limits) (λ (e : OptionName × List ℕ). e.1) t.values ∙ h
