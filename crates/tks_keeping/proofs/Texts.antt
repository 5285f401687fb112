-- Texts and counts within limits, the elements of lists, and what follows on results.
use Rattle.std.proofs.Common.{◌≡◌, ℕ, ◌+◌, ◌≤◌, Bool, true, if◌then◌else◌, List, [], ◌∷◌, ◌++◌, length, take, drop, filter, nat_le, nat_lt, ◌&&◌, Option, Some, None, Result, Ok, Err, IfOk, refl, ap, ◌∙◌, leb-true, le-leb, ltb-true, arith}
use Rattle.std.specs.List.{list_all}
use Rattle.std.proofs.lemmas.Bool.{and_from, and_parts}
use Rattle.std.proofs.lemmas.List.{length-append, length-drop, length-take}
use Rattle.tks_share.proofs.AtPlace.{no_more}
use Rattle.tks_text.specs.Limits.{fits}
use Rattle.tks_text.specs.declared.fault.ScriptFault.{ScriptFault}
use Rattle.tks_text.specs.declared.limits.Limits.{Limits}
use Rattle.tks_list.specs.ListText.{CharsThen, no_char, char, escaped, ElementThen, braced, in_quotes, bare, Splits}
use Rattle.tks_list.specs.Reading.{list_of}
use Rattle.tks_list.specs.declared.ends.Ends.{Ends}
use Rattle.tks_list.specs.declared.ends.Ends.TheVariants.{Space, Quote}
use Rattle.tks_list.proofs.Told.{splits_one}
use Rattle.tks_tcl.specs.Cause.{Cause, OverLimit, value_or_fault, within}
use Rattle.tks_tcl.specs.Words.{list_read, list_in}
use Rattle.tks_limits.specs.Within.{may_hold, texts_fit}
use Rattle.tks_keeping.proofs.Lists.{one_where, filtered_so}

-- ---- what follows on results

-- what all values have, whatever the result is
pub whatever : {X E : Type 0} (P : X → Type 0) (r : Result X E) → ((x : X) → P x) → IfOk r P
whatever P (Ok x) h = h x
whatever P (Err e) h = tt

-- an error of a script is one of a command
pub value_so : {X : Type 0} (P : X → Type 0) (r : Result X ScriptFault) → IfOk r P → IfOk (value_or_fault r) P
value_so P (Ok x) h = h
value_so P (Err fault) h = tt

-- what stands behind a test of a limit may count on the test
pub tested_so : {X : Type 0} (P : X → Type 0) (test : Bool) (r : Result X Cause) → (test ≡ true → IfOk r P) → IfOk (if test then r else Err OverLimit) P
tested_so P test r h = one_where P test r (Err OverLimit) h tt

-- ---- numbers

-- what is no more than what is within a limit
pub no_longer : (most n m : ℕ) → m ≤ n → nat_le n most ≡ true → nat_le m most ≡ true
no_longer most n m less h = let l = leb-true n most h in le-leb m most (omega (arith, less, l))

module _ (limits : Limits) where
  -- ---- texts

  -- a text is no longer than texts may be
  abbrev pub TextFits : List ℕ → Type 0
  TextFits text = fits limits text ≡ true

  -- so is each of some
  abbrev pub TextsFit : List (List ℕ) → Type 0
  TextsFit texts = texts_fit limits texts ≡ true

  pub empty_fits : TextFits []
  empty_fits = le-leb 0 limits.text (omega arith)

  -- a text that is no longer than one that fits
  pub shorter_fits : (t u : List ℕ) → length t ≤ length u → TextFits u → TextFits t
  shorter_fits t u less h = no_longer limits.text (length u) (length t) less h

  -- the front of one, and what stands behind it
  pub front_fits : (n : ℕ) (t : List ℕ) → TextFits t → TextFits (take n t)
  front_fits n t h = let short = length-take n t in shorter_fits (take n t) t (omega (arith, short)) h

  pub rest_fits : (n : ℕ) (t : List ℕ) → TextFits t → TextFits (drop n t)
  rest_fits n t h = let short = length-drop n t in shorter_fits (drop n t) t (omega (arith, short)) h

  -- a text that a command tests
  pub within_fits : (text : List ℕ) → IfOk (within limits text) TextFits
  within_fits text = tested_so TextFits (fits limits text) (Ok text) (λ h. h)

  -- the first of words that fit, and the others
  pub first_word : (word : List ℕ) (words : List (List ℕ)) → TextsFit (word ∷ words) → TextFits word
  first_word word words h = (and_parts (fits limits word) (texts_fit limits words) h).0

  pub other_words : (word : List ℕ) (words : List (List ℕ)) → TextsFit (word ∷ words) → TextsFit words
  other_words word words h = (and_parts (fits limits word) (texts_fit limits words) h).1

  -- ---- counts

  -- a list that is no longer than one that may be held
  pub fewer_fit : {X : Type 0} (xs ys : List X) → length ys ≤ length xs → may_hold limits (length xs) ≡ true → may_hold limits (length ys) ≡ true
  fewer_fit xs ys less h = no_longer limits.items (length xs) (length ys) less h

  -- what a test lets through
  pub filtered_fewer : {X : Type 0} (q : X → Bool) (xs : List X) → may_hold limits (length xs) ≡ true → may_hold limits (length (filter q xs)) ≡ true
  filtered_fewer q xs h = fewer_fit xs (filter q xs) (no_more q xs) h

  -- one more, where there is room for it
  pub one_more_fits : {X : Type 0} (xs : List X) (x : X) → nat_lt (length xs) limits.items ≡ true → may_hold limits (length (xs ++ x ∷ [])) ≡ true
  one_more_fits xs x room =
      let below = ltb-true (length xs) limits.items room in
      let count = length-append xs (x ∷ []) in
      le-leb (length (xs ++ x ∷ [])) limits.items (omega (arith, below, count))

  -- what a test lets through of a list that may be held, with members of which another test holds
  pub filtered_fit : {X : Type 0} (p q : X → Bool) (xs : List X) → (may_hold limits (length xs) && list_all p xs) ≡ true
      → (may_hold limits (length (filter q xs)) && list_all p (filter q xs)) ≡ true
  filtered_fit p q xs h =
      let both = and_parts (may_hold limits (length xs)) (list_all p xs) h in
      and_from (may_hold limits (length (filter q xs))) (list_all p (filter q xs)) (filtered_fewer q xs both.0) (filtered_so p q xs both.1)

-- ---- elements of lists

-- characters are no more than the bytes that write them
chars_len : (ends : Ends) (v e u : List ℕ) → CharsThen ends v e u → length e + length v ≤ length u
chars_len ends v _ _ no_char = omega arith
chars_len ends v _ _ (char c e u i b h) = let rest = chars_len ends v e u h in omega (arith, rest)
chars_len ends v _ _ (escaped c n e u x b h) = let rest = chars_len ends v e _ h in omega (arith, rest, length-drop n u)

element_len : (v e t : List ℕ) → ElementThen v e t → length e + length v ≤ length t
element_len v _ _ (braced e m) = omega (arith, length-append e (125 ∷ v))
element_len v _ _ (in_quotes e u h) = let rest = chars_len Quote (34 ∷ v) e u h in omega (arith, rest)
element_len v _ _ (bare e t b h) = chars_len Space v e t h

module _ (limits : Limits) where
  splits_fit : (t : List ℕ) (l : List (List ℕ)) → Splits t l → TextFits limits t → TextsFit limits l
  splits_fit t [] s h = refl
  splits_fit t (e ∷ l) s h =
      let x = s.0 in
      let y = s.1 in
      let space = s.2 in
      let whole : length t ≡ length space.0 + length x = ap length space.1 ∙ length-append space.0 x in
      let one : length e + length y ≤ length x = element_len y e x s.3 in
      and_from (fits limits e) (texts_fit limits l) (shorter_fits limits e t (omega (arith, whole, one)) h)
      (splits_fit y l s.5 (shorter_fits limits y t (omega (arith, whole, one)) h))

  -- the elements of a list are no longer than its text
  pub list_fits : (text : List ℕ) → TextFits limits text → IfOk (list_in text) (TextsFit limits)
  list_fits text h = by (list_of text) refl
    where
      by : (o : Option (List (List ℕ))) → list_of text ≡ o → IfOk (list_read o) (TextsFit limits)
      by None e = tt
      by (Some l) e = splits_fit text l ((splits_one text l).1 e) h
