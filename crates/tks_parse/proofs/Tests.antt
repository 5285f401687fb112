-- Tests of characters, and what they say of each other.
use Rattle.std.proofs.Common.{◌≡◌, ℕ, zero, suc, ◌+◌, ◌-◌, ◌<◌, Bool, true, false, cond, eqb, List, [], ◌∷◌, length, drop, refl, sym, ap, ◌∙◌, arith, inl, inr}
use Rattle.std.specs.Prelude.{◌||◌, ◌&&◌, ◌⊎◌, not}
use Rattle.std.specs.List.{AllByRecursion, prefix_len}
use Rattle.std.proofs.lemmas.Bool.{eqb-true}
use Rattle.std.proofs.lemmas.List.{drop-drop, length-drop}
use Rattle.tks_text.specs.Backslash.{is_blank}
use Rattle.tks_parse.specs.Class.{is_separator, ends_script, ends_word, is_fold, ends_word_at, ends_command_at, ends_parts, is_expanded}
use Rattle.tks_parse.specs.Script.{word_start}
use Rattle.tks_parse.specs.declared.mode.Place.{Place}
use Rattle.tks_parse.specs.declared.mode.Place.TheVariants.{Alone, Brackets}
use Rattle.tks_parse.specs.declared.mode.Mode.{Mode}
use Rattle.tks_parse.specs.declared.mode.Mode.TheVariants.{Bare, Quoted, Index}

pub if_case : {A : Type 0} (P : A → Type 0) (b : Bool) (x y : A) → (b ≡ true → P x) → (b ≡ false → P y) → P (cond b x y)
if_case P true x y f g = f refl
if_case P false x y f g = g refl

pub or_left : (a b : Bool) → (a || b) ≡ false → a ≡ false
or_left true b e = absurd cc
or_left false b e = refl

pub or_right : (a b : Bool) → (a || b) ≡ false → b ≡ false
or_right true b e = absurd cc
or_right false b e = e

pub or_cases : (a b : Bool) → (a || b) ≡ true → (a ≡ true) ⊎ (b ≡ true)
or_cases true b e = inl refl
or_cases false b e = inr e

pub and_cases : (a b : Bool) → (a && b) ≡ true → (a ≡ true) × (b ≡ true)
and_cases true b e = (refl, e)
and_cases false b e = absurd cc

pub not_true : (b : Bool) → not b ≡ true → b ≡ false
not_true true e = absurd cc
not_true false e = refl

pub not_false : (b : Bool) → not b ≡ false → b ≡ true
not_false true e = refl
not_false false e = absurd cc

-- ---- lengths

pub behind_drop : (n : ℕ) (s u : List ℕ) (c : ℕ) → drop n s ≡ c ∷ u → n < length s
behind_drop n s u c e = omega (arith, length-drop n s, ap length e)

pub drop_one : (n : ℕ) (s u : List ℕ) (c : ℕ) → drop n s ≡ c ∷ u → drop (suc n) s ≡ u
drop_one n s u c e =
    let k : suc n ≡ n + 1 = omega arith in
    ap (λ i. drop i s) k ∙ sym (drop-drop 1 n s) ∙ ap (drop 1) e

-- ---- what ends words and parts

pub open_goes_on : (m : Mode) (u : List ℕ) → ends_parts m 91 u ≡ false
open_goes_on (Bare Alone) u = refl
open_goes_on (Bare Brackets) u = refl
open_goes_on (Quoted syntax) u = refl
open_goes_on (Index syntax) u = refl

pub dollar_goes_on : (m : Mode) (u : List ℕ) → ends_parts m 36 u ≡ false
dollar_goes_on (Bare Alone) u = refl
dollar_goes_on (Bare Brackets) u = refl
dollar_goes_on (Quoted syntax) u = refl
dollar_goes_on (Index syntax) u = refl

pub hash_goes_on : (place : Place) → ends_script place 35 ≡ false
hash_goes_on Alone = refl
hash_goes_on Brackets = refl

-- what a text that ends no word begins with
pub record WordBegins (place : Place) (c : ℕ) (u : List ℕ) : Type 0 where
  pub no_blank : is_blank c ≡ false
  pub no_separator : is_separator c ≡ false
  pub no_close : ends_script place c ≡ false
  pub no_word_end : ends_word place c ≡ false
  pub no_fold : is_fold c u ≡ false

pub word_begins : (place : Place) (c : ℕ) (u : List ℕ) → ends_word_at place (c ∷ u) ≡ false → WordBegins place c u
word_begins place c u h =
    let word = or_left (ends_word place c) (is_fold c u) h in
    let gap = or_left (is_blank c || is_separator c) (ends_script place c) word in
    record {
      no_blank = or_left (is_blank c) (is_separator c) gap;
      no_separator = or_right (is_blank c) (is_separator c) gap;
      no_close = or_right (is_blank c || is_separator c) (ends_script place c) word;
      no_word_end = word;
      no_fold = or_right (ends_word place c) (is_fold c u) h;
    }

-- what ends a command is no white space, and ends a word
pub record CommandEnds (place : Place) (c : ℕ) (u : List ℕ) : Type 0 where
  pub no_blank : is_blank c ≡ false
  pub no_fold : is_fold c u ≡ false
  pub word_end : ends_word place c ≡ true

close_is : (place : Place) (c : ℕ) → ends_script place c ≡ true → (place ≡ Brackets) × (c ≡ 93)
close_is Alone c e = absurd cc
close_is Brackets c e = (refl, eqb-true c 93 e)

pub command_ends : (place : Place) (c : ℕ) (u : List ℕ) → ends_command_at place (c ∷ u) ≡ true → CommandEnds place c u
command_ends place c u h = elim (or_cases (is_separator c) (ends_script place c) h) [
  | inl s ↦ (elim (or_cases (eqb c 10) (eqb c 59) s) [
    | inl k ↦ (let is : c ≡ 10 = eqb-true c 10 k in rw is (record { no_blank = refl; no_fold = refl; word_end = refl }))
    | inr k ↦ (let is : c ≡ 59 = eqb-true c 59 k in rw is (record { no_blank = refl; no_fold = refl; word_end = refl }))
  ])
  | inr s ↦ (let is = close_is place c s in rw (is.0, is.1) (record { no_blank = refl; no_fold = refl; word_end = refl }))
]

pub end_at_word : (place : Place) (y : List ℕ) → ends_command_at place y ≡ true → ends_word_at place y ≡ true
end_at_word place [] h = refl
end_at_word place (c ∷ y) h = rw (command_ends place c y h).word_end refl

-- parts that end at the end of their text, or before what ends them
abbrev pub ends_parts_at : Mode → List ℕ → Bool
ends_parts_at m [] = true
ends_parts_at m (c ∷ u) = ends_parts m c u

pub bare_end : (place : Place) (y : List ℕ) → ends_word_at place y ≡ ends_parts_at (Bare place) y
bare_end place [] = refl
bare_end place (c ∷ y) = refl

-- where one text ends what another doesn't, they differ
pub taken_some : (place : Place) (n : ℕ) (x y : List ℕ) → ends_word_at place x ≡ false → ends_word_at place y ≡ true → drop n x ≡ y → 0 < n
taken_some place zero x y b h e = let both : true ≡ false = sym h ∙ ap (ends_word_at place) (sym e) ∙ b in absurd cc
taken_some place (suc n) x y b h e = omega arith

pub pred_drop : (n c : ℕ) (x y : List ℕ) → 0 < n → drop n (c ∷ x) ≡ y → drop (n - 1) x ≡ y
pred_drop zero c x y h e = absurd (omega arith)
pred_drop (suc n) c x y h e = let k : suc n - 1 ≡ n = omega arith in rw k e

-- ---- words behind `{*}`

expanded_start : (place : Place) (x : List ℕ) → is_expanded place x ≡ true → ends_word_at place (drop 3 x) ≡ false
expanded_start place [] e = absurd cc
expanded_start place (a ∷ []) e = absurd cc
expanded_start place (a ∷ b ∷ []) e = absurd cc
expanded_start place (a ∷ b ∷ c ∷ u) e = not_true (ends_word_at place u) (and_cases (eqb a 123 && eqb b 42 && eqb c 125) (not (ends_word_at place u)) e).1

-- a word begins there
pub start_begins : (place : Place) (x : List ℕ) → ends_word_at place x ≡ false → ends_word_at place (word_start place x) ≡ false
start_begins place x h = if_case (λ s. ends_word_at place s ≡ false) (is_expanded place x) (drop 3 x) x (λ e. expanded_start place x e) (λ e. h)

pub prefix_whole : (p : ℕ → Bool) (t : List ℕ) → AllByRecursion (λ c. p c ≡ true) t → drop (prefix_len p t) t ≡ []
prefix_whole p [] h = refl
prefix_whole p (c ∷ t) h =
    let one : 1 + prefix_len p t ≡ suc (prefix_len p t) = omega arith in
    ap (λ b. drop (cond b (1 + prefix_len p t) 0) (c ∷ t)) h.0 ∙ ap (λ n. drop n (c ∷ t)) one ∙ prefix_whole p t h.1
