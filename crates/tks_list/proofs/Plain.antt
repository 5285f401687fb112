-- Characters that stand for themselves, read at once.
use Rattle.std.proofs.Common.{◌≡◌, ℕ, suc, ◌+◌, ◌-◌, ◌≤◌, ◌==◌, Bool, true, false, cond, List, [], ◌∷◌, ◌++◌, take, drop, get_or, None, refl, sym, ap, ◌∙◌, subst, arith}
use Rattle.std.specs.Prelude.{not, ◌&&◌}
use Rattle.std.specs.List.{prefix_len}
use Rattle.std.proofs.lemmas.Bool.{eqb-true, false_from_ne_true}
use Rattle.std.proofs.lemmas.List.{drop-take}
use Rattle.tks_text.specs.Integer.{is_space}
use Rattle.tks_text.specs.Text.{BeginsNot}
use Rattle.tks_text.specs.Run.{Step, stop, takes, Run, run, after_step, with_item, past_byte, on_run}
use Rattle.tks_text.proofs.Texts.{both}
use Rattle.tks_list.specs.ListText.{ends_at}
use Rattle.tks_list.specs.Reading.{char_step, chars_at, stands_for_itself, element_step, bare_step}
use Rattle.tks_list.specs.Cuts.{cut}
use Rattle.tks_list.specs.declared.ends.Ends.{Ends}
use Rattle.tks_list.specs.declared.ends.Ends.TheVariants.{Space}
use Rattle.tks_list.specs.declared.fault.ListFault.{ListFault}

abbrev pub is_backslash : ℕ → Bool
is_backslash c = c == 92

-- characters that were read, n bytes of a text
abbrev read_plain : ℕ → List ℕ → Run ListFault (List ℕ)
read_plain n t = record { items = take n t; fault = None; taken = n }

not_true : (b : Bool) → not b ≡ true → b ≡ false
not_true true e = absurd cc
not_true false e = refl

first_true : (a b : Bool) → not a && not b ≡ false → b ≡ false → a ≡ true
first_true true b e f = refl
first_true false true e f = absurd cc
first_true false false e f = absurd cc

step_takes : (ends : Ends) (c : ℕ) (u : List ℕ) → stands_for_itself ends c ≡ true → char_step ends (c ∷ u) ≡ takes (λ e. c ∷ e) 0
unfolding char_step
step_takes ends c u e =
    let w = both (not (ends_at ends c)) (not (c == 92)) e in
    rw (not_true (ends_at ends c) w.0, not_true (c == 92) w.1) refl

step_stops : (ends : Ends) (c : ℕ) (u : List ℕ) → stands_for_itself ends c ≡ false → c == 92 ≡ false → char_step ends (c ∷ u) ≡ stop
unfolding char_step
step_stops ends c u e b = rw (first_true (ends_at ends c) (c == 92) e b) refl

module _ (ends : Ends) where
  abbrev plain_len : List ℕ → ℕ
  plain_len t = prefix_len (stands_for_itself ends) t

  abbrev chars_from : ℕ → List ℕ → Run ListFault (List ℕ)
  chars_from k t = run [] (char_step ends) k t

  plain_step : (c : ℕ) (u : List ℕ) (n : ℕ) (b : Bool) → stands_for_itself ends c ≡ b → n ≡ cond b (1 + plain_len u) 0 → BeginsNot is_backslash (drop n (c ∷ u))
      → (BeginsNot is_backslash (drop (plain_len u) u) → chars_from 0 u ≡ read_plain (plain_len u) u) → chars_from 0 (c ∷ u) ≡ read_plain n (c ∷ u)
  plain_step c u n true e is b ih =
      let same : n ≡ suc (plain_len u) = omega (arith, is) in
      ap (λ (s : Step ListFault (List ℕ)). after_step [] s (λ k. chars_from k u)) (step_takes ends c u e)
      ∙ ap (λ (r : Run ListFault (List ℕ)). with_item (λ x. c ∷ x) (past_byte r)) (ih (subst (λ k. BeginsNot is_backslash (drop k (c ∷ u))) same b))
      ∙ ap (λ k. read_plain k (c ∷ u)) (sym same)
  plain_step c u n false e is b ih =
      ap (λ (s : Step ListFault (List ℕ)). after_step [] s (λ k. chars_from k u)) (step_stops ends c u e (subst (λ k. BeginsNot is_backslash (drop k (c ∷ u))) is b))
      ∙ ap (λ k. read_plain k (c ∷ u)) (sym is)

  plain_read : (t : List ℕ) (n : ℕ) → n ≡ plain_len t → BeginsNot is_backslash (drop n t) → chars_from 0 t ≡ read_plain n t
  plain_read [] n is b = ap (λ k. read_plain k []) (sym is)
  plain_read (c ∷ u) n is b = plain_step c u n (stands_for_itself ends c) refl is b (plain_read u (plain_len u) refl)

  pub plain_found : (t : List ℕ) (start len : ℕ) → len ≡ plain_len (drop start t) → BeginsNot is_backslash (drop len (drop start t))
      → chars_at ends (drop start t) ≡ record { items = cut t (record { start = start; end = start + len }); fault = None; taken = len }
  unfolding chars_at
  plain_found t start len is b =
      plain_read (drop start t) len is b ∙ ap (λ (e : List ℕ). record { items = e; fault = None; taken = len }) (sym (drop-take start len t))

-- ---- bare elements

first_plain : (p : ℕ → Bool) (c : ℕ) (u : List ℕ) (len : ℕ) (b : Bool) → p c ≡ b → len ≡ cond b (1 + prefix_len p u) 0 → 1 ≤ len → p c ≡ true
first_plain p c u len true e is some = e
first_plain p c u len false e is some = absurd (omega (arith, is, some))

bare_from : (c : ℕ) (u : List ℕ) (len : ℕ) → c == 123 ≡ false → c == 34 ≡ false → len ≡ prefix_len (stands_for_itself Space) (c ∷ u) → BeginsNot is_backslash (drop len (c ∷ u)) → 1 ≤ len
    → element_step (c ∷ u) ≡ takes (λ l. (take len (c ∷ u) ∷ []) ++ l) (len - 1)
unfolding element_step bare_step
bare_from c u len brace quote is b some =
    let plain : stands_for_itself Space c ≡ true = first_plain (stands_for_itself Space) c u len (stands_for_itself Space c) refl is some in
    let other : is_space c ≡ false = not_true (is_space c) (both (not (is_space c)) (not (c == 92)) plain).0 in
    let all : 0 + len ≡ len = omega arith in
    rw (other, brace, quote) (
    ap (λ (r : Run ListFault (List ℕ)). on_run r (λ e n. takes (λ (l : List (List ℕ)). e ∷ l) (n - 1))) (plain_found Space (c ∷ u) 0 len is b)
    ∙ ap (λ n. takes (λ (l : List (List ℕ)). take n (c ∷ u) ∷ l) (len - 1)) all)

differs : (c d : ℕ) → ¬ (c ≡ d) → c == d ≡ false
differs c d h = false_from_ne_true (c == d) (λ k. h (eqb-true c d k))

-- what stands for itself and begins no other element is the element
pub bare_taken : (t : List ℕ) (len : ℕ) → ¬ (get_or t 0 0 ≡ 123) → ¬ (get_or t 0 0 ≡ 34) → len ≡ prefix_len (stands_for_itself Space) t → BeginsNot is_backslash (drop len t) → 1 ≤ len
    → element_step t ≡ takes (λ l. (take len t ∷ []) ++ l) (len - 1)
bare_taken [] len brace quote is b some = absurd (omega (arith, is, some))
bare_taken (c ∷ u) len brace quote is b some = bare_from c u len (differs c 123 brace) (differs c 34 quote) is b some
