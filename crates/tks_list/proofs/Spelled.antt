-- What splits so is read so.
use Rattle.std.proofs.Common.{◌≡◌, ℕ, zero, suc, ◌+◌, ◌-◌, ◌<◌, ◌≤◌, true, false, List, [], ◌∷◌, ◌++◌, ◌||◌, ◌==◌, length, length-append, drop, Some, None, refl, sym, ap, ◌∙◌, subst, arith}
use Rattle.std.proofs.Math.Seq.{take-append_seam, drop-append-add}
use Rattle.std.proofs.lemmas.List.{length-drop, drop-drop, append-nil}
use Rattle.tks_text.specs.Integer.{is_space, AreSpaces}
use Rattle.tks_text.specs.Run.{takes, Run, on_run}
use Rattle.tks_text.proofs.Backslashes.{escape_within}
use Rattle.tks_text.proofs.Escaped.{escape_in_text}
use Rattle.tks_text.proofs.Runs.{behind, run_stops, run_takes, run_taken}
use Rattle.tks_list.specs.ListText.{Matched, ends_at, CharsThen, no_char, char, escaped, begins_no_bare, AtEndOrSpace, ElementThen, braced, in_quotes, bare, Splits}
use Rattle.tks_list.specs.Reading.{no_braces, closing_brace, char_step, chars_at, escape_step, behind_close, braced_element, quoted_element, quoted_step, bare_step, element_step, elements_at, list_of}
use Rattle.tks_list.specs.declared.ends.Ends.{Ends}
use Rattle.tks_list.specs.declared.ends.Ends.TheVariants.{Space, Quote}
use Rattle.tks_list.specs.declared.fault.ListFault.{ListFault}
use Rattle.tks_list.specs.Gives.{behind_list}
use Rattle.tks_list.proofs.Loops.{list_start, list_go}
use Rattle.tks_list.proofs.Matching.{matched_passed}
use Rattle.tks_text.proofs.Tests.{neither}

-- ---- characters

-- a text before which characters end
abbrev pub StopsAt : Ends → List ℕ → Type 0
StopsAt ends [] = Unit {0}
StopsAt ends (c ∷ v) = ends_at ends c ≡ true

record Reads (ends : Ends) (e u v : List ℕ) : Type 0 where
  len : ℕ
  read : chars_at ends u ≡ record { items = e; fault = None; taken = len }
  rest : drop len u ≡ v

chars_end : (ends : Ends) (v : List ℕ) → StopsAt ends v → Reads ends [] v v
unfolding chars_at char_step
chars_end ends [] s = record { len = 0; read = refl; rest = refl }
chars_end ends (c ∷ v) s = record { len = 0; read = run_stops [] (char_step ends) (c ∷ v) (rw s refl); rest = refl }

chars_step : (ends : Ends) (c k : ℕ) (e t v : List ℕ) → char_step ends t ≡ takes (λ x. c ∷ x) k → k < length t → Reads ends e (drop (1 + k) t) v → Reads ends (c ∷ e) t v
unfolding chars_at char_step
chars_step ends c k e t v s lt r = record {
  len = (1 + k) + r.len;
  read = run_takes [] (char_step ends) t (λ x. c ∷ x) k refl s lt ∙ ap (behind (λ x. c ∷ x) (1 + k)) r.read;
  rest = sym (drop-drop r.len (1 + k) t) ∙ r.rest;
}

backslash_inside : (ends : Ends) → ends_at ends 92 ≡ false
backslash_inside Space = refl
backslash_inside Quote = refl

chars_read : (ends : Ends) (v e u : List ℕ) → CharsThen ends v e u → StopsAt ends v → Reads ends e u v
unfolding char_step
chars_read ends v _ _ no_char s = chars_end ends v s
chars_read ends v _ _ (char c e u i b h) s = chars_step ends c 0 e (c ∷ u) v (rw (i, b) refl) (omega arith) (chars_read ends v e u h s)
chars_read ends v _ _ (escaped c n e u b i h) s =
    let x = escape_in_text u c n b i in
    let step : char_step ends (92 ∷ u) ≡ takes (λ y. c ∷ y) n = rw (backslash_inside ends) (ap escape_step x) in
    let one : suc n ≡ 1 + n = omega arith in
    chars_step ends c n e (92 ∷ u) v step (omega (arith, escape_within u c n x)) (subst (λ k. Reads ends e (drop k (92 ∷ u)) v) one (chars_read ends v e (drop n u) h s))

-- ---- elements

-- what was read of an element that ends at white space
pub drop_one : (u y : List ℕ) (n c : ℕ) → drop n u ≡ c ∷ y → drop (suc n) u ≡ y
drop_one [] y zero c e = absurd cc
drop_one [] y (suc n) c e = absurd cc
drop_one (d ∷ u) y zero c e = cc
drop_one (d ∷ u) y (suc n) c e = drop_one u y n c e

pub read_some : (c : ℕ) (u y : List ℕ) (n : ℕ) → is_space c ≡ false → drop n (c ∷ u) ≡ y → AtEndOrSpace y → 0 < n
read_some c u [] zero b e a = absurd cc
read_some c u (d ∷ y) zero b e a = let same : c ≡ d = cc in absurd cc
read_some c u y (suc n) b e a = omega arith

chars_within : (t : List ℕ) (n : ℕ) (e : List ℕ) → chars_at Space t ≡ record { items = e; fault = None; taken = n } → n ≤ length t
unfolding chars_at
chars_within t n e r = omega (arith, run_taken [] (char_step Space) 0 t, ap (λ (x : Run ListFault (List ℕ)). x.taken) r)

stops_at_space : (y : List ℕ) → AtEndOrSpace y → StopsAt Space y
stops_at_space [] a = tt
stops_at_space (c ∷ y) a = a

matched_closes : (e y : List ℕ) → Matched e → closing_brace 0 no_braces (e ++ 125 ∷ y) ≡ Some (length e)
matched_closes e y m = let none : 0 + length e ≡ length e = omega arith in matched_passed e m 0 0 (125 ∷ y) ∙ ap (λ n. Some n) none

record Taken (e x y : List ℕ) : Type 0 where
  more : ℕ
  step : element_step x ≡ takes (λ l. e ∷ l) more
  within : more < length x
  rest : drop (1 + more) x ≡ y

close_end : (e y : List ℕ) (n : ℕ) → AtEndOrSpace y → behind_close e n y ≡ takes (λ l. e ∷ l) n
close_end e [] n a = refl
close_end e (c ∷ y) n a = rw a refl

braced_taken : (e y : List ℕ) → closing_brace 0 no_braces (e ++ 125 ∷ y) ≡ Some (length e) → AtEndOrSpace y → Taken e (123 ∷ e ++ 125 ∷ y) y
unfolding element_step
braced_taken e y close a =
    let u = e ++ 125 ∷ y in
    let one : 1 + (length e + 1) ≡ suc (length e + 1) = omega arith in
    let rest : drop (length e + 1) u ≡ y = drop-append-add e (125 ∷ y) 1 in
    record {
      more = length e + 1;
      step = ap (λ o. braced_element o u) close ∙ ap (λ x. behind_close x (length e + 1) (drop (length e + 1) u)) (take-append_seam e (125 ∷ y)) ∙ ap (behind_close e (length e + 1)) rest ∙ close_end e y (length e + 1) a;
      within = omega (arith, length-append e (125 ∷ y));
      rest = ap (λ n. drop n (123 ∷ u)) one ∙ rest;
    }

quoted_taken : (e u y : List ℕ) → Reads Quote e u (34 ∷ y) → AtEndOrSpace y → Taken e (34 ∷ u) y
unfolding element_step quoted_step
quoted_taken e u y r a =
    let one : 1 + suc r.len ≡ suc (suc r.len) = omega arith in
    let rest : drop (suc r.len) u ≡ y = drop_one u y r.len 34 r.rest in
    record {
      more = suc r.len;
      step = ap (λ (x : Run ListFault (List ℕ)). on_run x (λ e n. quoted_element e n (drop n u))) r.read ∙ ap (quoted_element e r.len) r.rest ∙ close_end e y (suc r.len) a;
      within = omega (arith, length-drop r.len u, ap length r.rest);
      rest = ap (λ n. drop n (34 ∷ u)) one ∙ rest;
    }

bare_taken : (c : ℕ) (e u y : List ℕ) → begins_no_bare c ≡ false → Reads Space e (c ∷ u) y → AtEndOrSpace y → Taken e (c ∷ u) y
unfolding element_step bare_step
bare_taken c e u y b r a =
    let p = neither (is_space c || (c == 34)) (c == 123) b in
    let q = neither (is_space c) (c == 34) p.0 in
    let some = read_some c u y r.len q.0 r.rest a in
    let back : 1 + (r.len - 1) ≡ r.len = omega arith in
    record {
      more = r.len - 1;
      step = rw (q.0, p.1, q.1) (ap (λ (x : Run ListFault (List ℕ)). on_run x (λ e n. takes (λ l. e ∷ l) (n - 1))) r.read);
      within = omega (arith, chars_within (c ∷ u) r.len e r.read);
      rest = ap (λ n. drop n (c ∷ u)) back ∙ r.rest;
    }

element_taken : (y e x : List ℕ) → ElementThen y e x → AtEndOrSpace y → Taken e x y
element_taken y _ _ (braced e m) a = braced_taken e y (matched_closes e y m) a
element_taken y _ _ (in_quotes e u h) a = quoted_taken e u y (chars_read Quote (34 ∷ y) e u h refl) a
element_taken y _ _ (bare e [] b h) a = absurd b
element_taken y _ _ (bare e (c ∷ u) b h) a = bare_taken c e u y b (chars_read Space y e (c ∷ u) h (stops_at_space y a)) a

-- ---- lists

space_read : (c : ℕ) (t : List ℕ) → is_space c ≡ true → list_of (c ∷ t) ≡ list_of t
unfolding element_step
space_read c t s =
    sym (sym (list_start (list_of t)) ∙ list_go [] [] 0 (c ∷ t) (list_of (c ∷ t)) (list_start (list_of (c ∷ t))) (rw s refl) (omega arith))

spaces_read : (x t : List ℕ) → AreSpaces x → list_of (x ++ t) ≡ list_of t
spaces_read [] t h = refl
spaces_read (c ∷ x) t h = space_read c (x ++ t) h.0 ∙ spaces_read x t h.1

element_read : (e x y : List ℕ) (l : List (List ℕ)) → Taken e x y → list_of y ≡ Some l → list_of x ≡ Some (e ∷ l)
element_read e x y l k h =
    sym (sym (ap (behind_list (e ∷ [])) (ap list_of k.rest ∙ h)) ∙ list_go [] (e ∷ []) k.more x (list_of x) (list_start (list_of x)) k.step k.within)

empty_read : list_of [] ≡ Some []
unfolding list_of elements_at
empty_read = refl

pub splits_read : (t : List ℕ) (l : List (List ℕ)) → Splits t l → list_of t ≡ Some l
splits_read t [] h = ap list_of (sym (append-nil t)) ∙ spaces_read t [] h ∙ empty_read
splits_read t (e ∷ l) h =
    let x = h.0 in
    let y = h.1 in
    let s = h.2 in
    ap list_of s.1 ∙ spaces_read s.0 x s.2 ∙ element_read e x y l (element_taken y e x h.3 h.4) (splits_read y l h.5)
