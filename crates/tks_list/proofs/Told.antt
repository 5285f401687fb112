-- What is read splits so.
use Rattle.std.proofs.Common.{◌≡◌, ◌↔◌, ◌==◌, ℕ, zero, suc, ◌+◌, ◌-◌, true, false, List, [], ◌∷◌, ◌++◌, length, take, drop, Option, Some, None, Result, Ok, Err, refl, sym, ap, ◌∙◌, subst, arith}
use Rattle.std.proofs.Math.Seq.{take-append_seam, drop-append-add}
use Rattle.std.proofs.lemmas.Bool.{cond_both, eqb-true}
use Rattle.tks_text.proofs.Escaped.{some_escape}
use Rattle.tks_text.specs.Backslash.{escape}
use Rattle.tks_text.specs.Integer.{is_space}
use Rattle.tks_text.specs.Run.{Step, stop, fails, takes, Run, run, after_step, on_run}
use Rattle.tks_list.specs.ListText.{ends_at, CharsThen, no_char, char, escaped, AtEndOrSpace, ElementThen, braced, in_quotes, bare, Splits}
use Rattle.tks_list.specs.Reading.{no_braces, closing_brace, char_step, chars_at, escape_step, behind_close, braced_element, quoted_element, quoted_step, bare_step, element_step, elements_at, without_fault, list_of}
use Rattle.tks_list.specs.declared.ends.Ends.{Ends}
use Rattle.tks_list.specs.declared.ends.Ends.TheVariants.{Space, Quote}
use Rattle.tks_list.specs.declared.fault.ListFault.{ListFault}
use Rattle.tks_list.specs.declared.fault.ListFault.TheVariants.{NoMemory, NotAList}
use Rattle.tks_list.specs.Gives.{ListRead, SplitsSo}
use Rattle.tks_list.proofs.Matching.{found}
use Rattle.tks_list.proofs.Spelled.{StopsAt, drop_one, read_some, splits_read}

-- ---- characters

-- what a step of characters came to
data CharCase (ends : Ends) (c : ℕ) (u : List ℕ) : Step ListFault (List ℕ) → Type 0 where
  at_end : ends_at ends c ≡ true → CharCase ends c u stop
  at_char : ends_at ends c ≡ false → c == 92 ≡ false → CharCase ends c u (takes (λ e. c ∷ e) 0)
  at_escape : (d n : ℕ) → c ≡ 92 → escape u ≡ Some (d, n) → CharCase ends c u (takes (λ e. d ∷ e) n)
  at_bad : (f : ListFault) → CharCase ends c u (fails f)

escape_case : (ends : Ends) (c : ℕ) (u : List ℕ) (o : Option (ℕ × ℕ)) → c ≡ 92 → escape u ≡ o → CharCase ends c u (escape_step o)
escape_case ends c u None is e = at_bad NotAList
escape_case ends c u (Some x) is e = at_escape x.0 x.1 is e

char_case : (ends : Ends) (c : ℕ) (u : List ℕ) → CharCase ends c u (char_step ends (c ∷ u))
unfolding char_step
char_case ends c u =
    cond_both (ends_at ends c) stop _ (CharCase ends c u) (λ e. at_end e)
    (λ e. cond_both (c == 92) (escape_step (escape u)) (takes (λ x. c ∷ x) 0) (CharCase ends c u)
    (λ b. escape_case ends c u (escape u) (eqb-true c 92 b) refl)
    (λ b. at_char e b))

-- characters that were read, where there is no fault
abbrev CharsOutcome : Ends → List ℕ → Option ListFault → List ℕ → List ℕ → Type 0
CharsOutcome ends t None e v = CharsThen ends v e t × StopsAt ends v
CharsOutcome ends t (Some f) e v = Unit {0}

char_outcome : (ends : Ends) (c : ℕ) (u : List ℕ) (o : Option ListFault) (e v : List ℕ) → ends_at ends c ≡ false → c == 92 ≡ false → CharsOutcome ends u o e v → CharsOutcome ends (c ∷ u) o (c ∷ e) v
char_outcome ends c u None e v i b h = (char c e u i b h.0, h.1)
char_outcome ends c u (Some f) e v i b h = tt

escape_outcome : (ends : Ends) (c d n : ℕ) (u : List ℕ) (o : Option ListFault) (e v : List ℕ) → c ≡ 92 → escape u ≡ Some (d, n) → CharsOutcome ends (drop n u) o e v → CharsOutcome ends (c ∷ u) o (d ∷ e) v
escape_outcome ends c d n u None e v is x h = let s = some_escape u d n x in (subst (λ b. CharsThen ends v (d ∷ e) (b ∷ u)) (sym is) (escaped d n e u s.0 s.1 h.0), h.1)
escape_outcome ends c d n u (Some f) e v is x h = tt

abbrev CharsTold : Ends → List ℕ → List ℕ → Run ListFault (List ℕ) → Type 0
CharsTold ends t u r = CharsOutcome ends t r.fault r.items (drop r.taken u)

after_char : (ends : Ends) (c : ℕ) (u : List ℕ) (s : Step ListFault (List ℕ)) (go : ℕ → Run ListFault (List ℕ)) → CharCase ends c u s → ((k : ℕ) → CharsTold ends (drop k u) u (go k)) → CharsTold ends (c ∷ u) (c ∷ u) (after_step [] s go)
after_char ends c u _ go (at_end e) ih = (no_char, e)
after_char ends c u _ go (at_char i b) ih = char_outcome ends c u (go 0).fault (go 0).items (drop (go 0).taken u) i b (ih 0)
after_char ends c u _ go (at_escape d n is x) ih = escape_outcome ends c d n u (go n).fault (go n).items (drop (go n).taken u) is x (ih n)
after_char ends c u _ go (at_bad f) ih = tt

run_chars : (ends : Ends) (k : ℕ) (t : List ℕ) → CharsTold ends (drop k t) t (run [] (char_step ends) k t)
run_chars ends zero [] = (no_char, tt)
run_chars ends (suc k) [] = (no_char, tt)
run_chars ends (suc k) (c ∷ u) = run_chars ends k u
run_chars ends zero (c ∷ u) = after_char ends c u (char_step ends (c ∷ u)) (λ k. run [] (char_step ends) k u) (char_case ends c u) (λ k. run_chars ends k u)

chars_told : (ends : Ends) (t : List ℕ) → CharsTold ends t t (chars_at ends t)
unfolding chars_at
chars_told ends t = run_chars ends 0 t

-- ---- elements

-- what a step of elements came to
data ElementCase (c : ℕ) (u : List ℕ) : Step ListFault (List (List ℕ)) → Type 0 where
  at_space : is_space c ≡ true → ElementCase c u (takes (λ l. l) 0)
  at_element : (e : List ℕ) (n : ℕ) (y : List ℕ) → drop n u ≡ y → ElementThen y e (c ∷ u) → AtEndOrSpace y → ElementCase c u (takes (λ l. e ∷ l) n)
  at_fault : (f : ListFault) → ElementCase c u (fails f)

close_case : (c : ℕ) (u e : List ℕ) (n : ℕ) (y : List ℕ) → drop n u ≡ y → ElementThen y e (c ∷ u) → ElementCase c u (behind_close e n y)
close_case c u e n [] r h = at_element e n [] r h tt
close_case c u e n (d ∷ y) r h =
    cond_both (is_space d) (takes (λ l. e ∷ l) n) (fails NotAList) (ElementCase c u) (λ s. at_element e n (d ∷ y) r h s) (λ s. at_fault NotAList)

braced_case : (u : List ℕ) (o : Option ℕ) → closing_brace 0 no_braces u ≡ o → ElementCase 123 u (braced_element o u)
braced_case u None e = at_fault NotAList
braced_case u (Some n) e =
    let f = found u 0 0 false n e in
    let len : n ≡ length f.before = omega (arith, f.place) in
    let front : take n u ≡ f.before = ap (take n) f.whole ∙ ap (λ k. take k (f.before ++ 125 ∷ f.behind)) len ∙ take-append_seam f.before (125 ∷ f.behind) in
    let back : drop (n + 1) u ≡ f.behind = ap (drop (n + 1)) f.whole ∙ ap (λ k. drop (k + 1) (f.before ++ 125 ∷ f.behind)) len ∙ drop-append-add f.before (125 ∷ f.behind) 1 in
    let spelled : ElementThen f.behind f.before (123 ∷ u) = subst (λ t. ElementThen f.behind f.before (123 ∷ t)) (sym f.whole) (braced f.before f.matched) in
    close_case 123 u (take n u) (n + 1) (drop (n + 1) u) refl
    (subst (λ y. ElementThen y (take n u) (123 ∷ u)) (sym back) (subst (λ x. ElementThen f.behind x (123 ∷ u)) (sym front) spelled))

quoted_case : (u : List ℕ) (o : Option ListFault) (e : List ℕ) (n : ℕ) (v : List ℕ) → drop n u ≡ v → CharsOutcome Quote u o e v → ElementCase 34 u (elim o [ None ↦ quoted_element e n v | Some f ↦ fails f ])
quoted_case u (Some f) e n v r h = at_fault f
quoted_case u None e n [] r h = at_fault NotAList
quoted_case u None e n (c ∷ v) r h =
    let quote : c ≡ 34 = eqb-true c 34 h.1 in
    close_case 34 u e (suc n) v (drop_one u v n c r) (in_quotes e u (subst (λ x. CharsThen Quote (x ∷ v) e u) quote h.0))

end_at_space : (y : List ℕ) → StopsAt Space y → AtEndOrSpace y
end_at_space [] a = tt
end_at_space (c ∷ y) a = a

bare_case : (c : ℕ) (u : List ℕ) (o : Option ListFault) (e : List ℕ) (n : ℕ) (v : List ℕ) → is_space c ≡ false → c == 34 ≡ false → c == 123 ≡ false → drop n (c ∷ u) ≡ v → CharsOutcome Space (c ∷ u) o e v
    → ElementCase c u (elim o [ None ↦ takes (λ l. e ∷ l) (n - 1) | Some f ↦ fails f ])
bare_case c u (Some f) e n v s q b r h = at_fault f
bare_case c u None e zero v s q b r h = let some = read_some c u v 0 s r (end_at_space v h.1) in absurd (omega arith)
bare_case c u None e (suc n) v s q b r h =
    let same : n ≡ suc n - 1 = omega arith in
    subst (λ k. ElementCase c u (takes (λ l. e ∷ l) k)) same (at_element e n v r (bare e (c ∷ u) (rw (s, q, b) refl) h.0) (end_at_space v h.1))

element_case : (c : ℕ) (u : List ℕ) → ElementCase c u (element_step (c ∷ u))
unfolding element_step quoted_step bare_step
element_case c u =
    let q = chars_at Quote u in
    let b = chars_at Space (c ∷ u) in
    cond_both (is_space c) (takes (λ l. [] ++ l) 0) _ (ElementCase c u) (λ s. at_space s)
    (λ s. cond_both (c == 123) (braced_element (closing_brace 0 no_braces u) u) _ (ElementCase c u)
    (λ k. subst (λ x. ElementCase x u (braced_element (closing_brace 0 no_braces u) u)) (sym (eqb-true c 123 k)) (braced_case u (closing_brace 0 no_braces u) refl))
    (λ k. cond_both (c == 34) (on_run q (λ e n. quoted_element e n (drop n u))) (on_run b (λ e n. takes (λ l. e ∷ l) (n - 1))) (ElementCase c u)
    (λ h. subst (λ x. ElementCase x u (elim q.fault [ None ↦ quoted_element q.items q.taken (drop q.taken u) | Some f ↦ fails f ])) (sym (eqb-true c 34 h))
    (quoted_case u q.fault q.items q.taken (drop q.taken u) refl (chars_told Quote u)))
    (λ h. bare_case c u b.fault b.items b.taken (drop b.taken (c ∷ u)) s h k refl (chars_told Space (c ∷ u)))))

-- ---- lists

abbrev ListOutcome : List ℕ → Option ListFault → List (List ℕ) → Type 0
ListOutcome t None l = Splits t l
ListOutcome t (Some f) l = Unit {0}

splits_space : (c : ℕ) (u : List ℕ) (l : List (List ℕ)) → is_space c ≡ true → Splits u l → Splits (c ∷ u) l
splits_space c u [] s h = (s, h)
splits_space c u (e ∷ l) s h = (h.0, h.1, (c ∷ h.2.0, ap (λ x. c ∷ x) h.2.1, (s, h.2.2)), h.3, h.4, h.5)

space_outcome : (c : ℕ) (u : List ℕ) (o : Option ListFault) (l : List (List ℕ)) → is_space c ≡ true → ListOutcome u o l → ListOutcome (c ∷ u) o l
space_outcome c u None l s h = splits_space c u l s h
space_outcome c u (Some f) l s h = tt

element_outcome : (c : ℕ) (u e y : List ℕ) (o : Option ListFault) (l : List (List ℕ)) → ElementThen y e (c ∷ u) → AtEndOrSpace y → ListOutcome y o l → ListOutcome (c ∷ u) o (e ∷ l)
element_outcome c u e y None l h a k = (c ∷ u, y, ([], refl, tt), h, a, k)
element_outcome c u e y (Some f) l h a k = tt

abbrev ListTold : List ℕ → Run ListFault (List (List ℕ)) → Type 0
ListTold t r = ListOutcome t r.fault r.items

after_element : (c : ℕ) (u : List ℕ) (s : Step ListFault (List (List ℕ))) (go : ℕ → Run ListFault (List (List ℕ))) → ElementCase c u s → ((k : ℕ) → ListTold (drop k u) (go k)) → ListTold (c ∷ u) (after_step [] s go)
after_element c u _ go (at_space s) ih = space_outcome c u (go 0).fault (go 0).items s (ih 0)
after_element c u _ go (at_element e n y r h a) ih = element_outcome c u e y (go n).fault (go n).items h a (subst (λ x. ListTold x (go n)) r (ih n))
after_element c u _ go (at_fault f) ih = tt

run_elements : (k : ℕ) (t : List ℕ) → ListTold (drop k t) (run [] element_step k t)
run_elements zero [] = tt
run_elements (suc k) [] = tt
run_elements (suc k) (c ∷ u) = run_elements k u
run_elements zero (c ∷ u) = after_element c u (element_step (c ∷ u)) (λ k. run [] element_step k u) (element_case c u) (λ k. run_elements k u)

without_fault_told : (t : List ℕ) (o : Option ListFault) (k l : List (List ℕ)) → ListOutcome t o k → without_fault k o ≡ Some l → Splits t l
without_fault_told t None k l h e = let same : k ≡ l = cc in subst (Splits t) same h
without_fault_told t (Some f) k l h e = absurd cc

list_told : (t : List ℕ) (l : List (List ℕ)) → list_of t ≡ Some l → Splits t l
unfolding list_of elements_at
list_told t l e = without_fault_told t (run [] element_step 0 t).fault (run [] element_step 0 t).items l (run_elements 0 t) e

pub splits_one : (t : List ℕ) (l : List (List ℕ)) → Splits t l ↔ (list_of t ≡ Some l)
splits_one t l = (splits_read t l, list_told t l)

pub reads_so : (t : List ℕ) (r : Result (List (List ℕ)) ListFault) → ListRead r (list_of t) → SplitsSo r t
reads_so t (Ok l) h = list_told t l h
reads_so t (Err NotAList) h = λ l k. let one = splits_read t l k in absurd cc
reads_so t (Err NoMemory) h = tt
