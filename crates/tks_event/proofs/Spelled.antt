-- What is spelled so is read so, and what is read so is spelled so.
use Rattle.std.proofs.Common.{◌≡◌, ℕ, zero, suc, ◌+◌, ◌-◌, ◌≤◌, Bool, true, false, not, ◌||◌, ◌==◌, List, [], ◌∷◌, ◌++◌, append-nil, append_assoc, length, length-append, drop, Option, Some, None, refl, sym, ap, ◌∙◌, subst, arith}
use Rattle.std.specs.Prelude.{nat_le}
use Rattle.std.specs.Option.{option_map}
use Rattle.std.proofs.lemmas.Bool.{eqb-true, cond_both, and_parts, leb-true, not-true}
use Rattle.std.proofs.lemmas.List.{drop_at}
use Rattle.tks_text.proofs.Tests.{or_case}
use Rattle.tks_text.proofs.Runs.{run_fails, run_takes}
use Rattle.tks_text.specs.Integer.{is_space, AreSpaces}
use Rattle.tks_text.specs.Text.{BeginsNot}
use Rattle.tks_text.specs.Run.{Step, fails, takes, Run, run, after_step}
use Rattle.tks_event.specs.Keysyms.{keysym_of}
use Rattle.tks_event.specs.Spelling.{is_bare, WordsThen, last, word, PatternThen, bare, in_brackets, Patterns, no_more, pattern}
use Rattle.tks_event.specs.Reading.{Words, words_at, said, then_behind, in_words, pressed, pattern_at, taken_pattern, pattern_step, without_fault, patterns_in}
use Rattle.tks_event.specs.declared.pattern.Repeated.{Repeated}
use Rattle.tks_event.proofs.WordsTold.{words_spelled, words_told}
use Rattle.tks_event.proofs.Saying.{said_spelled, says_told, says_filled}

-- ---- patterns

bare_parts : (c : ℕ) → is_bare c ≡ true → (c == 60) ≡ false
bare_parts c b = not-true (c == 60) (and_parts (nat_le c 126) (not (c == 60)) (and_parts (nat_le 33 c) _ b).1).1

pub pattern_spelled : (v t : List ℕ) (r : Repeated) → PatternThen v r t → pattern_at t ≡ Some (r, v)
unfolding pattern_at
pattern_spelled v _ _ (bare c k b e) = rw (b, bare_parts c b) (ap (λ o. then_behind (pressed o) v) e)
pattern_spelled v _ _ (in_brackets ws r u h s) = ap in_words (words_spelled v ws u h) ∙ ap (λ o. then_behind o v) (said_spelled ws r s)

abbrev PatternSo : List ℕ → Option (Repeated × List ℕ) → Type 0
PatternSo t None = Unit {0}
PatternSo t (Some x) = PatternThen x.1 x.0 t

words_so : (t v : List ℕ) (ws : List (List ℕ)) (o : Option Repeated) → words_at t ≡ Some (ws, v) → said ws ≡ o → PatternSo (60 ∷ t) (then_behind o v)
words_so t v ws None e f = tt
words_so t v ws (Some r) e f = let s = says_told ws r f in in_brackets ws r t (words_told t v ws e (says_filled ws r s)) s

brackets_so : (t : List ℕ) (x : Words) → words_at t ≡ x → PatternSo (60 ∷ t) (in_words x)
brackets_so t None e = tt
brackets_so t (Some x) e = words_so t x.1 x.0 (said x.0) e refl

bare_so : (c : ℕ) (t : List ℕ) (o : Option (List ℕ)) → is_bare c ≡ true → keysym_of c ≡ o → PatternSo (c ∷ t) (then_behind (pressed o) t)
bare_so c t None b e = tt
bare_so c t (Some k) b e = bare c k b e

pattern_so : (t : List ℕ) → PatternSo t (pattern_at t)
unfolding pattern_at
pattern_so [] = tt
pattern_so (c ∷ t) =
    cond_both (c == 60) (in_words (words_at t)) _ (PatternSo (c ∷ t)) (λ e. subst (λ d. PatternSo (d ∷ t) (in_words (words_at t))) (sym (eqb-true c 60 e)) (brackets_so t (words_at t) refl))
    (λ e. cond_both (is_bare c) (then_behind (pressed (keysym_of c)) t) None (PatternSo (c ∷ t)) (λ b. bare_so c t (keysym_of c) b refl) (λ b. tt))

pub pattern_told : (v t : List ℕ) (r : Repeated) → pattern_at t ≡ Some (r, v) → PatternThen v r t
pattern_told v t r e = subst (PatternSo t) e (pattern_so t)

-- a pattern takes something
pub record Front (t v : List ℕ) : Type 0 where
  pub first : ℕ
  pub more : List ℕ
  pub whole_text : t ≡ first ∷ more ++ v

words_front : (v : List ℕ) (ws : List (List ℕ)) (u : List ℕ) → WordsThen (62 ∷ v) ws u → (x : List ℕ) × (u ≡ x ++ v)
words_front v _ _ (last w s h k) = (w ++ (s ++ 62 ∷ []), sym (append_assoc w (s ++ 62 ∷ []) v ∙ ap (λ y. w ++ y) (append_assoc s (62 ∷ []) v)))
words_front v _ _ (word w s u ws h k l) =
    let f = words_front v ws u l in
    (w ++ (s ++ f.0), ap (λ y. w ++ (s ++ y)) f.1 ∙ sym (append_assoc w (s ++ f.0) v ∙ ap (λ y. w ++ y) (append_assoc s f.0 v)))

pub pattern_front : (v t : List ℕ) (r : Repeated) → PatternThen v r t → Front t v
pattern_front v _ _ (bare c k b e) = record { first = c; more = []; whole_text = refl }
pattern_front v _ _ (in_brackets ws r u h s) = let f = words_front v ws u h in record { first = 60; more = f.0; whole_text = ap (λ y. 60 ∷ y) f.1 }

-- a pattern begins with no white space
space_case : (c : ℕ) (b : Bool) → is_space c ≡ b → 33 ≤ c → b ≡ false
space_case c false e h = refl
space_case c true e h =
    or_case ((c == 32) || (c == 9)) (c == 10) e
    (λ f. or_case (c == 32) (c == 9) f (λ g. absurd (omega (arith, eqb-true c 32 g))) (λ g. absurd (omega (arith, eqb-true c 9 g)))) (λ f. absurd (omega (arith, eqb-true c 10 f)))

not_space : (c : ℕ) (t : List ℕ) → is_bare c ≡ true → is_space c ≡ false
not_space c t b = space_case c (is_space c) refl (leb-true 33 c (and_parts (nat_le 33 c) _ b).0)

pub pattern_begins : (v t : List ℕ) (r : Repeated) → PatternThen v r t → BeginsNot is_space t
pattern_begins v _ _ (bare c k b e) = not_space c v b
pattern_begins v _ _ (in_brackets ws r u h s) = refl

-- ---- patterns of a text, one after the other

pub no_patterns : patterns_in [] ≡ Some []
unfolding patterns_in
no_patterns = refl

abbrev NoFault : Type 0
NoFault = Unit {0}

without_fault_by : (r : Repeated) (rs : List Repeated) (f : Option NoFault) → without_fault (r ∷ rs) f ≡ option_map (λ rs. r ∷ rs) (without_fault rs f)
without_fault_by r rs None = refl
without_fault_by r rs (Some f) = refl

without_fault_more : (r : Repeated) (x : Run NoFault (List Repeated)) → without_fault (r ∷ x.items) x.fault ≡ option_map (λ rs. r ∷ rs) (without_fault x.items x.fault)
without_fault_more r x = without_fault_by r x.items x.fault

abbrev without_fault_run : Run NoFault (List Repeated) → Option (List Repeated)
without_fault_run x = without_fault x.items x.fault

pub patterns_space : (c : ℕ) (t : List ℕ) → is_space c ≡ true → patterns_in (c ∷ t) ≡ patterns_in t
unfolding patterns_in pattern_step
patterns_space c t s = ap without_fault_run (run_takes [] pattern_step (c ∷ t) (λ rs. rs) 0 refl (rw s refl) (omega arith))

tail_of : {c d : ℕ} {t u : List ℕ} → c ∷ t ≡ d ∷ u → t ≡ u
tail_of e = cc

pub patterns_item : (c : ℕ) (t v : List ℕ) (r : Repeated) → is_space c ≡ false → pattern_at (c ∷ t) ≡ Some (r, v) → patterns_in (c ∷ t) ≡ option_map (λ rs. r ∷ rs) (patterns_in v)
unfolding patterns_in pattern_step
patterns_item c t v r s e =
    let f = pattern_front v (c ∷ t) r (pattern_told v (c ∷ t) r e) in
    let tail : t ≡ f.more ++ v = tail_of f.whole_text in
    let count : length t - length v ≡ length f.more = omega (arith, ap length tail, length-append f.more v) in
    let one : 1 + length f.more ≡ suc (length f.more) = omega arith in
    let rest : drop (1 + length f.more) (c ∷ t) ≡ v = ap (λ n. drop n (c ∷ t)) one ∙ ap (drop (length f.more)) tail ∙ drop_at f.more v (length f.more) refl in
    let step : pattern_step (c ∷ t) ≡ takes (λ rs. r ∷ rs) (length f.more) = rw s (ap (taken_pattern (length t)) e ∙ ap (λ n. takes (λ rs. r ∷ rs) n) count) in
    ap without_fault_run (run_takes [] pattern_step (c ∷ t) (λ rs. r ∷ rs) (length f.more) refl step (omega (arith, ap length tail, length-append f.more v)))
    ∙ without_fault_more r (run [] pattern_step 0 (drop (1 + length f.more) (c ∷ t)))
    ∙ ap (λ u. option_map (λ rs. r ∷ rs) (without_fault_run (run [] pattern_step 0 u))) rest

pub patterns_bad : (c : ℕ) (t : List ℕ) → is_space c ≡ false → pattern_at (c ∷ t) ≡ None → patterns_in (c ∷ t) ≡ None
unfolding patterns_in pattern_step
patterns_bad c t s e = ap without_fault_run (run_fails [] pattern_step (c ∷ t) tt refl (rw s (ap (taken_pattern (length t)) e)))

pub spaces_passed : (s t : List ℕ) → AreSpaces s → patterns_in (s ++ t) ≡ patterns_in t
spaces_passed [] t h = refl
spaces_passed (c ∷ s) t h = patterns_space c (s ++ t) h.0 ∙ spaces_passed s t h.1

none_at_end : (v : List ℕ) (r : Repeated) → pattern_at [] ≡ Some (r, v) → ⊥
unfolding pattern_at
none_at_end v r e = cc

pub item_read : (u v : List ℕ) (r : Repeated) → PatternThen v r u → patterns_in u ≡ option_map (λ rs. r ∷ rs) (patterns_in v)
item_read [] v r h = let e = pattern_spelled v [] r h in absurd (none_at_end v r e)
item_read (c ∷ u) v r h = patterns_item c u v r (pattern_begins v (c ∷ u) r h) (pattern_spelled v (c ∷ u) r h)

pub patterns_spelled : (t : List ℕ) (rs : List Repeated) → Patterns rs t → patterns_in t ≡ Some rs
patterns_spelled _ _ (no_more t h) = ap patterns_in (sym (append-nil t)) ∙ spaces_passed t [] h ∙ no_patterns
patterns_spelled _ _ (pattern s u v r rs h p k) = spaces_passed s u h ∙ item_read u v r p ∙ ap (option_map (λ rs. r ∷ rs)) (patterns_spelled v rs k)

-- what a step came to
data StepCase (c : ℕ) (u : List ℕ) : Step NoFault (List Repeated) → Type 0 where
  at_space : is_space c ≡ true → StepCase c u (takes (λ rs. rs) 0)
  at_pattern : (r : Repeated) (n : ℕ) (v : List ℕ) → drop n u ≡ v → PatternThen v r (c ∷ u) → StepCase c u (takes (λ rs. r ∷ rs) n)
  at_fault : (f : NoFault) → StepCase c u (fails f)

pattern_case : (c : ℕ) (u : List ℕ) (o : Option (Repeated × List ℕ)) → pattern_at (c ∷ u) ≡ o → StepCase c u (taken_pattern (length u) o)
pattern_case c u None e = at_fault tt
pattern_case c u (Some x) e =
    let p = pattern_told x.1 (c ∷ u) x.0 e in
    let f = pattern_front x.1 (c ∷ u) x.0 p in
    let tail : u ≡ f.more ++ x.1 = tail_of f.whole_text in
    let count : length u - length x.1 ≡ length f.more = omega (arith, ap length tail, length-append f.more x.1) in
    at_pattern x.0 (length u - length x.1) x.1 (ap (λ n. drop n u) count ∙ ap (drop (length f.more)) tail ∙ drop_at f.more x.1 (length f.more) refl) p

step_case : (c : ℕ) (u : List ℕ) → StepCase c u (pattern_step (c ∷ u))
unfolding pattern_step
step_case c u = cond_both (is_space c) (takes (λ rs. rs) 0) (taken_pattern (length u) (pattern_at (c ∷ u))) (StepCase c u) (λ s. at_space s) (λ s. pattern_case c u (pattern_at (c ∷ u)) refl)

abbrev Outcome : List ℕ → Option NoFault → List Repeated → Type 0
Outcome t None rs = Patterns rs t
Outcome t (Some f) rs = Unit {0}

space_more : (c : ℕ) (u : List ℕ) (rs : List Repeated) → is_space c ≡ true → Patterns rs u → Patterns rs (c ∷ u)
space_more c _ _ s (no_more t h) = no_more (c ∷ t) (s, h)
space_more c _ _ s (pattern e u v r rs h p k) = pattern (c ∷ e) u v r rs (s, h) p k

space_outcome : (c : ℕ) (u : List ℕ) (o : Option NoFault) (rs : List Repeated) → is_space c ≡ true → Outcome u o rs → Outcome (c ∷ u) o rs
space_outcome c u None rs s h = space_more c u rs s h
space_outcome c u (Some f) rs s h = tt

item_outcome : (c : ℕ) (u v : List ℕ) (r : Repeated) (o : Option NoFault) (rs : List Repeated) → PatternThen v r (c ∷ u) → Outcome v o rs → Outcome (c ∷ u) o (r ∷ rs)
item_outcome c u v r None rs p h = pattern [] (c ∷ u) v r rs tt p h
item_outcome c u v r (Some f) rs p h = tt

abbrev Told : List ℕ → Run NoFault (List Repeated) → Type 0
Told t x = Outcome t x.fault x.items

after_case : (c : ℕ) (u : List ℕ) (s : Step NoFault (List Repeated)) (go : ℕ → Run NoFault (List Repeated)) → StepCase c u s → ((k : ℕ) → Told (drop k u) (go k)) → Told (c ∷ u) (after_step [] s go)
after_case c u _ go (at_space s) ih = space_outcome c u (go 0).fault (go 0).items s (ih 0)
after_case c u _ go (at_pattern r n v e p) ih = item_outcome c u v r (go n).fault (go n).items p (subst (λ x. Told x (go n)) e (ih n))
after_case c u _ go (at_fault f) ih = tt

run_patterns : (k : ℕ) (t : List ℕ) → Told (drop k t) (run [] pattern_step k t)
run_patterns zero [] = no_more [] tt
run_patterns (suc k) [] = no_more [] tt
run_patterns (suc k) (c ∷ u) = run_patterns k u
run_patterns zero (c ∷ u) = after_case c u (pattern_step (c ∷ u)) (λ k. run [] pattern_step k u) (step_case c u) (λ k. run_patterns k u)

without_fault_told : (t : List ℕ) (o : Option NoFault) (ps rs : List Repeated) → Outcome t o ps → without_fault ps o ≡ Some rs → Patterns rs t
without_fault_told t None ps rs h e = let same : ps ≡ rs = cc in subst (λ x. Patterns x t) same h
without_fault_told t (Some f) ps rs h e = absurd cc

pub patterns_told : (t : List ℕ) (rs : List Repeated) → patterns_in t ≡ Some rs → Patterns rs t
unfolding patterns_in
patterns_told t rs e = without_fault_told t (run [] pattern_step 0 t).fault (run [] pattern_step 0 t).items rs (run_patterns 0 t) e
