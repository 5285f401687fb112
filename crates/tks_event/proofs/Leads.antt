-- Modifiers and repeat words before a type and a detail.
use Rattle.std.proofs.Common.{◌≡◌, ℕ, Bool, true, false, ◌&&◌, not, ◌==◌, List, [], ◌∷◌, Option, Some, None, refl, sym, ap, ◌∙◌, subst}
use Rattle.std.specs.Prelude.{bit_or, is_none, if◌then◌else◌}
use Rattle.std.specs.List.{list_all}
use Rattle.std.specs.Option.{option_map}
use Rattle.std.specs.Int.Bits.{or_zero_r}
use Rattle.std.proofs.lemmas.Nat.{or_comm}
use Rattle.std.proofs.lemmas.Bool.{cond_both, eqb-true, and_parts, not-true}
use Rattle.tks_text.specs.Text.{same_text}
use Rattle.tks_event.specs.Keysyms.{named_in, or_else, is_keysym}
use Rattle.tks_event.specs.Kinds.{kind_named, is_button}
use Rattle.tks_event.specs.Modifiers.{modifier_named, key_modifiers, first_modifiers, later_modifiers, button_modifiers, later_button_modifiers, bit_of, with_modifier}
use Rattle.tks_event.specs.Spelling.{repeats, times_named, with_more, repeated}
use Rattle.tks_event.specs.Reading.{Words, with_char, with_word, begins_no_word, words_at, only, both, named_by, said_by, said, repeated_once, then_behind, in_words}
use Rattle.tks_event.specs.View.{no_lead, added_by, added, typed_words, under_lead, led}
use Rattle.tks_event.specs.declared.lead.Lead.{Lead}
use Rattle.tks_event.specs.declared.kind.Kind.{Kind}
use Rattle.tks_event.specs.declared.modifiers.Modifier.{Modifier}
use Rattle.tks_event.specs.declared.pattern.Repeated.{Repeated}
use Rattle.tks_event.proofs.Sets.{or_assoc}

-- ---- there is a word before each end

abbrev NotEmpty : Words → Type 0
NotEmpty None = Unit {0}
NotEmpty (Some ([], v)) = ⊥
NotEmpty (Some (w ∷ ws, v)) = Unit {0}

char_some : (c : ℕ) (x : Words) → NotEmpty (with_char c x)
char_some c None = tt
char_some c (Some ([], v)) = tt
char_some c (Some (w ∷ ws, v)) = tt

word_some : (w : List ℕ) (x : Words) → NotEmpty (with_word w x)
word_some w None = tt
word_some w (Some x) = tt

words_some : (t : List ℕ) → NotEmpty (words_at t)
unfolding words_at
words_some [] = tt
words_some (c ∷ t) =
    cond_both (c == 62) (Some ([] ∷ [], t)) _ NotEmpty (λ e. tt)
    (λ e. cond_both _ _ (with_char c (words_at t)) NotEmpty
    (λ s. cond_both (begins_no_word t) (words_at t) (with_word [] (words_at t)) NotEmpty (λ b. words_some t) (λ b. word_some [] (words_at t)))
    (λ s. char_some c (words_at t)))

longer_typed : (w d : List ℕ) (x : Words) → NotEmpty x → typed_words w (with_word d x) ≡ None
longer_typed w d None h = refl
longer_typed w d (Some ([], v)) h = absurd h
longer_typed w d (Some (e ∷ ws, v)) h = refl

-- a type has no more than one word behind it
pub more_words : (w d t : List ℕ) → typed_words w (with_word d (words_at t)) ≡ None
more_words w d t = longer_typed w d (words_at t) (words_some t)

-- ---- what names a modifier or repeats names nothing else

pub is_same_text : (t u : List ℕ) → same_text t u ≡ true → t ≡ u
is_same_text [] [] e = refl
is_same_text [] (d ∷ u) e = absurd cc
is_same_text (c ∷ t) [] e = absurd cc
is_same_text (c ∷ t) (d ∷ u) e =
    let p = and_parts (c == d) (same_text t u) e in
    let heads = eqb-true c d p.0 in
    let tails = is_same_text t u p.1 in
    cc

module _ {X : Type 0} where
  -- what holds of the names of a table holds of what it has something under
  pub of_named : (p : List ℕ → Bool) (table : List (List ℕ × X)) (t : List ℕ) (x : X) → list_all (λ row. p row.0) table ≡ true → named_in table t ≡ Some x → p t ≡ true
  of_named p [] t x h e = absurd cc
  of_named p (row ∷ table) t x h e =
      let k = and_parts (p row.0) (list_all (λ r. p r.0) table) h in
      cond_both (same_text t row.0) (Some row.1) (named_in table t) (λ o. o ≡ Some x → p t ≡ true)
      (λ s f. subst (λ u. p u ≡ true) (sym (is_same_text t row.0 s)) k.0) (λ s f. of_named p table t x k.1 f) e

of_else : {X : Type 0} (a b : Option X) (x : X) (P : Type 0) → or_else a b ≡ Some x → (a ≡ Some x → P) → (b ≡ Some x → P) → P
of_else None b x P e f g = g e
of_else (Some y) b x P e f g = f e

-- no type, no button and no keysym
abbrev pub names_nothing : List ℕ → Bool
names_nothing t = is_none (kind_named t) && (not (is_button t) && not (is_keysym t))

pub modifier_names_nothing : (t : List ℕ) (m : Modifier) → modifier_named t ≡ Some m → names_nothing t ≡ true
unfolding is_keysym
modifier_names_nothing t m e =
    of_else _ _ m _ e (of_named names_nothing key_modifiers t m refl)
    (λ e. of_else _ _ m _ e (of_named names_nothing first_modifiers t m refl)
    (λ e. of_else _ _ m _ e (of_named names_nothing later_modifiers t m refl)
    (λ e. of_else _ _ m _ e (of_named names_nothing button_modifiers t m refl) (of_named names_nothing later_button_modifiers t m refl))))

pub repeat_names_nothing : (t : List ℕ) (n : ℕ) → times_named t ≡ Some n → names_nothing t ≡ true
unfolding is_keysym
repeat_names_nothing t n e = of_named names_nothing repeats t n refl e

only_none : (k : Option Kind) (t : List ℕ) → is_none k && (not (is_button t) && not (is_keysym t)) ≡ true → only k t ≡ None
only_none (Some k) t h = absurd cc
only_none None t h =
    let p = and_parts (not (is_button t)) (not (is_keysym t)) h in
    rw (not-true (is_button t) p.0, not-true (is_keysym t) p.1) refl

only_nothing : (t : List ℕ) → names_nothing t ≡ true → only (kind_named t) t ≡ None
only_nothing t h = only_none (kind_named t) t h

both_none : (k : Option Kind) (d : List ℕ) → is_none k ≡ true → both k d ≡ None
both_none None d h = refl
both_none (Some k) d h = absurd cc

named_nothing : (t : List ℕ) (ws : List (List ℕ)) → names_nothing t ≡ true → named_by t ws ≡ None
named_nothing t [] h = only_nothing t h
named_nothing t (d ∷ []) h = both_none (kind_named t) d (and_parts (is_none (kind_named t)) _ h).0
named_nothing t (d ∷ e ∷ ws) h = refl

-- ---- what was read, and what follows

abbrev lead_times : ℕ → ℕ → ℕ → Option Lead
lead_times before set times = if before == 1 then Some (record { modifiers = set; times = times }) else (if times == 1 then Some (record { modifiers = set; times = before }) else None)

pub led_start : (x : Option (Repeated × List ℕ)) → led no_lead x ≡ x
led_start None = refl
led_start (Some x) = ap (λ n. then_behind (option_map (under_lead x.0) (lead_times 1 n x.0.times)) x.1) (or_zero_r x.0.pattern.modifiers)

or_swapped : (a b c : ℕ) → bit_or (bit_or a b) c ≡ bit_or a (bit_or c b)
or_swapped a b c = or_assoc a b c ∙ ap (bit_or a) (or_comm b c)

led_modifier : (lead : Lead) (m : Modifier) (o : Option Repeated) (v : List ℕ) → led lead (then_behind (option_map (with_more m) o) v) ≡ led (record { modifiers = with_modifier m lead.modifiers; times = lead.times }) (then_behind o v)
led_modifier lead m None v = refl
led_modifier lead m (Some r) v = ap (λ n. then_behind (option_map (under_lead r) (lead_times lead.times n r.times)) v) (or_swapped r.pattern.modifiers (bit_of m) lead.modifiers)

led_repeat : (set n : ℕ) (o : Option Repeated) (v : List ℕ) → (n == 1) ≡ false → led (record { modifiers = set; times = 1 }) (then_behind (repeated_once n o) v) ≡ led (record { modifiers = set; times = n }) (then_behind o v)
led_repeat set n None v h = refl
led_repeat set n (Some r) v h =
    let step : (b : Bool) → (r.times == 1) ≡ b → led (record { modifiers = set; times = 1 }) (then_behind (if b then Some (repeated n r) else None) v) ≡ then_behind (option_map (under_lead r) (if b then Some (record { modifiers = bit_or r.pattern.modifiers set; times = n }) else None)) v =
    λ b. elim b as (λ x. (r.times == 1) ≡ x → led (record { modifiers = set; times = 1 }) (then_behind (if x then Some (repeated n r) else None) v) ≡ then_behind (option_map (under_lead r) (if x then Some (record { modifiers = bit_or r.pattern.modifiers set; times = n }) else None)) v) [
      | true ↦ λ e. refl
      | false ↦ λ e. refl
    ] in
    rw h (step (r.times == 1) refl)

led_twice : (lead : Lead) (n : ℕ) (o : Option Repeated) (v : List ℕ) → (lead.times == 1) ≡ false → (n == 1) ≡ false → led lead (then_behind (repeated_once n o) v) ≡ None
led_twice lead n None v h k = refl
led_twice lead n (Some r) v h k =
    cond_both (r.times == 1) (Some (repeated n r)) None (λ o. led lead (then_behind o v) ≡ None) (λ e. rw (h, k) refl) (λ e. refl)

more_than_once : (table : List (List ℕ × ℕ)) (t : List ℕ) (n : ℕ) → list_all (λ row. not (row.1 == 1)) table ≡ true → named_in table t ≡ Some n → (n == 1) ≡ false
more_than_once [] t n h e = absurd cc
more_than_once (row ∷ table) t n h e =
    let k = and_parts (not (row.1 == 1)) (list_all (λ r. not (r.1 == 1)) table) h in
    cond_both (same_text t row.0) (Some row.1) (named_in table t) (λ o. o ≡ Some n → (n == 1) ≡ false)
    (λ s f. let same : row.1 ≡ n = cc in subst (λ m. (m == 1) ≡ false) same (not-true (row.1 == 1) k.0)) (λ s f. more_than_once table t n k.1 f) e

repeat_more : (t : List ℕ) (n : ℕ) → times_named t ≡ Some n → (n == 1) ≡ false
repeat_more t n e = more_than_once repeats t n refl e

pub said_is : (w : List ℕ) (ws : List (List ℕ)) (m : Option Modifier) (n : Option ℕ) → modifier_named w ≡ m → times_named w ≡ n → said (w ∷ ws) ≡ said_by m n (named_by w ws) (said ws)
unfolding said
said_is w ws m n e f = ap (λ y. said_by y (times_named w) (named_by w ws) (said ws)) e ∙ ap (λ y. said_by m y (named_by w ws) (said ws)) f

repeat_by : (lead longer : Lead) (w : List ℕ) (y : List (List ℕ) × List ℕ) (n : ℕ) → modifier_named w ≡ None → times_named w ≡ Some n → (lead.times == 1) ≡ true → Some (record { modifiers = lead.modifiers; times = n }) ≡ Some longer
    → led lead (in_words (with_word w (Some y))) ≡ led longer (in_words (Some y))
repeat_by lead longer w y n e f b k =
    let same : record { modifiers = lead.modifiers; times = n } ≡ longer = cc in
    let one : lead.times ≡ 1 = eqb-true lead.times 1 b in
    let start : lead ≡ record { modifiers = lead.modifiers; times = 1 } = ap (λ t. record { modifiers = lead.modifiers; times = t }) one in
    ap (λ o. led lead (then_behind o y.1)) (said_is w y.0 None (Some n) e f)
    ∙ ap (λ l. led l (then_behind (repeated_once n (said y.0)) y.1)) start
    ∙ led_repeat lead.modifiers n (said y.0) y.1 (repeat_more w n f)
    ∙ ap (λ l. led l (then_behind (said y.0) y.1)) same

longer_by : (lead longer : Lead) (w : List ℕ) (x : Words) (m : Option Modifier) (n : Option ℕ) → modifier_named w ≡ m → times_named w ≡ n → added_by lead m n ≡ Some longer → led lead (in_words (with_word w x)) ≡ led longer (in_words x)
longer_by lead longer w None m n e f h = refl
longer_by lead longer w (Some y) (Some m) n e f h =
    let same : record { modifiers = with_modifier m lead.modifiers; times = lead.times } ≡ longer = cc in
    ap (λ o. led lead (then_behind o y.1)) (said_is w y.0 (Some m) n e f) ∙ led_modifier lead m (said y.0) y.1 ∙ ap (λ l. led l (then_behind (said y.0) y.1)) same
longer_by lead longer w (Some y) None None e f h = absurd cc
longer_by lead longer w (Some y) None (Some n) e f h =
    cond_both (lead.times == 1) (Some (record { modifiers = lead.modifiers; times = n })) None (λ o. o ≡ Some longer → led lead (in_words (with_word w (Some y))) ≡ led longer (in_words (Some y)))
    (λ b k. repeat_by lead longer w y n e f b k) (λ b k. absurd cc) h

pub led_longer : (lead longer : Lead) (w : List ℕ) (x : Words) → added lead w ≡ Some longer → led lead (in_words (with_word w x)) ≡ led longer (in_words x)
led_longer lead longer w x e = longer_by lead longer w x (modifier_named w) (times_named w) refl refl e

last_by : (lead : Lead) (w v : List ℕ) (m : Option Modifier) (n : Option ℕ) → modifier_named w ≡ m → times_named w ≡ n → only (kind_named w) w ≡ said (w ∷ [])
unfolding said
last_by lead w v (Some m) n e f = only_nothing w (modifier_names_nothing w m e) ∙ sym (said_is w [] (Some m) n e f)
last_by lead w v None (Some n) e f = only_nothing w (repeat_names_nothing w n f) ∙ sym (said_is w [] None (Some n) e f)
last_by lead w v None None e f = sym (said_is w [] None None e f)

-- a last word
pub led_last : (lead : Lead) (w v : List ℕ) → led lead (then_behind (only (kind_named w) w) v) ≡ led lead (in_words (Some (w ∷ [], v)))
led_last lead w v = ap (λ o. led lead (then_behind o v)) (last_by lead w v (modifier_named w) (times_named w) refl refl)

typed_by : (lead : Lead) (w : List ℕ) (x : Words) (m : Option Modifier) (n : Option ℕ) → modifier_named w ≡ m → times_named w ≡ n → added_by lead m n ≡ None → led lead (typed_words w x) ≡ led lead (in_words (with_word w x))
typed_by lead w None m n e f h = refl
typed_by lead w (Some y) (Some m) n e f h = absurd cc
typed_by lead w (Some y) None None e f h = ap (λ o. led lead (then_behind o y.1)) (sym (said_is w y.0 None None e f))
typed_by lead w (Some y) None (Some n) e f h =
    cond_both (lead.times == 1) (Some (record { modifiers = lead.modifiers; times = n })) None (λ o. o ≡ None → led lead (typed_words w (Some y)) ≡ led lead (in_words (with_word w (Some y))))
    (λ b k. absurd cc)
    (λ b k.
    ap (λ o. led lead (then_behind o y.1)) (named_nothing w y.0 (repeat_names_nothing w n f))
    ∙ sym (led_twice lead n (said y.0) y.1 b (repeat_more w n f))
    ∙ ap (λ o. led lead (then_behind o y.1)) (sym (said_is w y.0 None (Some n) e f)))
    h

-- a word that is no modifier and no first repeat word, with those behind it
pub led_typed : (lead : Lead) (w : List ℕ) (x : Words) → added lead w ≡ None → led lead (typed_words w x) ≡ led lead (in_words (with_word w x))
led_typed lead w x e = typed_by lead w x (modifier_named w) (times_named w) refl refl e
