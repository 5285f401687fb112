-- The canonical spelling of a sequence spells it.
use Rattle.std.proofs.Common.{◌≡◌, ℕ, zero, suc, ◌+◌, ◌-◌, ◌<◌, ◌≤◌, Bool, true, false, not, ◌&&◌, ◌||◌, ◌==◌, List, [], ◌∷◌, ◌++◌, append-nil, append_assoc, Some, refl, sym, ap, ◌∙◌, subst, arith}
use Rattle.std.specs.Prelude.{codes, nat_lt, nat_le, bit_or, if◌then◌else◌}
use Rattle.std.specs.List.{AllByRecursion, list_all}
use Rattle.std.proofs.lemmas.Bool.{eqb-true, cond_both, and_parts, and_from, ltb-true, leb-true, agree_below_at, not-true}
use Rattle.tks_text.specs.Text.{same_text}
use Rattle.tks_text.proofs.Tests.{or_case}
use Rattle.tks_event.specs.Canonical.{dashed, repeat_text, modifiers_text, detail_text, physical_text, virtual_text, pattern_text, near_count, canonical}
use Rattle.tks_event.specs.Keysyms.{is_alphanumeric, is_keysym}
use Rattle.tks_event.specs.Kinds.{kind_named, kind_name, same_kind, is_button, is_detail}
use Rattle.tks_event.specs.Modifiers.{bit_of, all_bits, has, modifier_named, modifier_name, all_modifiers}
use Rattle.tks_event.specs.Sequences.{near_ones, all_events, is_some_text, is_name, is_physical, same_pattern, may_follow, is_physical_sequence, is_virtual_sequence, is_sequence}
use Rattle.tks_event.specs.Spelling.{times_named, ends_word, IsWord, WordsThen, last, word, once, repeated, Says, names, modifier, repeat, type, type_and_detail, virtual_one, PatternThen, in_brackets, Patterns, no_more, pattern, Spells, events, virtual_event}
use Rattle.tks_event.specs.declared.kind.Kind.{Kind}
use Rattle.tks_event.specs.declared.kind.Kind.TheVariants as kind
use Rattle.tks_event.specs.declared.modifiers.Modifier.{Modifier}
use Rattle.tks_event.specs.declared.modifiers.Modifier.TheVariants as modifier_of
use Rattle.tks_event.specs.declared.pattern.Pattern.{Pattern}
use Rattle.tks_event.specs.declared.pattern.Repeated.{Repeated}
use Rattle.tks_event.proofs.Bits.{union_of, union_all}
use Rattle.tks_event.proofs.Leads.{is_same_text}
use Rattle.tks_event.proofs.Legal.{keysym_so}

-- ---- words

abbrev is_word : List ℕ → Bool
is_word w = is_some_text w && list_all (λ c. not (ends_word c)) w

no_ends : (w : List ℕ) → list_all (λ c. not (ends_word c)) w ≡ true → AllByRecursion (λ c. ends_word c ≡ false) w
no_ends [] h = tt
no_ends (c ∷ w) h = let p = and_parts (not (ends_word c)) (list_all (λ c. not (ends_word c)) w) h in (not-true (ends_word c) p.0, no_ends w p.1)

word_is : (w : List ℕ) → is_word w ≡ true → IsWord w
word_is [] h = absurd cc
word_is (c ∷ w) h = (omega arith, no_ends (c ∷ w) h)

either_way : (a b : Bool) → not a || b ≡ true → a ≡ true → b ≡ true
either_way true b h k = h
either_way false b h k = absurd cc

letter_below : (c : ℕ) → is_alphanumeric c ≡ true → c < 128
letter_below c h =
    or_case ((nat_le 48 c && nat_le c 57) || (nat_le 65 c && nat_le c 90)) (nat_le 97 c && nat_le c 122) h
    (λ f. or_case (nat_le 48 c && nat_le c 57) (nat_le 65 c && nat_le c 90) f
    (λ g. omega (arith, leb-true c 57 (and_parts (nat_le 48 c) (nat_le c 57) g).1)) (λ g. omega (arith, leb-true c 90 (and_parts (nat_le 65 c) (nat_le c 90) g).1)))
    (λ f. omega (arith, leb-true c 122 (and_parts (nat_le 97 c) (nat_le c 122) f).1))

letter_word : (c : ℕ) → is_alphanumeric c ≡ true → is_word (c ∷ []) ≡ true
letter_word c h = and_from (not (ends_word c)) true (either_way (is_alphanumeric c) (not (ends_word c)) (agree_below_at (λ c. not (is_alphanumeric c) || not (ends_word c)) (λ _. true) 128 c refl (letter_below c h)) h) refl

keysym_word : (d : List ℕ) → is_keysym d ≡ true → is_word d ≡ true
keysym_word d h = keysym_so is_word letter_word d (refl, refl, refl, refl) (refl, refl, refl, refl, refl) h

button_word : (d : List ℕ) → is_button d ≡ true → is_word d ≡ true
button_word [] h = absurd cc
button_word (c ∷ []) h =
    and_from (not (ends_word c)) true
    (either_way (nat_le 49 c && nat_le c 53) (not (ends_word c)) (agree_below_at (λ c. not (nat_le 49 c && nat_le c 53) || not (ends_word c)) (λ _. true) 128 c refl (omega (arith, leb-true c 53 (and_parts (nat_le 49 c) (nat_le c 53) h).1))) h)
    refl
button_word (c ∷ d ∷ t) h = absurd cc

detail_word : (k : Kind) (d : List ℕ) → is_detail k d ≡ true → IsWord d
detail_word kind.KeyPress d h = word_is d (keysym_word d h)
detail_word kind.KeyRelease d h = word_is d (keysym_word d h)
detail_word kind.ButtonPress d h = word_is d (button_word d h)
detail_word kind.ButtonRelease d h = word_is d (button_word d h)
detail_word kind.FocusIn d h = absurd cc
detail_word kind.FocusOut d h = absurd cc
detail_word kind.Virtual d h = absurd cc

modifier_word : (m : Modifier) → is_word (modifier_name m) ≡ true
modifier_word modifier_of.Shift = refl
modifier_word modifier_of.Lock = refl
modifier_word modifier_of.Control = refl
modifier_word modifier_of.Mod1 = refl
modifier_word modifier_of.Mod2 = refl
modifier_word modifier_of.Mod3 = refl
modifier_word modifier_of.Mod4 = refl
modifier_word modifier_of.Mod5 = refl
modifier_word modifier_of.Button1 = refl
modifier_word modifier_of.Button2 = refl
modifier_word modifier_of.Button3 = refl
modifier_word modifier_of.Button4 = refl
modifier_word modifier_of.Button5 = refl

modifier_reads : (m : Modifier) → modifier_named (modifier_name m) ≡ Some m
modifier_reads modifier_of.Shift = refl
modifier_reads modifier_of.Lock = refl
modifier_reads modifier_of.Control = refl
modifier_reads modifier_of.Mod1 = refl
modifier_reads modifier_of.Mod2 = refl
modifier_reads modifier_of.Mod3 = refl
modifier_reads modifier_of.Mod4 = refl
modifier_reads modifier_of.Mod5 = refl
modifier_reads modifier_of.Button1 = refl
modifier_reads modifier_of.Button2 = refl
modifier_reads modifier_of.Button3 = refl
modifier_reads modifier_of.Button4 = refl
modifier_reads modifier_of.Button5 = refl

-- a word and a dash, then words
dash_then : (v w u : List ℕ) (ws : List (List ℕ)) → IsWord w → WordsThen v ws u → WordsThen v (w ∷ ws) (dashed w ++ u)
dash_then v w u ws h k = subst (WordsThen v (w ∷ ws)) (sym (append_assoc w (45 ∷ []) u)) (word w (45 ∷ []) u ws h (omega arith, (refl, tt)) k)

-- ---- a type and a detail

abbrev detail_words : List ℕ → List (List ℕ)
detail_words [] = []
detail_words (c ∷ d) = (c ∷ d) ∷ []

record Core (k : Kind) (d v : List ℕ) : Type 0 where
  said : Says (kind_name k ∷ detail_words d) (once k 0 d)
  spelled : WordsThen (62 ∷ v) (kind_name k ∷ detail_words d) (kind_name k ++ (detail_text d ++ 62 ∷ v))

core_of : (k : Kind) (d v : List ℕ) → kind_named (kind_name k) ≡ Some k → is_word (kind_name k) ≡ true → not (is_some_text d) || is_detail k d ≡ true → Core k d v
core_of k [] v e w h = record { said = names (kind_name k ∷ []) k [] (type (kind_name k) k e); spelled = last (kind_name k) [] (word_is (kind_name k) w) tt }
core_of k (c ∷ d) v e w h = record {
  said = names (kind_name k ∷ (c ∷ d) ∷ []) k (c ∷ d) (type_and_detail (kind_name k) (c ∷ d) k e h);
  spelled = word (kind_name k) (45 ∷ []) ((c ∷ d) ++ 62 ∷ v) ((c ∷ d) ∷ []) (word_is (kind_name k) w) (omega arith, (refl, tt)) (last (c ∷ d) [] (detail_word k (c ∷ d) h) tt);
}

core : (k : Kind) (d v : List ℕ) → not (same_kind k kind.Virtual) ≡ true → not (is_some_text d) || is_detail k d ≡ true → Core k d v
core kind.KeyPress d v n h = core_of kind.KeyPress d v refl refl h
core kind.KeyRelease d v n h = core_of kind.KeyRelease d v refl refl h
core kind.ButtonPress d v n h = core_of kind.ButtonPress d v refl refl h
core kind.ButtonRelease d v n h = core_of kind.ButtonRelease d v refl refl h
core kind.FocusIn d v n h = core_of kind.FocusIn d v refl refl h
core kind.FocusOut d v n h = core_of kind.FocusOut d v refl refl h
core kind.Virtual d v n h = absurd cc

-- ---- modifiers

record Led (k : Kind) (d : List ℕ) (set : ℕ) (v t : List ℕ) : Type 0 where
  words : List (List ℕ)
  said : Says words (once k set d)
  spelled : WordsThen v words t

one_led : (k : Kind) (d : List ℕ) (u : ℕ) (v t : List ℕ) (m : Modifier) (b : Bool) → Led k d u v t → Led k d (if b then bit_or u (bit_of m) else u) v ((if b then dashed (modifier_name m) else []) ++ t)
one_led k d u v t m true l = record {
  words = modifier_name m ∷ l.words;
  said = modifier (modifier_name m) l.words m (once k u d) (modifier_reads m) l.said;
  spelled = dash_then v (modifier_name m) t l.words (word_is (modifier_name m) (modifier_word m)) l.spelled;
}
one_led k d u v t m false l = l

led_by : (k : Kind) (d : List ℕ) (set : ℕ) (v t : List ℕ) (ms : List Modifier) → Led k d 0 v t → Led k d (union_of set ms) v (modifiers_text set ms ++ t)
led_by k d set v t [] l = l
led_by k d set v t (m ∷ ms) l =
    subst (Led k d (union_of set (m ∷ ms)) v) (sym (append_assoc (if has set m then dashed (modifier_name m) else []) (modifiers_text set ms) t))
    (one_led k d (union_of set ms) v (modifiers_text set ms ++ t) m (has set m) (led_by k d set v t ms l))

-- ---- repeat words

record Repeats (k : Kind) (d : List ℕ) (set n : ℕ) (v t : List ℕ) : Type 0 where
  words : List (List ℕ)
  said : Says words (repeated n (once k set d))
  spelled : WordsThen v words t

more_often : (k : Kind) (d : List ℕ) (set n : ℕ) (w v t : List ℕ) → times_named w ≡ Some n → is_word w ≡ true → Led k d set v t → Repeats k d set n v (dashed w ++ t)
more_often k d set n w v t e b l = record {
  words = w ∷ l.words;
  said = repeat w l.words n (once k set d) e refl l.said;
  spelled = dash_then v w t l.words (word_is w b) l.spelled;
}

repeat_by : (k : Kind) (d : List ℕ) (set n : ℕ) (v t : List ℕ) → n ≤ 3 → Led k d set v t → Repeats k d set (suc n) v (repeat_text (suc n) ++ t)
repeat_by k d set zero v t h l = record { words = l.words; said = l.said; spelled = l.spelled }
repeat_by k d set (suc zero) v t h l = more_often k d set 2 (codes "Double") v t refl refl l
repeat_by k d set (suc (suc zero)) v t h l = more_often k d set 3 (codes "Triple") v t refl refl l
repeat_by k d set (suc (suc (suc zero))) v t h l = more_often k d set 4 (codes "Quadruple") v t refl refl l
repeat_by k d set (suc (suc (suc (suc n)))) v t h l = absurd (omega arith)

-- ---- patterns

regrouped : (a b c d v : List ℕ) → (a ++ (b ++ (c ++ (d ++ 62 ∷ [])))) ++ v ≡ a ++ (b ++ (c ++ (d ++ 62 ∷ v)))
regrouped a b c d v = simp append_assoc

physical_spelled : (p : Pattern) (n : ℕ) (v : List ℕ) → is_physical p ≡ true → p.near ≡ false → n ≤ 3 → PatternThen v (record { pattern = p; times = suc n }) (physical_text p (suc n) ++ v)
physical_spelled p n v h far few =
    let a = and_parts (not (same_kind p.kind kind.Virtual)) _ h in
    let b = and_parts (nat_lt p.modifiers all_bits) _ a.1 in
    let c = core p.kind p.detail v a.0 b.1 in
    let start : Led p.kind p.detail 0 (62 ∷ v) (kind_name p.kind ++ (detail_text p.detail ++ 62 ∷ v)) = record { words = kind_name p.kind ∷ detail_words p.detail; said = c.said; spelled = c.spelled } in
    let l = led_by p.kind p.detail p.modifiers (62 ∷ v) (kind_name p.kind ++ (detail_text p.detail ++ 62 ∷ v)) all_modifiers start in
    let r = repeat_by p.kind p.detail (union_of p.modifiers all_modifiers) n (62 ∷ v) (modifiers_text p.modifiers all_modifiers ++ (kind_name p.kind ++ (detail_text p.detail ++ 62 ∷ v))) few l in
    let set : union_of p.modifiers all_modifiers ≡ p.modifiers = union_all p.modifiers (ltb-true p.modifiers all_bits b.0) in
    let same : repeated (suc n) (once p.kind (union_of p.modifiers all_modifiers) p.detail) ≡ record { pattern = p; times = suc n } =
    ap (λ m. repeated (suc n) (once p.kind m p.detail)) set
    ∙ ap (λ b. record { pattern = record { near = b; kind = p.kind; modifiers = p.modifiers; detail = p.detail }; times = suc n }) (sym far) in
    subst (λ t. PatternThen v (record { pattern = p; times = suc n }) (60 ∷ t)) (sym (regrouped (repeat_text (suc n)) (modifiers_text p.modifiers all_modifiers) (kind_name p.kind) (detail_text p.detail) v))
    (in_brackets r.words (record { pattern = p; times = suc n }) _ r.spelled (subst (Says r.words) same r.said))

pattern_spelled_so : (p : Pattern) (n : ℕ) (v : List ℕ) → is_physical p ≡ true → p.near ≡ false → n ≤ 3 → PatternThen v (record { pattern = p; times = suc n }) (pattern_text p (suc n) ++ v)
pattern_spelled_so p n v h far few =
    subst (λ (b : Bool). PatternThen v (record { pattern = p; times = suc n }) ((if b then virtual_text p.detail else physical_text p (suc n)) ++ v))
    (sym (not-true (same_kind p.kind kind.Virtual) (and_parts (not (same_kind p.kind kind.Virtual)) _ h).0)) (physical_spelled p n v h far few)

-- ---- sequences

same_kind_is : (k j : Kind) → same_kind k j ≡ true → k ≡ j
same_kind_is kind.KeyPress kind.KeyPress e = refl
same_kind_is kind.KeyRelease kind.KeyRelease e = refl
same_kind_is kind.ButtonPress kind.ButtonPress e = refl
same_kind_is kind.ButtonRelease kind.ButtonRelease e = refl
same_kind_is kind.FocusIn kind.FocusIn e = refl
same_kind_is kind.FocusOut kind.FocusOut e = refl
same_kind_is kind.Virtual kind.Virtual e = refl
same_kind_is k j e = absurd cc

pattern_is : (p q : Pattern) → p.near ≡ q.near → p.kind ≡ q.kind → p.modifiers ≡ q.modifiers → p.detail ≡ q.detail → p ≡ q
pattern_is p q a b c d = λ i. record { near = a i; kind = b i; modifiers = c i; detail = d i }

near_is : (p q : Pattern) → p.near ≡ true → same_pattern p q ≡ true → p ≡ record { near = true; kind = q.kind; modifiers = q.modifiers; detail = q.detail }
near_is p q n h =
    let a = and_parts (same_kind p.kind q.kind) _ h in
    let b = and_parts (p.modifiers == q.modifiers) (same_text p.detail q.detail) a.1 in
    pattern_is p (record { near = true; kind = q.kind; modifiers = q.modifiers; detail = q.detail }) n (same_kind_is p.kind q.kind a.0) (eqb-true p.modifiers q.modifiers b.0) (is_same_text p.detail q.detail b.1)

-- what stands behind a pattern: so many near ones, then others
record Groups (head : Pattern) (more : ℕ) (ps : List Pattern) : Type 0 where
  count : ℕ
  others : List Repeated
  whole_list : ps ≡ near_ones head count ++ all_events others
  few : count ≤ more
  near : near_count ps ≡ count
  spelled : Patterns others (canonical ps)

no_group : (head : Pattern) (more : ℕ) → Groups head more []
unfolding canonical
no_group head more = record { count = 0; others = []; whole_list = refl; few = omega arith; near = refl; spelled = no_more [] tt }

near_group : (head p : Pattern) (more : ℕ) (ps : List Pattern) → p.near ≡ true → 0 < more → same_pattern p head ≡ true → Groups head (more - 1) ps → Groups head more (p ∷ ps)
unfolding canonical
near_group head p more ps n lt same g =
    let one : 1 + near_count ps ≡ suc g.count = omega (arith, g.near) in
    record {
      count = suc g.count;
      others = g.others;
      whole_list = ap (λ x. x ∷ ps) (near_is p head n same) ∙ ap (λ xs. record { near = true; kind = head.kind; modifiers = head.modifiers; detail = head.detail } ∷ xs) g.whole_list;
      few = omega (arith, g.few);
      near = ap (λ (b : Bool). if b then 1 + near_count ps else 0) n ∙ one;
      spelled = subst (λ (b : Bool). Patterns g.others ((if b then [] else pattern_text p (1 + near_count ps)) ++ canonical ps)) (sym n) g.spelled;
    }

-- a pattern and its near ones, then others
pub record Grouped (p : Pattern) (ps : List Pattern) : Type 0 where
  pub first : Repeated
  pub others : List Repeated
  pub whole_list : p ∷ ps ≡ all_events (first ∷ others)
  pub spelled : Patterns (first ∷ others) (canonical (p ∷ ps))

grouped : (p : Pattern) (ps : List Pattern) → p.near ≡ false → is_physical p ≡ true → Groups p 3 ps → Grouped p ps
unfolding canonical
grouped p ps far h g =
    let times : 1 + near_count ps ≡ suc g.count = omega (arith, g.near) in
    let back : suc g.count - 1 ≡ g.count = omega arith in
    let text : pattern_text p (1 + near_count ps) ++ canonical ps ≡ pattern_text p (suc g.count) ++ canonical ps = ap (λ n. pattern_text p n ++ canonical ps) times in
    record {
      first = record { pattern = p; times = suc g.count };
      others = g.others;
      whole_list = ap (λ xs. p ∷ xs) g.whole_list ∙ ap (λ n. p ∷ (near_ones p n ++ all_events g.others)) (sym back);
      spelled = subst (λ (b : Bool). Patterns (record { pattern = p; times = suc g.count } ∷ g.others) ((if b then [] else pattern_text p (1 + near_count ps)) ++ canonical ps)) (sym far)
          (subst (Patterns (record { pattern = p; times = suc g.count } ∷ g.others)) (sym text)
          (pattern [] (pattern_text p (suc g.count) ++ canonical ps) (canonical ps) (record { pattern = p; times = suc g.count }) g.others tt (pattern_spelled_so p g.count (canonical ps) h far g.few) g.spelled));
    }

new_group : (head p : Pattern) (more : ℕ) (ps : List Pattern) → p.near ≡ false → is_physical p ≡ true → Groups p 3 ps → Groups head more (p ∷ ps)
new_group head p more ps far h g =
    let x = grouped p ps far h g in
    record {
      count = 0;
      others = x.first ∷ x.others;
      whole_list = x.whole_list;
      few = omega arith;
      near = ap (λ (b : Bool). if b then 1 + near_count ps else 0) far;
      spelled = x.spelled;
    }

groups : (head : Pattern) (more : ℕ) (ps : List Pattern) → may_follow head more ps ≡ true → Groups head more ps
groups head more [] h = no_group head more
groups head more (p ∷ ps) h =
    cond_both p.near (nat_lt 0 more && (same_pattern p head && may_follow head (more - 1) ps)) (is_physical p && may_follow p 3 ps) (λ b. (b ≡ true) → p.near ≡ p.near → Groups head more (p ∷ ps))
    (λ n k e. let a = and_parts (nat_lt 0 more) _ k in let b = and_parts (same_pattern p head) _ a.1 in near_group head p more ps n (ltb-true 0 more a.0) b.0 (groups head (more - 1) ps b.1))
    (λ n k e. let a = and_parts (is_physical p) _ k in new_group head p more ps n a.0 (groups p 3 ps a.1))
    h refl

physical_back : (ps : List Pattern) → is_physical_sequence ps ≡ true → Spells (canonical ps) ps
physical_back [] h = absurd cc
physical_back (p ∷ ps) h =
    let a = and_parts (not p.near) _ h in
    let b = and_parts (is_physical p) _ a.1 in
    let c = and_parts (may_follow p 3 ps) _ b.1 in
    let x = grouped p ps (not-true p.near a.0) b.0 (groups p 3 ps c.0) in
    subst (Spells (canonical (p ∷ ps))) (sym x.whole_list) (events (canonical (p ∷ ps)) x.first x.others x.spelled)

virtual_text_is : (p : Pattern) → p.near ≡ false → same_kind p.kind kind.Virtual ≡ true → canonical (p ∷ []) ≡ virtual_text p.detail
unfolding canonical
virtual_text_is p far e =
    ap (λ (b : Bool). (if b then [] else pattern_text p 1) ++ []) far
    ∙ ap (λ (b : Bool). (if b then virtual_text p.detail else physical_text p 1) ++ []) e
    ∙ append-nil (virtual_text p.detail)

virtual_back : (ps : List Pattern) → is_virtual_sequence ps ≡ true → Spells (canonical ps) ps
virtual_back [] h = absurd cc
virtual_back (p ∷ q ∷ ps) h = absurd cc
virtual_back (p ∷ []) h =
    let a = and_parts (not p.near) _ h in
    let b = and_parts (same_kind p.kind kind.Virtual) _ a.1 in
    let c = and_parts (p.modifiers == 0) (is_name p.detail) b.1 in
    let far = not-true p.near a.0 in
    let same : virtual_one p.detail ≡ p = sym (pattern_is p (virtual_one p.detail) far (same_kind_is p.kind kind.Virtual b.0) (eqb-true p.modifiers 0 c.0) refl) in
    subst (λ t. Spells t (p ∷ [])) (sym (virtual_text_is p far b.0)) (subst (λ x. Spells (virtual_text p.detail) (x ∷ [])) same (virtual_event [] p.detail [] tt c.1 tt))

pub spelled_back : (ps : List Pattern) → is_sequence ps ≡ true → Spells (canonical ps) ps
unfolding is_sequence
spelled_back ps h = or_case (is_physical_sequence ps) (is_virtual_sequence ps) h (physical_back ps) (virtual_back ps)
