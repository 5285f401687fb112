-- The sequence that a text spells, and the one that is read.
use Rattle.std.proofs.Common.{◌≡◌, ◌↔◌, ℕ, Bool, true, ◌&&◌, ◌==◌, List, [], ◌∷◌, ◌++◌, length, take, drop, Option, Some, None, refl, sym, ap, ◌∙◌, subst}
use Rattle.std.proofs.Math.Seq.{take-append_seam}
use Rattle.std.specs.Prelude.{if◌then◌else◌}
use Rattle.std.specs.List.{list_all, prefix_len}
use Rattle.std.proofs.lemmas.Bool.{eqb-true, cond_both, and_parts, and_from}
use Rattle.std.proofs.lemmas.List.{take-append-drop, drop_at}
use Rattle.tks_text.proofs.Prefixes.{prefix_of, prefix_passes, all_pass, passing_all}
use Rattle.tks_text.specs.Integer.{is_space, AreSpaces}
use Rattle.tks_text.specs.Text.{BeginsNot}
use Rattle.tks_event.specs.Keysyms.{is_keysym}
use Rattle.tks_event.specs.Sequences.{all_events, is_name, is_name_char, is_some_text}
use Rattle.tks_event.specs.Spelling.{virtual_one, PatternThen, SpellsPattern, physical, virtual, Patterns, pattern, Spells, events, virtual_event}
use Rattle.tks_event.specs.Reading.{Words, with_char, words_at, said, then_behind, in_words, pattern_at, name_closed, name_at, virtual_at, named_before, is_blank_text, is_end, alone, virtual_or, pattern_of, patterns_in, some_events, virtual_or_events, spelled_list}
use Rattle.tks_event.specs.declared.pattern.Pattern.{Pattern}
use Rattle.tks_event.specs.declared.pattern.Repeated.{Repeated}
use Rattle.tks_event.proofs.Spelled.{pattern_spelled, pattern_told, pattern_begins, patterns_spelled, patterns_told}

-- ---- names of virtual events

pub virtual_spelled : (n v : List ℕ) → is_name n ≡ true → virtual_at (60 ∷ 60 ∷ n ++ 62 ∷ 62 ∷ v) ≡ Some (n, v)
unfolding virtual_at
virtual_spelled n v h =
    let p = and_parts (is_some_text n) (list_all is_name_char n) h in
    let t = n ++ 62 ∷ 62 ∷ v in
    let len : prefix_len is_name_char t ≡ length n = prefix_of is_name_char n (62 ∷ 62 ∷ v) (all_pass is_name_char n p.1) refl in
    ap (λ k. name_closed (take k t) (drop k t)) len
    ∙ ap (λ x. name_closed x (drop (length n) t)) (take-append_seam n (62 ∷ 62 ∷ v))
    ∙ ap (name_closed n) (drop_at n (62 ∷ 62 ∷ v) (length n) refl)
    ∙ ap (λ (b : Bool). if b && true then Some (n, v) else None) p.0

pub record Named (t n v : List ℕ) : Type 0 where
  pub whole_text : t ≡ 60 ∷ 60 ∷ n ++ 62 ∷ 62 ∷ v
  pub name : is_name n ≡ true

some_pair : {A B : Type 0} (x y : A × B) → Some x ≡ Some y → (x.0 ≡ y.0) × (x.1 ≡ y.1)
some_pair {A} {B} x y e = let same : x ≡ y = cc in (ap (λ (z : A × B). z.0) same, ap (λ (z : A × B). z.1) same)

closed_told : (m u n v : List ℕ) → list_all is_name_char m ≡ true → name_closed m u ≡ Some (n, v) → Named (60 ∷ 60 ∷ m ++ u) n v
closed_told m [] n v h e = absurd cc
closed_told m (c ∷ []) n v h e = absurd cc
closed_told m (c ∷ d ∷ w) n v h e =
    cond_both (is_some_text m && ((c == 62) && (d == 62))) (Some (m, w)) None (λ o. o ≡ Some (n, v) → Named (60 ∷ 60 ∷ m ++ c ∷ d ∷ w) n v)
    (λ b f.
    let p = and_parts (is_some_text m) ((c == 62) && (d == 62)) b in
    let q = and_parts (c == 62) (d == 62) p.1 in
    let same = some_pair (m, w) (n, v) f in
    let name : m ≡ n = same.0 in
    let rest : w ≡ v = same.1 in
    let first = eqb-true c 62 q.0 in
    let second = eqb-true d 62 q.1 in
    record {
      whole_text = cc;
      name = subst (λ x. is_name x ≡ true) name (and_from (is_some_text m) (list_all is_name_char m) p.0 h);
    })
    (λ b f. absurd cc)
    e

name_told : (t n v : List ℕ) → name_at t ≡ Some (n, v) → Named (60 ∷ 60 ∷ t) n v
name_told t n v e =
    let k = prefix_len is_name_char t in
    let h = closed_told (take k t) (drop k t) n v (passing_all is_name_char (take k t) (prefix_passes is_name_char t).0) e in
    record { whole_text = ap (λ x. 60 ∷ 60 ∷ x) (sym (take-append-drop k t)) ∙ h.whole_text; name = h.name }

pub virtual_told : (t n v : List ℕ) → virtual_at t ≡ Some (n, v) → Named t n v
unfolding virtual_at
virtual_told [] n v e = absurd cc
virtual_told (c ∷ []) n v e = absurd cc
virtual_told (c ∷ d ∷ t) n v e =
    cond_both ((c == 60) && (d == 60)) (name_at t) None (λ o. o ≡ Some (n, v) → Named (c ∷ d ∷ t) n v)
    (λ b f.
    let q = and_parts (c == 60) (d == 60) b in
    let first = eqb-true c 60 q.0 in
    let second = eqb-true d 60 q.1 in
    let h = name_told t n v f in
    let same : c ∷ d ∷ t ≡ 60 ∷ 60 ∷ t = cc in
    record { whole_text = same ∙ h.whole_text; name = h.name })
    (λ b f. absurd cc)
    e

-- what begins so is no pattern of physical events
less_said : (ws : List (List ℕ)) (w : List ℕ) → said ((60 ∷ w) ∷ ws) ≡ None
unfolding said is_keysym
less_said [] [] = refl
less_said [] (c ∷ w) = refl
less_said (d ∷ []) w = refl
less_said (d ∷ e ∷ ws) w = refl

less_words : (x : Words) → in_words (with_char 60 x) ≡ None
less_words None = refl
less_words (Some ([], v)) = refl
less_words (Some (w ∷ ws, v)) = ap (λ o. then_behind o v) (less_said ws w)

two_signs : (t : List ℕ) → words_at (60 ∷ t) ≡ with_char 60 (words_at t)
unfolding words_at
two_signs t = refl

no_physical : (t : List ℕ) → pattern_at (60 ∷ 60 ∷ t) ≡ None
unfolding pattern_at
no_physical t = ap in_words (two_signs t) ∙ less_words (words_at t)

no_virtual : (t v : List ℕ) (r : Repeated) (o : Option (List ℕ × List ℕ)) → PatternThen v r t → virtual_at t ≡ o → o ≡ None
no_virtual t v r None p e = refl
no_virtual t v r (Some x) p e =
    let h = virtual_told t x.0 x.1 e in
    let read = pattern_spelled v t r p in
    let none = ap pattern_at h.whole_text ∙ no_physical (x.0 ++ 62 ∷ 62 ∷ x.1) in
    absurd cc

-- ---- a pattern alone

alone_told : (t : List ℕ) (o : Option (Repeated × List ℕ)) (r : Repeated) → pattern_at t ≡ o → alone o ≡ Some r → SpellsPattern t r
alone_told t None r e h = absurd cc
alone_told t (Some (p, [])) r e h = let same : p ≡ r = cc in subst (SpellsPattern t) same (physical t p (pattern_told [] t p e))
alone_told t (Some (p, c ∷ v)) r e h = absurd cc

alone_virtual : (t : List ℕ) (n v : List ℕ) (r : Repeated) (rest : Option Repeated) → Named t n v → ((o : Option Repeated) → o ≡ rest → rest ≡ Some r → SpellsPattern t r)
    → virtual_or (named_before is_end (Some (n, v))) rest ≡ Some r → SpellsPattern t r
alone_virtual t n [] r rest h k e =
    let same : record { pattern = virtual_one n; times = 1 } ≡ r = cc in
    subst (SpellsPattern t) same (subst (λ x. SpellsPattern x (record { pattern = virtual_one n; times = 1 })) (sym h.whole_text) (virtual n h.name))
alone_virtual t n (c ∷ v) r rest h k e = k rest refl e

virtual_pattern : (t : List ℕ) (o : Option (List ℕ × List ℕ)) (r : Repeated) → virtual_at t ≡ o → virtual_or (named_before is_end o) (alone (pattern_at t)) ≡ Some r → SpellsPattern t r
virtual_pattern t None r e h = alone_told t (pattern_at t) r refl h
virtual_pattern t (Some x) r e h = alone_virtual t x.0 x.1 r (alone (pattern_at t)) (virtual_told t x.0 x.1 e) (λ o f k. alone_told t (pattern_at t) r refl k) h

pattern_is_read : (t : List ℕ) (r : Repeated) → SpellsPattern t r → pattern_of t ≡ Some r
unfolding pattern_of
pattern_is_read _ _ (physical t r p) =
    ap (λ o. virtual_or (named_before is_end o) (alone (pattern_at t))) (no_virtual t [] r (virtual_at t) p refl) ∙ ap alone (pattern_spelled [] t r p)
pattern_is_read _ _ (virtual n h) = ap (λ o. virtual_or (named_before is_end o) (alone (pattern_at (60 ∷ 60 ∷ n ++ 62 ∷ 62 ∷ [])))) (virtual_spelled n [] h)

pattern_is_told : (t : List ℕ) (r : Repeated) → pattern_of t ≡ Some r → SpellsPattern t r
unfolding pattern_of
pattern_is_told t r e = virtual_pattern t (virtual_at t) r refl e

pub pattern_one : (t : List ℕ) (r : Repeated) → SpellsPattern t r ↔ (pattern_of t ≡ Some r)
pattern_one t r = (pattern_is_read t r, pattern_is_told t r)

-- ---- sequences

spaces_dropped : (s u : List ℕ) → AreSpaces s → BeginsNot is_space u → drop (prefix_len is_space (s ++ u)) (s ++ u) ≡ u
spaces_dropped s u h b = ap (λ k. drop k (s ++ u)) (prefix_of is_space s u h b) ∙ drop_at s u (length s) refl

no_name : (t : List ℕ) (r : Repeated) (rs : List Repeated) → Patterns (r ∷ rs) t → virtual_at (drop (prefix_len is_space t) t) ≡ None
no_name _ r rs (pattern s u v _ _ h p k) = ap virtual_at (spaces_dropped s u h (pattern_begins v u r p)) ∙ no_virtual u v r (virtual_at u) p refl

pub sequence_read : (t : List ℕ) (ps : List Pattern) → Spells t ps → spelled_list t ≡ Some ps
unfolding spelled_list
sequence_read _ _ (events t r rs h) =
    ap (λ o. virtual_or_events (named_before is_blank_text o) (some_events (patterns_in t))) (no_name t r rs h) ∙ ap some_events (patterns_spelled t (r ∷ rs) h)
sequence_read _ _ (virtual_event s n e h k l) =
    let u = 60 ∷ 60 ∷ n ++ 62 ∷ 62 ∷ e in
    let t = s ++ u in
    ap (λ x. virtual_or_events (named_before is_blank_text (virtual_at x)) (some_events (patterns_in t))) (spaces_dropped s u h refl)
    ∙ ap (λ o. virtual_or_events (named_before is_blank_text o) (some_events (patterns_in t))) (virtual_spelled n e k)
    ∙ ap (λ (b : Bool). virtual_or_events (if b then Some n else None) (some_events (patterns_in t))) (passing_all is_space e l)

events_told : (t : List ℕ) (o : Option (List Repeated)) (ps : List Pattern) → patterns_in t ≡ o → some_events o ≡ Some ps → Spells t ps
events_told t None ps e h = absurd cc
events_told t (Some []) ps e h = absurd cc
events_told t (Some (r ∷ rs)) ps e h = let same : all_events (r ∷ rs) ≡ ps = cc in subst (Spells t) same (events t r rs (patterns_told t (r ∷ rs) e))

module _ (t : List ℕ) (ps : List Pattern) where
  name_told_so : (n v : List ℕ) → Named (drop (prefix_len is_space t) t) n v → virtual_or_events (named_before is_blank_text (Some (n, v))) (some_events (patterns_in t)) ≡ Some ps → Spells t ps
  name_told_so n v h e =
      cond_both (is_blank_text v) (Some n) None (λ o. virtual_or_events o (some_events (patterns_in t)) ≡ Some ps → Spells t ps)
      (λ b f.
      let same : virtual_one n ∷ [] ≡ ps = cc in
      let k = prefix_len is_space t in
      let text : t ≡ take k t ++ (60 ∷ 60 ∷ n ++ 62 ∷ 62 ∷ v) = sym (take-append-drop k t) ∙ ap (λ x. take k t ++ x) h.whole_text in
      subst (Spells t) same (subst (λ x. Spells x (virtual_one n ∷ [])) (sym text) (virtual_event (take k t) n v (prefix_passes is_space t).0 h.name (all_pass is_space v b))))
      (λ b f. events_told t (patterns_in t) ps refl f)
      e

  either_told : (o : Option (List ℕ × List ℕ)) → virtual_at (drop (prefix_len is_space t) t) ≡ o → virtual_or_events (named_before is_blank_text o) (some_events (patterns_in t)) ≡ Some ps → Spells t ps
  either_told None e h = events_told t (patterns_in t) ps refl h
  either_told (Some x) e h = name_told_so x.0 x.1 (virtual_told (drop (prefix_len is_space t) t) x.0 x.1 e) h

  pub sequence_told : spelled_list t ≡ Some ps → Spells t ps
  unfolding spelled_list
  sequence_told e = either_told (virtual_at (drop (prefix_len is_space t) t)) refl e

pub sequence_one : (t : List ℕ) (ps : List Pattern) → Spells t ps ↔ (spelled_list t ≡ Some ps)
sequence_one t ps = (sequence_read t ps, sequence_told t ps)
