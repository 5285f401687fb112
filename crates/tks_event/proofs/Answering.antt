-- What the answers say.
use Rattle.std.proofs.Common.{◌≡◌, ℕ, ◌+◌, ◌<◌, ◌≤◌, Bool, true, false, not, ◌&&◌, ◌||◌, ◌==◌, List, [], ◌∷◌, ◌++◌, append-nil, append_assoc, length, length-append, drop, Option, Some, None, Result, Ok, Err, refl, sym, ap, ◌∙◌, subst, arith}
use Rattle.std.specs.Prelude.{nat_lt, nat_le, if◌then◌else◌, ◌⊎◌}
use Rattle.std.specs.List.{list_all, prefix_len}
use Rattle.std.proofs.Common.{inl, inr}
use Rattle.std.proofs.lemmas.Bool.{cond_both, and_parts, and_from, or_right, ltb-true, ltb-false, leb-true, leb-false, le-leb, lt-leb, ne_eqb}
use Rattle.tks_text.specs.Fault.{fault_about, Gives, TellsSo}
use Rattle.tks_text.specs.Integer.{is_space}
use Rattle.tks_text.specs.Text.{is_text_byte, IsText}
use Rattle.tks_text.specs.declared.fault.ErrorNumber.TheVariants as number
use Rattle.tks_text.specs.declared.fault.ScriptFault.{ScriptFault}
use Rattle.tks_text.specs.declared.fault.Failure.{Failure}
use Rattle.tks_text.specs.declared.fault.Failure.TheVariants.{Script, NoMemory}
use Rattle.tks_event.specs.Sequences.{all_events, events_of, max_events, is_name, is_name_char, is_some_text, is_sequence, is_physical, may_follow, is_physical_sequence, is_virtual_sequence}
use Rattle.tks_event.specs.Spelling.{virtual_one, Spells, SpellsPattern}
use Rattle.tks_event.specs.Reading.{virtual_at, named_before, is_blank_text, patterns_in, some_events, virtual_or_events, spelled_list, within_max, sequence_of, pattern_of, or_bad, one_pattern_of}
use Rattle.tks_event.specs.View.{Kept, none_kept, all_kept, kept_after, SpellsSo, SpellsPatternSo}
use Rattle.tks_event.specs.declared.pattern.Pattern.{Pattern}
use Rattle.tks_event.specs.declared.pattern.Repeated.{Repeated}
use Rattle.tks_text.proofs.Tests.{or_case}
use Rattle.tks_event.specs.Canonical.{canonical}
use Rattle.tks_event.proofs.SpelledBack.{spelled_back}
use Rattle.tks_event.proofs.Legal.{spelled_legal}
use Rattle.tks_event.proofs.WholeTexts.{virtual_told, sequence_read, sequence_told, pattern_one}

-- ---- names

name_byte : (c : ℕ) → is_name_char c ≡ true → is_text_byte c ≡ true
name_byte c h =
    let p = and_parts (nat_le 33 c) (nat_le c 126 && (not (c == 60) && not (c == 62))) h in
    let q = and_parts (nat_le c 126) (not (c == 60) && not (c == 62)) p.1 in
    let low = leb-true 33 c p.0 in
    or_right ((c == 9) || (c == 10)) (nat_le 32 c && nat_le c 126) (and_from (nat_le 32 c) (nat_le c 126) (le-leb 32 c (omega arith)) q.0)

chars_text : (n : List ℕ) → list_all is_name_char n ≡ true → IsText n
chars_text [] h = tt
chars_text (c ∷ n) h = let p = and_parts (is_name_char c) (list_all is_name_char n) h in (name_byte c p.0, chars_text n p.1)

pub name_text : (n : List ℕ) → is_name n ≡ true → IsText n
name_text n h = chars_text n (and_parts (is_some_text n) (list_all is_name_char n) h).1

pub named_legal : (n : List ℕ) → is_name n ≡ true → is_sequence (virtual_one n ∷ []) ≡ true
unfolding is_sequence
named_legal n h = or_right (is_physical_sequence (virtual_one n ∷ [])) (is_virtual_sequence (virtual_one n ∷ [])) h

named_so : (t n : List ℕ) (ends : List ℕ → Bool) (o : Option (List ℕ × List ℕ)) → virtual_at t ≡ o → named_before ends o ≡ Some n → is_name n ≡ true
named_so t n ends None e h = absurd cc
named_so t n ends (Some x) e h =
    let told = virtual_told t x.0 x.1 e in
    cond_both (ends x.1) (Some x.0) None (λ o. o ≡ Some n → is_name n ≡ true) (λ b f. let same : x.0 ≡ n = cc in subst (λ m. is_name m ≡ true) same told.name) (λ b f. absurd cc) h

pub found_name : (t n : List ℕ) (ends : List ℕ → Bool) → named_before ends (virtual_at t) ≡ Some n → is_name n ≡ true
found_name t n ends h = named_so t n ends (virtual_at t) refl h

-- ---- patterns that were collected

long_stays : (items : List Pattern) (rs : List Repeated) → (all_kept (record { items = items; is_too_long = true }) rs).is_too_long ≡ true
long_stays items [] = refl
long_stays items (r ∷ rs) = long_stays items rs

-- what was collected at the end, by the number of all
abbrev KeptSo : Kept → List Pattern → Type 0
KeptSo k all = ((length all ≤ 8) × (k ≡ record { items = all; is_too_long = false })) ⊎ ((8 < length all) × (k.is_too_long ≡ true))

all_so : (items : List Pattern) (rs : List Repeated) → length items ≤ 8 → KeptSo (all_kept (record { items = items; is_too_long = false }) rs) (items ++ all_events rs)
all_so items [] h = inl (omega (arith, ap length (append-nil items)), ap (λ xs. record { items = xs; is_too_long = false }) (sym (append-nil items)))
all_so items (r ∷ rs) h =
    cond_both (nat_lt max_events (length items + length (events_of r))) (record { items = items; is_too_long = true }) (record { items = items ++ events_of r; is_too_long = false })
    (λ k. KeptSo (all_kept k rs) (items ++ (events_of r ++ all_events rs)))
    (λ b. let over = ltb-true max_events (length items + length (events_of r)) b in
    inr (omega (arith, length-append items (events_of r ++ all_events rs), length-append (events_of r) (all_events rs)), long_stays items rs))
    (λ b. let fits = ltb-false max_events (length items + length (events_of r)) b in
    subst (KeptSo (all_kept (record { items = items ++ events_of r; is_too_long = false }) rs)) (append_assoc items (events_of r) (all_events rs))
    (all_so (items ++ events_of r) rs (omega (arith, length-append items (events_of r)))))

-- the answer to what was collected
abbrev pub finished : List ℕ → Option Kept → Result (List Pattern) ScriptFault
finished t None = Err (fault_about number.BadSequence t)
finished t (Some k) =
    if k.is_too_long then Err (fault_about number.TooManyEvents t) else (if length k.items == 0 then Err (fault_about number.BadSequence t) else Ok k.items)

finish_some : (t : List ℕ) (r : Repeated) (rs : List Repeated) (k : Kept) → KeptSo k (all_events (r ∷ rs)) → within_max t (Some (all_events (r ∷ rs))) ≡ finished t (Some k)
finish_some t r rs k (inl h) =
    let all = all_events (r ∷ rs) in
    let some : (length all == 0) ≡ false = ne_eqb (length all) 0 (omega arith) in
    ap (λ (b : Bool). if b then Ok all else Err (fault_about number.TooManyEvents t)) (le-leb (length all) max_events h.0)
    ∙ sym (ap (λ (b : Bool). if b then Err (fault_about number.BadSequence t) else Ok all) some)
    ∙ ap (λ x. finished t (Some x)) (sym h.1)
finish_some t r rs k (inr h) =
    let all = all_events (r ∷ rs) in
    ap (λ (b : Bool). if b then Ok all else Err (fault_about number.TooManyEvents t)) (lt-leb (length all) max_events h.0)
    ∙ sym (ap (λ (b : Bool). if b then Err (fault_about number.TooManyEvents t) else (if length k.items == 0 then Err (fault_about number.BadSequence t) else Ok k.items)) h.1)

finish : (t : List ℕ) (o : Option (List Repeated)) → within_max t (some_events o) ≡ finished t (kept_after none_kept o)
finish t None = refl
finish t (Some []) = refl
finish t (Some (r ∷ rs)) = finish_some t r rs (all_kept none_kept (r ∷ rs)) (all_so [] (r ∷ rs) (omega arith))

pub virtual_answer : (t n : List ℕ) → named_before is_blank_text (virtual_at (drop (prefix_len is_space t) t)) ≡ Some n → sequence_of t ≡ Ok (virtual_one n ∷ [])
unfolding sequence_of spelled_list
virtual_answer t n e = ap (λ o. within_max t (virtual_or_events o (some_events (patterns_in t)))) e

pub events_answer : (t : List ℕ) (o : Option Kept) → named_before is_blank_text (virtual_at (drop (prefix_len is_space t) t)) ≡ None → o ≡ kept_after none_kept (patterns_in t) → sequence_of t ≡ finished t o
unfolding sequence_of spelled_list
events_answer t o e h = ap (λ o. within_max t (virtual_or_events o (some_events (patterns_in t)))) e ∙ finish t (patterns_in t) ∙ ap (finished t) (sym h)

-- the same where the bytes of the text were taken first
pub events_at : (text bytes behind : List ℕ) (o : Option Kept) → bytes ≡ text → behind ≡ drop (prefix_len is_space bytes) bytes → named_before is_blank_text (virtual_at behind) ≡ None → o ≡ kept_after none_kept (patterns_in bytes) → sequence_of text ≡ finished text o
events_at text bytes behind o same e none h =
    ap sequence_of (sym same) ∙ events_answer bytes o (ap (λ t. named_before is_blank_text (virtual_at t)) (sym e) ∙ none) h ∙ ap (λ t. finished t o) same

pub virtual_at_behind : (text bytes behind n : List ℕ) → bytes ≡ text → behind ≡ drop (prefix_len is_space bytes) bytes → named_before is_blank_text (virtual_at behind) ≡ Some n → sequence_of text ≡ Ok (virtual_one n ∷ [])
virtual_at_behind text bytes behind n same e some =
    ap sequence_of (sym same) ∙ virtual_answer bytes n (ap (λ t. named_before is_blank_text (virtual_at t)) (sym e) ∙ some)

pub long_answer : (t : List ℕ) (k : Kept) → k.is_too_long ≡ true → finished t (Some k) ≡ Err (fault_about number.TooManyEvents t)
long_answer t k h = ap (λ (b : Bool). if b then Err (fault_about number.TooManyEvents t) else (if length k.items == 0 then Err (fault_about number.BadSequence t) else Ok k.items)) h

short_answer : (t : List ℕ) (k : Kept) (b : Bool) → k.is_too_long ≡ false → (length k.items == 0) ≡ b → finished t (Some k) ≡ (if b then Err (fault_about number.BadSequence t) else Ok k.items)
short_answer t k b h e =
    ap (λ (x : Bool). if x then Err (fault_about number.TooManyEvents t) else (if length k.items == 0 then Err (fault_about number.BadSequence t) else Ok k.items)) h
    ∙ ap (λ (x : Bool). if x then Err (fault_about number.BadSequence t) else Ok k.items) e

pub empty_answer : (t : List ℕ) (k : Kept) → k.is_too_long ≡ false → (length k.items == 0) ≡ true → finished t (Some k) ≡ Err (fault_about number.BadSequence t)
empty_answer t k h e = short_answer t k true h e

pub full_answer : (t : List ℕ) (k : Kept) → k.is_too_long ≡ false → (length k.items == 0) ≡ false → finished t (Some k) ≡ Ok k.items
full_answer t k h e = short_answer t k false h e

pub tells : {X : Type 0} (view : X → List Pattern) (fault : ScriptFault) (told : Failure) (given : Result (List Pattern) ScriptFault) → TellsSo fault told → given ≡ Err fault → Gives view (Err told) given
tells view fault (Script f) given h e = e ∙ ap (λ x. Err x) (sym h)
tells view fault NoMemory given h e = tt

-- ---- answers against the relation

bad_or_long : (t : List ℕ) (o : Option (List Pattern)) (fault : ScriptFault) → spelled_list t ≡ o → within_max t o ≡ Err fault
    → ((fault ≡ fault_about number.TooManyEvents t) × ((ps : List Pattern) × Spells t ps × (max_events < length ps))) ⊎ ((fault ≡ fault_about number.BadSequence t) × ((ps : List Pattern) → ¬ Spells t ps))
bad_or_long t None fault e h = let same : fault ≡ fault_about number.BadSequence t = cc in inr (same, λ ps s. let read = sequence_read t ps s in absurd cc)
bad_or_long t (Some ps) fault e h =
    cond_both (nat_le (length ps) max_events) (Ok ps) (Err (fault_about number.TooManyEvents t))
    (λ a. a ≡ Err fault → ((fault ≡ fault_about number.TooManyEvents t) × ((qs : List Pattern) × Spells t qs × (max_events < length qs))) ⊎ ((fault ≡ fault_about number.BadSequence t) × ((qs : List Pattern) → ¬ Spells t qs)))
    (λ b f. absurd cc) (λ b f. let same : fault ≡ fault_about number.TooManyEvents t = cc in inl (same, (ps, sequence_told t ps e, leb-false (length ps) max_events b))) h

fits_so : (t : List ℕ) (o : Option (List Pattern)) (ps : List Pattern) → spelled_list t ≡ o → within_max t o ≡ Ok ps → Spells t ps × (length ps ≤ max_events)
fits_so t None ps e h = absurd cc
fits_so t (Some qs) ps e h =
    cond_both (nat_le (length qs) max_events) (Ok qs) (Err (fault_about number.TooManyEvents t)) (λ a. a ≡ Ok ps → Spells t ps × (length ps ≤ max_events))
    (λ b f. let same : qs ≡ ps = cc in subst (λ x. Spells t x × (length x ≤ max_events)) same (sequence_told t qs e, leb-true (length qs) max_events b)) (λ b f. absurd cc) h

pub sequence_so : (t : List ℕ) (r : Result (List Pattern) Failure) → Gives (λ s. s) r (sequence_of t) → SpellsSo r t
unfolding sequence_of
sequence_so t (Ok ps) h = fits_so t (spelled_list t) ps refl h
sequence_so t (Err (Script fault)) h = bad_or_long t (spelled_list t) fault refl h
sequence_so t (Err NoMemory) h = tt

-- a sequence that is answered is one
pub answer_legal : (t : List ℕ) (ps : List Pattern) → sequence_of t ≡ Ok ps → is_sequence ps ≡ true
unfolding sequence_of
answer_legal t ps h = let f = fits_so t (spelled_list t) ps refl h in spelled_legal t ps f.0 (le-leb (length ps) max_events f.1)

one_so : (t : List ℕ) (o : Option Repeated) (fault : ScriptFault) → pattern_of t ≡ o → or_bad t o ≡ Err fault → (fault ≡ fault_about number.BadSequence t) × ((r : Repeated) → ¬ SpellsPattern t r)
one_so t None fault e h = let same : fault ≡ fault_about number.BadSequence t = cc in (same, λ r s. let read = (pattern_one t r).0 s in absurd cc)
one_so t (Some r) fault e h = absurd cc

one_ok : (t : List ℕ) (o : Option Repeated) (r : Repeated) → pattern_of t ≡ o → or_bad t o ≡ Ok r → SpellsPattern t r
one_ok t None r e h = absurd cc
one_ok t (Some p) r e h = let same : p ≡ r = cc in subst (SpellsPattern t) same ((pattern_one t p).1 e)

pub pattern_so : (t : List ℕ) (r : Result Repeated Failure) → Gives (λ r. r) r (one_pattern_of t) → SpellsPatternSo r t
unfolding one_pattern_of
pattern_so t (Ok r) h = one_ok t (pattern_of t) r refl h
pattern_so t (Err (Script fault)) h = one_so t (pattern_of t) fault refl h
pattern_so t (Err NoMemory) h = tt

-- ---- spelling and reading back

few_physical : (ps : List Pattern) → is_physical_sequence ps ≡ true → nat_le (length ps) max_events ≡ true
few_physical [] h = absurd cc
few_physical (p ∷ ps) h =
    let a = and_parts (not p.near) _ h in
    let b = and_parts (is_physical p) _ a.1 in
    (and_parts (may_follow p 3 ps) (nat_le (length (p ∷ ps)) max_events) b.1).1

few_virtual : (ps : List Pattern) → is_virtual_sequence ps ≡ true → nat_le (length ps) max_events ≡ true
few_virtual [] h = absurd cc
few_virtual (p ∷ []) h = refl
few_virtual (p ∷ q ∷ ps) h = absurd cc

few_events : (ps : List Pattern) → is_sequence ps ≡ true → nat_le (length ps) max_events ≡ true
unfolding is_sequence
few_events ps h = or_case (is_physical_sequence ps) (is_virtual_sequence ps) h (few_physical ps) (few_virtual ps)

pub reads_back : (ps : List Pattern) → is_sequence ps ≡ true → sequence_of (canonical ps) ≡ Ok ps
unfolding sequence_of
reads_back ps h =
    ap (within_max (canonical ps)) (sequence_read (canonical ps) ps (spelled_back ps h))
    ∙ ap (λ (b : Bool). if b then Ok ps else Err (fault_about number.TooManyEvents (canonical ps))) (few_events ps h)
