-- What is spelled is a sequence.
use Rattle.std.proofs.Common.{IfSome, ◌≡◌, ℕ, zero, suc, ◌-◌, ◌<◌, ◌≤◌, Bool, true, false, not, ◌&&◌, ◌||◌, ◌==◌, List, [], ◌∷◌, ◌++◌, length, Option, Some, None, refl, sym, ap, ◌∙◌, subst, arith}
use Rattle.std.specs.Prelude.{nat_lt, nat_le, bit_or, is_some, if◌then◌else◌}
use Rattle.std.specs.List.{list_all}
use Rattle.std.proofs.lemmas.Bool.{eq-eqb, cond_both, and_parts, and_from, or_left, or_right, ltb-true, lt-ltb, leb-true, le-leb}
use Rattle.tks_text.specs.Text.{same_text, is_text_byte, is_text, IsText}
use Rattle.tks_text.proofs.Texts.{text_from_all}
use Rattle.tks_text.proofs.Tests.{or_case}
use Rattle.tks_event.specs.Keysyms.{named_in, or_else, is_among, is_alphanumeric, alphanumeric_of, first_signs, second_signs, third_signs, fourth_signs, keysym_char, editing_keys, moving_keys, function_keys, further_function_keys, modifier_keys, is_modifier_key, is_function_key, is_keysym, name_in, sign_name, keysym_of}
use Rattle.tks_event.specs.Kinds.{kinds, kind_named, same_kind, is_button, is_detail}
use Rattle.tks_event.specs.Modifiers.{bit_of, all_bits}
use Rattle.tks_event.specs.Sequences.{near_ones, all_events, max_events, is_some_text, is_physical, same_pattern, may_follow, is_physical_sequence, is_virtual_sequence, is_sequence}
use Rattle.tks_event.specs.Spelling.{repeats, once, Names, type, type_and_detail, button, keysym, Says, names, modifier, repeat, virtual_one, PatternThen, bare, in_brackets, Patterns, no_more, pattern, Spells, events, virtual_event}
use Rattle.tks_event.specs.declared.kind.Kind.{Kind}
use Rattle.tks_event.specs.declared.kind.Kind.TheVariants as kind
use Rattle.tks_event.specs.declared.modifiers.Modifier.{Modifier}
use Rattle.tks_event.specs.declared.modifiers.Modifier.TheVariants as modifier_of
use Rattle.tks_event.specs.declared.pattern.Pattern.{Pattern}
use Rattle.tks_event.specs.declared.pattern.Repeated.{Repeated}
use Rattle.tks_event.proofs.Leads.{of_named, is_same_text}
use Rattle.tks_event.proofs.Sets.{or_within}

-- ---- tables

-- what holds of the values of a table holds of what it has under a name
pub of_value : {X : Type 0} (p : X → Bool) (table : List (List ℕ × X)) (t : List ℕ) (x : X) → list_all (λ row. p row.1) table ≡ true → named_in table t ≡ Some x → p x ≡ true
of_value p [] t x h e = absurd cc
of_value p (row ∷ table) t x h e =
    let k = and_parts (p row.1) (list_all (λ r. p r.1) table) h in
    cond_both (same_text t row.0) (Some row.1) (named_in table t) (λ o. o ≡ Some x → p x ≡ true)
    (λ s f. let same : row.1 ≡ x = cc in subst (λ y. p y ≡ true) same k.0) (λ s f. of_value p table t x k.1 f) e

of_among : (p : List ℕ → Bool) (words : List (List ℕ)) (t : List ℕ) → list_all p words ≡ true → is_among words t ≡ true → p t ≡ true
of_among p [] t h e = absurd cc
of_among p (w ∷ words) t h e =
    let k = and_parts (p w) (list_all p words) h in
    or_case (same_text t w) (is_among words t) e (λ s. subst (λ u. p u ≡ true) (sym (is_same_text t w s)) k.0) (λ s. of_among p words t k.1 s)

of_name : (p : List ℕ → Bool) (table : List (List ℕ × ℕ)) (c : ℕ) (k : List ℕ) → list_all (λ row. p row.0) table ≡ true → name_in table c ≡ Some k → p k ≡ true
of_name p [] c k h e = absurd cc
of_name p (row ∷ table) c k h e =
    let q = and_parts (p row.0) (list_all (λ r. p r.0) table) h in
    cond_both (c == row.1) (Some row.0) (name_in table c) (λ o. o ≡ Some k → p k ≡ true)
    (λ s f. let same : row.0 ≡ k = cc in subst (λ y. p y ≡ true) same q.0) (λ s f. of_name p table c k q.1 f) e

is_there : {X : Type 0} (o : Option X) (P : Type 0) → is_some o ≡ true → ((x : X) → o ≡ Some x → P) → P
is_there None P h f = absurd cc
is_there (Some x) P h f = f x refl

some_else : {X : Type 0} (a b : Option X) (P : Type 0) → is_some (or_else a b) ≡ true → (is_some a ≡ true → P) → (is_some b ≡ true → P) → P
some_else None b P h f g = g h
some_else (Some x) b P h f g = f refl

of_either : {X : Type 0} (a b : Option X) (x : X) (P : Type 0) → or_else a b ≡ Some x → (a ≡ Some x → P) → (b ≡ Some x → P) → P
of_either None b x P e f g = g e
of_either (Some y) b x P e f g = f e

-- ---- keysyms

abbrev pub SignsSo : (List ℕ → Bool) → Type 0
SignsSo p =
    (list_all (λ row. p row.0) first_signs ≡ true) × (list_all (λ row. p row.0) second_signs ≡ true) × (list_all (λ row. p row.0) third_signs ≡ true)
    × (list_all (λ row. p row.0) fourth_signs ≡ true)

abbrev pub KeysSo : (List ℕ → Bool) → Type 0
KeysSo p =
    (list_all p editing_keys ≡ true) × (list_all p moving_keys ≡ true) × (list_all p function_keys ≡ true) × (list_all p further_function_keys ≡ true)
    × (list_all p modifier_keys ≡ true)

byte_between : (c a b : ℕ) → nat_le a c && nat_le c b ≡ true → nat_le 32 a ≡ true → nat_le b 126 ≡ true → is_text_byte c ≡ true
byte_between c a b h k l =
    let p = and_parts (nat_le a c) (nat_le c b) h in
    let low = leb-true a c p.0 in
    let high = leb-true c b p.1 in
    let least = leb-true 32 a k in
    let most = leb-true b 126 l in
    or_right ((c == 9) || (c == 10)) (nat_le 32 c && nat_le c 126) (and_from (nat_le 32 c) (nat_le c 126) (le-leb 32 c (omega arith)) (le-leb c 126 (omega arith)))

alphanumeric_byte : (c : ℕ) → is_alphanumeric c ≡ true → is_text_byte c ≡ true
alphanumeric_byte c h =
    or_case ((nat_le 48 c && nat_le c 57) || (nat_le 65 c && nat_le c 90)) (nat_le 97 c && nat_le c 122) h
    (λ f. or_case (nat_le 48 c && nat_le c 57) (nat_le 65 c && nat_le c 90) f (λ g. byte_between c 48 57 g refl refl) (λ g. byte_between c 65 90 g refl refl))
    (λ f. byte_between c 97 122 f refl refl)

-- what holds of all names of keys, and of letters and digits, holds of each keysym
module _ (p : List ℕ → Bool) (letters : (c : ℕ) → is_alphanumeric c ≡ true → p (c ∷ []) ≡ true) where
  letter_so : (t : List ℕ) (c : ℕ) → alphanumeric_of t ≡ Some c → p t ≡ true
  letter_so [] c e = absurd cc
  letter_so (d ∷ []) c e = cond_both (is_alphanumeric d) (Some d) None (λ o. o ≡ Some c → p (d ∷ []) ≡ true) (λ h f. letters d h) (λ h f. absurd cc) e
  letter_so (d ∷ f ∷ t) c e = absurd cc

  sign_so : (t : List ℕ) (table : List (List ℕ × ℕ)) → list_all (λ row. p row.0) table ≡ true → is_some (named_in table t) ≡ true → p t ≡ true
  sign_so t table h s = is_there (named_in table t) _ s (λ c e. of_named p table t c h e)

  char_so : (t : List ℕ) → SignsSo p → is_some (keysym_char t) ≡ true → p t ≡ true
  char_so t a h =
      some_else (alphanumeric_of t) _ _ h (λ s. is_there (alphanumeric_of t) _ s (λ c e. letter_so t c e))
      (λ h. some_else (named_in first_signs t) _ _ h (sign_so t first_signs a.0)
      (λ h. some_else (named_in second_signs t) _ _ h (sign_so t second_signs a.1)
      (λ h. some_else (named_in third_signs t) _ _ h (sign_so t third_signs a.2) (sign_so t fourth_signs a.3))))

  pub keysym_so : (t : List ℕ) → SignsSo p → KeysSo p → is_keysym t ≡ true → p t ≡ true
  unfolding is_keysym
  keysym_so t a b h =
      or_case (is_some (keysym_char t)) _ h (char_so t a)
      (λ h. or_case (is_among editing_keys t) _ h (of_among p editing_keys t b.0)
      (λ h. or_case (is_among moving_keys t) _ h (of_among p moving_keys t b.1)
      (λ h. or_case (is_function_key t) (is_modifier_key t) h
      (λ f. or_case (is_among function_keys t) (is_among further_function_keys t) f (of_among p function_keys t b.2) (of_among p further_function_keys t b.3))
      (of_among p modifier_keys t b.4))))

letter_text : (c : ℕ) → is_alphanumeric c ≡ true → is_text (c ∷ []) ≡ true
letter_text c h = and_from (is_text_byte c) true (alphanumeric_byte c h) refl

keysym_is_text : (t : List ℕ) → is_keysym t ≡ true → is_text t ≡ true
keysym_is_text t h = keysym_so is_text letter_text t (refl, refl, refl, refl) (refl, refl, refl, refl, refl) h

button_is_text : (t : List ℕ) → is_button t ≡ true → is_text t ≡ true
button_is_text [] h = absurd cc
button_is_text (c ∷ []) h = and_from (is_text_byte c) true (byte_between c 49 53 h refl refl) refl
button_is_text (c ∷ d ∷ t) h = absurd cc

pub detail_text : (k : Kind) (d : List ℕ) → is_detail k d ≡ true → IsText d
detail_text kind.KeyPress d h = text_from_all d (keysym_is_text d h)
detail_text kind.KeyRelease d h = text_from_all d (keysym_is_text d h)
detail_text kind.ButtonPress d h = text_from_all d (button_is_text d h)
detail_text kind.ButtonRelease d h = text_from_all d (button_is_text d h)
detail_text kind.FocusIn d h = absurd cc
detail_text kind.FocusOut d h = absurd cc
detail_text kind.Virtual d h = absurd cc

-- ---- what is spelled

pub record Legal (r : Repeated) : Type 0 where
  pub far : r.pattern.near ≡ false
  pub goes : is_physical r.pattern ≡ true
  pub few : r.times ≤ 4
  pub text : IsText r.pattern.detail

no_virtual : (w : List ℕ) (k : Kind) → kind_named w ≡ Some k → not (same_kind k kind.Virtual) ≡ true
no_virtual w k e = of_value (λ k. not (same_kind k kind.Virtual)) kinds w k refl e

once_legal : (k : Kind) (d : List ℕ) → not (same_kind k kind.Virtual) ≡ true → not (is_some_text d) || is_detail k d ≡ true → IsText d → Legal (once k 0 d)
once_legal k d h b t = record { far = refl; goes = and_from _ _ h b; few = omega arith; text = t }

detail_legal : (k : Kind) (d : List ℕ) → not (same_kind k kind.Virtual) ≡ true → is_detail k d ≡ true → Legal (once k 0 d)
detail_legal k d h b = once_legal k d h (or_right (not (is_some_text d)) (is_detail k d) b) (detail_text k d b)

names_legal : (ws : List (List ℕ)) (k : Kind) (d : List ℕ) → Names ws k d → Legal (once k 0 d)
names_legal _ _ _ (type w k e) = once_legal k [] (no_virtual w k e) refl tt
names_legal _ _ _ (type_and_detail w d k e b) = detail_legal k d (no_virtual w k e) b
names_legal _ _ _ (button d b) = detail_legal kind.ButtonPress d refl b
names_legal _ _ _ (keysym d b n) = detail_legal kind.KeyPress d refl b

bit_within : (m : Modifier) → bit_of m < 8_192
bit_within modifier_of.Shift = omega arith
bit_within modifier_of.Lock = omega arith
bit_within modifier_of.Control = omega arith
bit_within modifier_of.Mod1 = omega arith
bit_within modifier_of.Mod2 = omega arith
bit_within modifier_of.Mod3 = omega arith
bit_within modifier_of.Mod4 = omega arith
bit_within modifier_of.Mod5 = omega arith
bit_within modifier_of.Button1 = omega arith
bit_within modifier_of.Button2 = omega arith
bit_within modifier_of.Button3 = omega arith
bit_within modifier_of.Button4 = omega arith
bit_within modifier_of.Button5 = omega arith

says_legal : (ws : List (List ℕ)) (r : Repeated) → Says ws r → Legal r
says_legal _ _ (names ws k d h) = names_legal ws k d h
says_legal _ _ (modifier w ws m r e h) =
    let l = says_legal ws r h in
    let p = and_parts _ _ l.goes in
    let q = and_parts (nat_lt r.pattern.modifiers all_bits) _ p.1 in
    let within = or_within r.pattern.modifiers (bit_of m) (ltb-true r.pattern.modifiers all_bits q.0) (bit_within m) in
    record {
      far = l.far;
      goes = and_from _ _ p.0 (and_from _ _ (lt-ltb (bit_or r.pattern.modifiers (bit_of m)) all_bits within) q.1);
      few = l.few;
      text = l.text;
    }
says_legal _ _ (repeat w ws n r e one h) =
    let l = says_legal ws r h in
    record { far = l.far; goes = l.goes; few = leb-true n 4 (of_value (λ n. nat_le n 4) repeats w n refl e); text = l.text }

character_keysym : (c : ℕ) (k : List ℕ) → keysym_of c ≡ Some k → is_keysym k ≡ true
unfolding is_keysym keysym_of
character_keysym c k e =
    cond_both (is_alphanumeric c) (Some (c ∷ [])) (sign_name c) (λ o. o ≡ Some k → is_keysym k ≡ true)
    (λ h f. let same : c ∷ [] ≡ k = cc in subst (λ x. is_keysym x ≡ true) same (rw h refl))
    (λ h f. of_either (name_in first_signs c) _ k _ f (of_name is_keysym first_signs c k refl)
    (λ f. of_either (name_in second_signs c) _ k _ f (of_name is_keysym second_signs c k refl)
    (λ f. of_either (name_in third_signs c) _ k _ f (of_name is_keysym third_signs c k refl) (of_name is_keysym fourth_signs c k refl))))
    e

pub pattern_legal : (v t : List ℕ) (r : Repeated) → PatternThen v r t → Legal r
pattern_legal v _ _ (bare c k b e) = detail_legal kind.KeyPress k refl (character_keysym c k e)
pattern_legal v _ _ (in_brackets ws r u h s) = says_legal ws r s

-- ---- sequences

same_itself : (t : List ℕ) → same_text t t ≡ true
same_itself [] = refl
same_itself (c ∷ t) = and_from (c == c) (same_text t t) (eq-eqb c c refl) (same_itself t)

same_kind_itself : (k : Kind) → same_kind k k ≡ true
same_kind_itself kind.KeyPress = refl
same_kind_itself kind.KeyRelease = refl
same_kind_itself kind.ButtonPress = refl
same_kind_itself kind.ButtonRelease = refl
same_kind_itself kind.FocusIn = refl
same_kind_itself kind.FocusOut = refl
same_kind_itself kind.Virtual = refl

same_again : (p : Pattern) → same_kind p.kind p.kind && ((p.modifiers == p.modifiers) && same_text p.detail p.detail) ≡ true
same_again p = and_from _ _ (same_kind_itself p.kind) (and_from _ _ (eq-eqb p.modifiers p.modifiers refl) (same_itself p.detail))

near_follow : (p : Pattern) (n more : ℕ) (ps : List Pattern) → n ≤ more → ((k : ℕ) → may_follow p k ps ≡ true) → may_follow p more (near_ones p n ++ ps) ≡ true
near_follow p zero more ps h f = f more
near_follow p (suc n) more ps h f = and_from (nat_lt 0 more) _ (lt-ltb 0 more (omega arith)) (and_from _ _ (same_again p) (near_follow p n (more - 1) ps (omega arith) f))

others_follow : (p : Pattern) (k : ℕ) (t : List ℕ) (rs : List Repeated) → Patterns rs t → may_follow p k (all_events rs) ≡ true
others_follow p k _ _ (no_more t h) = refl
others_follow p k _ _ (pattern s u v r rs h q l) =
    let legal = pattern_legal v u r q in
    let rest = near_follow r.pattern (r.times - 1) 3 (all_events rs) (omega (arith, legal.few)) (λ j. others_follow r.pattern j v rs l) in
    ap (λ (b : Bool). if b then nat_lt 0 k && (same_pattern r.pattern p && may_follow p (k - 1) (near_ones r.pattern (r.times - 1) ++ all_events rs)) else (is_physical r.pattern && may_follow r.pattern 3 (near_ones r.pattern (r.times - 1) ++ all_events rs))) legal.far
    ∙ and_from (is_physical r.pattern) _ legal.goes rest

events_legal : (t : List ℕ) (r : Repeated) (rs : List Repeated) → Patterns (r ∷ rs) t → nat_le (length (all_events (r ∷ rs))) max_events ≡ true → is_physical_sequence (all_events (r ∷ rs)) ≡ true
events_legal _ r rs (pattern s u v _ _ h q l) few =
    let legal = pattern_legal v u r q in
    let rest = near_follow r.pattern (r.times - 1) 3 (all_events rs) (omega (arith, legal.few)) (λ j. others_follow r.pattern j v rs l) in
    and_from (not r.pattern.near) _ (rw legal.far refl) (and_from (is_physical r.pattern) _ legal.goes (and_from _ _ rest few))

pub spelled_legal : (t : List ℕ) (ps : List Pattern) → Spells t ps → nat_le (length ps) max_events ≡ true → is_sequence ps ≡ true
unfolding is_sequence
spelled_legal _ _ (events t r rs h) few = or_left (is_physical_sequence (all_events (r ∷ rs))) _ (events_legal t r rs h few)
spelled_legal _ _ (virtual_event s n e h k l) few = or_right (is_physical_sequence (virtual_one n ∷ [])) (is_virtual_sequence (virtual_one n ∷ [])) k

-- ---- characters of keysyms

letter_char : (t : List ℕ) (c : ℕ) → alphanumeric_of t ≡ Some c → is_text_byte c ≡ true
letter_char [] c e = absurd cc
letter_char (d ∷ []) c e =
    cond_both (is_alphanumeric d) (Some d) None (λ o. o ≡ Some c → is_text_byte c ≡ true)
    (λ h f. let same : d ≡ c = cc in subst (λ x. is_text_byte x ≡ true) same (alphanumeric_byte d h)) (λ h f. absurd cc) e
letter_char (d ∷ f ∷ t) c e = absurd cc

pub char_is_text : (t : List ℕ) (c : ℕ) → keysym_char t ≡ Some c → is_text_byte c ≡ true
char_is_text t c e =
    of_either (alphanumeric_of t) _ c _ e (letter_char t c)
    (λ e. of_either (named_in first_signs t) _ c _ e (of_value is_text_byte first_signs t c refl)
    (λ e. of_either (named_in second_signs t) _ c _ e (of_value is_text_byte second_signs t c refl)
    (λ e. of_either (named_in third_signs t) (named_in fourth_signs t) c _ e (of_value is_text_byte third_signs t c refl) (of_value is_text_byte fourth_signs t c refl))))

pub chars_are_text : (t : List ℕ) (o : Option ℕ) → o ≡ keysym_char t → IfSome o (λ c. is_text_byte c ≡ true)
chars_are_text t None e = tt
chars_are_text t (Some c) e = char_is_text t c (sym e)
