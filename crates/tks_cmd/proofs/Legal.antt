-- The events that `event generate` makes are events that there are.
use Rattle.std.proofs.Common.{◌≡◌, ◌≤◌, ◌<◌, ◌^◌, ◌+◌, ℕ, ℤ, pos, negsuc, Bool, true, false, not, ◌||◌, ◌&&◌, ◌==◌, List, [], ◌∷◌, Option, Some, None, Result, Ok, Err, refl, sym, ap, ◌∙◌, subst, true≢false, arith}
use Rattle.std.specs.Prelude.{nat_le, nat_lt, decimal, option_map, if◌then◌else◌}
use Rattle.std.proofs.lemmas.Fmt.{decimal_digit}
use Rattle.std.proofs.lemmas.Bool.{cond_both, and_from, and_parts, or_right, le-leb, leb-true, ltb-true}
use Rattle.tks_text.specs.Integer.{integer_of}
use Rattle.tks_text.specs.declared.integer.Range.{Range}
use Rattle.tks_tcl.specs.Cause.{Cause, after}
use Rattle.tks_opt.specs.Values.{number_among, number_within}
use Rattle.tks_event.specs.Keysyms.{is_keysym}
use Rattle.tks_event.specs.Kinds.{same_kind, is_button, is_of_button, is_of_key, is_virtual}
use Rattle.tks_event.specs.Legality.{max_number, max_time, is_empty, is_place, is_somewhere, is_nowhere, suits_focus, suits_name, goes_with, is_event}
use Rattle.tks_event.specs.Modifiers.{all_bits}
use Rattle.tks_event.specs.Sequences.{is_some_text, is_name, is_physical}
use Rattle.tks_event.specs.Spelling.{SpellsPattern, physical, virtual}
use Rattle.tks_event.specs.Event.{Event}
use Rattle.tks_event.specs.declared.kind.Kind.{Kind}
use Rattle.tks_event.specs.declared.kind.Kind.TheVariants as kind
use Rattle.tks_event.specs.declared.pattern.Pattern.{Pattern}
use Rattle.tks_event.specs.declared.pattern.Repeated.{Repeated}
use Rattle.tks_event.proofs.Legal.{pattern_legal}
use Rattle.tks_bind.specs.Percents.{has_field}
use Rattle.tks_bind.specs.declared.field.Field.{Field}
use Rattle.tks_bind.specs.declared.field.Field.TheVariants as field
use Rattle.tks_tree.specs.WellFormed.{is_widget_class}
use Rattle.tks_state.specs.Widget.{class_of}
use Rattle.tks_cmd.specs.Events.{Wanted, time_among, time_of, place_among, place_of, with_field, state_of, or_bad_value, with_field_option_for, with_field_option, option_named, is_when, when_given, with_option, with_options, has_detail, first_event, is_incomplete, complete, not_so, event_of}
use Rattle.tks_cmd.specs.Focus.{focus_event}
use Rattle.tks_cmd.specs.VirtualEvents.{bad_sequence, name_in}
use Rattle.tks_cmd.specs.Windows.{first_widget}
use Rattle.tks_cmd.specs.declared.windows.WindowKind.{WindowKind}
use Rattle.tks_cmd.specs.declared.windows.WindowKind.TheVariants as window
use Rattle.tks_cmd.specs.declared.events.When.{When}
use Rattle.tks_cmd.specs.declared.events.When.TheVariants as when

-- ---- events that lack nothing but a key or a button

-- a text that passes a test, or none
abbrev some_or_none : (List ℕ → Bool) → List ℕ → Bool
some_or_none test d = not (is_some_text d) || test d

-- what goes with a kind, where a key or a button may not be said yet
abbrev begins_with : Kind → Event → Bool
begins_with kind.KeyPress e = some_or_none is_keysym e.detail && (is_nowhere e && is_empty e.payload)
begins_with kind.KeyRelease e = some_or_none is_keysym e.detail && (is_nowhere e && is_empty e.payload)
begins_with kind.ButtonPress e = some_or_none is_button e.detail && (is_somewhere e && is_empty e.payload)
begins_with kind.ButtonRelease e = some_or_none is_button e.detail && (is_somewhere e && is_empty e.payload)
begins_with kind.FocusIn e = suits_focus e
begins_with kind.FocusOut e = suits_focus e
begins_with kind.Virtual e = suits_name e

record Begun (e : Event) : Type 0 where
  pub window : e.window ≤ max_number
  pub time : e.time ≤ max_time
  pub fields : begins_with e.kind e ≡ true

-- ---- the event that a pattern says

no_text : (d : List ℕ) → (not (is_some_text d) || false) ≡ true → is_empty d ≡ true
no_text [] h = refl
no_text (c ∷ d) h = absurd cc

module _ (clock n : ℕ) where
  physical_begins : (k : Kind) (p : Pattern) → p.kind ≡ k → is_physical (record p { kind = k }) ≡ true → begins_with k (first_event clock n (record p { kind = k })) ≡ true
  physical_begins kind.KeyPress p e h = and_from (some_or_none is_keysym p.detail) true (and_parts (nat_lt p.modifiers all_bits) _ h).1 refl
  physical_begins kind.KeyRelease p e h = and_from (some_or_none is_keysym p.detail) true (and_parts (nat_lt p.modifiers all_bits) _ h).1 refl
  physical_begins kind.ButtonPress p e h = and_from (some_or_none is_button p.detail) true (and_parts (nat_lt p.modifiers all_bits) _ h).1 refl
  physical_begins kind.ButtonRelease p e h = and_from (some_or_none is_button p.detail) true (and_parts (nat_lt p.modifiers all_bits) _ h).1 refl
  physical_begins kind.FocusIn p e h = and_from (is_empty p.detail) true (no_text p.detail (and_parts (nat_lt p.modifiers all_bits) _ h).1) refl
  physical_begins kind.FocusOut p e h = and_from (is_empty p.detail) true (no_text p.detail (and_parts (nat_lt p.modifiers all_bits) _ h).1) refl
  physical_begins kind.Virtual p e h = absurd cc

  at_most : (b : Bool) → clock < 2 ^ 62 → (if b then clock else 0) ≤ max_time
  at_most true h = omega (arith, h)
  at_most false h = omega arith

  spelled_begins : (t : List ℕ) (r : Repeated) → SpellsPattern t r → clock < 2 ^ 62 → n ≤ max_number → Begun (first_event clock n r.pattern)
  spelled_begins _ _ (physical t r p) early low = record {
    window = low;
    time = at_most (has_field r.pattern.kind field.Time) early;
    fields = physical_begins r.pattern.kind r.pattern refl (pattern_legal [] t r p).goes;
  }
  spelled_begins _ _ (virtual name h) early low = record { window = low; time = omega (arith, early); fields = and_from (is_name name) true h refl }

-- ---- options

-- events of keys alone have keysyms
keysym_begins : (k : Kind) (e : Event) (value : List ℕ) → is_of_key k ≡ true → is_keysym value ≡ true → begins_with k e ≡ true → begins_with k (record e { detail = value }) ≡ true
keysym_begins kind.KeyPress e value of is h = and_from (some_or_none is_keysym value) _ (or_right (not (is_some_text value)) (is_keysym value) is) (and_parts (some_or_none is_keysym e.detail) _ h).1
keysym_begins kind.KeyRelease e value of is h = and_from (some_or_none is_keysym value) _ (or_right (not (is_some_text value)) (is_keysym value) is) (and_parts (some_or_none is_keysym e.detail) _ h).1
keysym_begins kind.ButtonPress e value of is h = absurd cc
keysym_begins kind.ButtonRelease e value of is h = absurd cc
keysym_begins kind.FocusIn e value of is h = absurd cc
keysym_begins kind.FocusOut e value of is h = absurd cc
keysym_begins kind.Virtual e value of is h = absurd cc

-- events of buttons alone have their numbers
button_begins : (k : Kind) (e : Event) (value : List ℕ) → is_of_button k ≡ true → is_button value ≡ true → begins_with k e ≡ true → begins_with k (record e { detail = value }) ≡ true
button_begins kind.ButtonPress e value of is h = and_from (some_or_none is_button value) _ (or_right (not (is_some_text value)) (is_button value) is) (and_parts (some_or_none is_button e.detail) _ h).1
button_begins kind.ButtonRelease e value of is h = and_from (some_or_none is_button value) _ (or_right (not (is_some_text value)) (is_button value) is) (and_parts (some_or_none is_button e.detail) _ h).1
button_begins kind.KeyPress e value of is h = absurd cc
button_begins kind.KeyRelease e value of is h = absurd cc
button_begins kind.FocusIn e value of is h = absurd cc
button_begins kind.FocusOut e value of is h = absurd cc
button_begins kind.Virtual e value of is h = absurd cc

-- events with a state may have each, at each time; those of the focus have none, and no time
told_begins : (k : Kind) (e : Event) (state time : ℕ) → has_field k field.State ≡ true → begins_with k e ≡ true → begins_with k (record e { state = state; time = time }) ≡ true
told_begins kind.KeyPress e state time of h = h
told_begins kind.KeyRelease e state time of h = h
told_begins kind.ButtonPress e state time of h = h
told_begins kind.ButtonRelease e state time of h = h
told_begins kind.Virtual e state time of h = h
told_begins kind.FocusIn e state time of h = absurd cc
told_begins kind.FocusOut e state time of h = absurd cc

-- a virtual event alone has data
data_begins : (k : Kind) (e : Event) (value : List ℕ) → is_virtual k ≡ true → begins_with k e ≡ true → begins_with k (record e { payload = value }) ≡ true
data_begins kind.Virtual e value of h = h
data_begins kind.KeyPress e value of h = absurd cc
data_begins kind.KeyRelease e value of h = absurd cc
data_begins kind.ButtonPress e value of h = absurd cc
data_begins kind.ButtonRelease e value of h = absurd cc
data_begins kind.FocusIn e value of h = absurd cc
data_begins kind.FocusOut e value of h = absurd cc

-- events of buttons and virtual ones have places: what keeps these keeps all
places_begin : (k : Kind) (e f : Event) → (is_of_button k || is_virtual k) ≡ true → f.detail ≡ e.detail → f.payload ≡ e.payload → (is_somewhere e ≡ true → is_somewhere f ≡ true)
    → begins_with k e ≡ true → begins_with k f ≡ true
places_begin kind.ButtonPress e f of d p keeps h =
    let a = and_parts (some_or_none is_button e.detail) (is_somewhere e && is_empty e.payload) h in
    let b = and_parts (is_somewhere e) (is_empty e.payload) a.1 in
    and_from (some_or_none is_button f.detail) _ (ap (some_or_none is_button) d ∙ a.0) (and_from (is_somewhere f) (is_empty f.payload) (keeps b.0) (ap is_empty p ∙ b.1))
places_begin kind.ButtonRelease e f of d p keeps h =
    let a = and_parts (some_or_none is_button e.detail) (is_somewhere e && is_empty e.payload) h in
    let b = and_parts (is_somewhere e) (is_empty e.payload) a.1 in
    and_from (some_or_none is_button f.detail) _ (ap (some_or_none is_button) d ∙ a.0) (and_from (is_somewhere f) (is_empty f.payload) (keeps b.0) (ap is_empty p ∙ b.1))
places_begin kind.Virtual e f of d p keeps h =
    let a = and_parts (is_name e.detail) (is_somewhere e) h in
    and_from (is_name f.detail) (is_somewhere f) (ap is_name d ∙ a.0) (keeps a.1)
places_begin kind.KeyPress e f of d p keeps h = absurd cc
places_begin kind.KeyRelease e f of d p keeps h = absurd cc
places_begin kind.FocusIn e f of d p keeps h = absurd cc
places_begin kind.FocusOut e f of d p keeps h = absurd cc

-- places, one after the other
four : (a b c d : Bool) → (a && (b && (c && d))) ≡ true → (a ≡ true) × ((b ≡ true) × ((c ≡ true) × (d ≡ true)))
four a b c d h =
    let p = and_parts a (b && (c && d)) h in
    let q = and_parts b (c && d) p.1 in
    (p.0, (q.0, and_parts c d q.1))

all_four : (a b c d : Bool) → a ≡ true → b ≡ true → c ≡ true → d ≡ true → (a && (b && (c && d))) ≡ true
all_four a b c d p q r s = and_from a _ p (and_from b _ q (and_from c d r s))

-- ---- values

place_legal : (r : Result (Option ℤ) Range) (z : ℤ) → place_among r ≡ Some z → is_place z ≡ true
place_legal (Ok (Some (pos n))) z h =
    cond_both (nat_le n 100_000) (Some (pos n)) None (λ o. o ≡ Some z → is_place z ≡ true) (λ b f. let same : pos n ≡ z = cc in subst (λ y. is_place y ≡ true) same b) (λ b f. absurd cc) h
place_legal (Ok (Some (negsuc n))) z h =
    cond_both (nat_lt n 100_000) (Some (negsuc n)) None (λ o. o ≡ Some z → is_place z ≡ true) (λ b f. let same : negsuc n ≡ z = cc in subst (λ y. is_place y ≡ true) same b) (λ b f. absurd cc) h
place_legal (Ok None) z h = absurd cc
place_legal (Err out) z h = absurd cc

time_legal : (r : Result (Option ℤ) Range) (t : ℕ) → time_among r ≡ Some t → t ≤ max_time
time_legal (Ok (Some (pos n))) t h =
    cond_both (nat_lt n (2 ^ 62)) (Some n) None (λ o. o ≡ Some t → t ≤ max_time)
    (λ b f. let same : n ≡ t = cc in let below = ltb-true n (2 ^ 62) b in omega (arith, same, below)) (λ b f. absurd cc) h
time_legal (Ok (Some (negsuc n))) t h = absurd cc
time_legal (Ok None) t h = absurd cc
time_legal (Err out) t h = absurd cc

pub button_number_legal : (n : ℕ) → 1 ≤ n → n ≤ 5 → is_button (decimal n) ≡ true
button_number_legal n low high =
    subst (λ t. is_button t ≡ true) (sym (decimal_digit n (omega (arith, high))))
    (and_from (nat_le 49 (48 + n)) (nat_le (48 + n) 53) (le-leb 49 (48 + n) (omega (arith, low))) (le-leb (48 + n) 53 (omega (arith, high))))

number_legal : (r : Result (Option ℤ) Range) (n : ℕ) → number_among 1 5 r ≡ Some n → is_button (decimal n) ≡ true
number_legal (Ok (Some (pos m))) n h =
    cond_both (nat_le 1 m && nat_le m 5) (Some m) None (λ o. o ≡ Some n → is_button (decimal n) ≡ true)
    (λ b f. let same : m ≡ n = cc in let p = and_parts (nat_le 1 m) (nat_le m 5) b in subst (λ i. is_button (decimal i) ≡ true) same (button_number_legal m (leb-true 1 m p.0) (leb-true m 5 p.1))) (λ b f. absurd cc) h
number_legal (Ok (Some (negsuc m))) n h = absurd cc
number_legal (Ok None) n h = absurd cc
number_legal (Err out) n h = absurd cc

-- ---- options with their values

mapped : {X Y : Type 0} (g : X → Y) (o : Option X) (y : Y) (P : Y → Type 0) → option_map g o ≡ Some y → ((x : X) → o ≡ Some x → P (g x)) → P y
mapped g None y P h f = absurd cc
mapped g (Some x) y P h f = let same : g x ≡ y = cc in subst P same (f x refl)

field_begun : (f : Field) (value : List ℕ) (e new : Event) → Begun e → has_field e.kind f ≡ true → with_field f value e ≡ Some new → Begun new
field_begun field.Keysym value e new b of h =
    cond_both (is_keysym value) (Some (record e { detail = value })) None (λ o. o ≡ Some new → Begun new)
    (λ is g. let same : record e { detail = value } ≡ new = cc in subst Begun same (record { window = b.window; time = b.time; fields = keysym_begins e.kind e value of is b.fields }))
    (λ is g. absurd cc) h
field_begun field.Button value e new b of h =
    mapped (λ n. record e { detail = decimal n }) (number_within 1 5 value) new Begun h
    (λ n is. record { window = b.window; time = b.time; fields = button_begins e.kind e (decimal n) of (number_legal (integer_of value) n is) b.fields })
field_begun field.Data value e new b of h =
    let same : record e { payload = value } ≡ new = cc in
    subst Begun same (record { window = b.window; time = b.time; fields = data_begins e.kind e value of b.fields })
field_begun field.State value e new b of h =
    mapped (λ s. record e { state = s }) (state_of value) new Begun h (λ s is. record { window = b.window; time = b.time; fields = told_begins e.kind e s e.time of b.fields })
field_begun field.Time value e new b of h =
    mapped (λ t. record e { time = t }) (time_of value) new Begun h
    (λ t is. record { window = b.window; time = time_legal (integer_of value) t is; fields = told_begins e.kind e e.state t of b.fields })
field_begun field.Column value e new b of h =
    mapped (λ z. record e { x = z }) (place_of value) new Begun h
    (λ z is. record {
      window = b.window;
      time = b.time;
      fields = places_begin e.kind e (record e { x = z }) of refl refl (λ s. let p = four (is_place e.x) (is_place e.y) (is_place e.root_x) (is_place e.root_y) s in all_four (is_place z) (is_place e.y) (is_place e.root_x) (is_place e.root_y) (place_legal (integer_of value) z is) p.1.0 p.1.1.0 p.1.1.1) b.fields;
    })
field_begun field.Row value e new b of h =
    mapped (λ z. record e { y = z }) (place_of value) new Begun h
    (λ z is. record {
      window = b.window;
      time = b.time;
      fields = places_begin e.kind e (record e { y = z }) of refl refl (λ s. let p = four (is_place e.x) (is_place e.y) (is_place e.root_x) (is_place e.root_y) s in all_four (is_place e.x) (is_place z) (is_place e.root_x) (is_place e.root_y) p.0 (place_legal (integer_of value) z is) p.1.1.0 p.1.1.1) b.fields;
    })
field_begun field.RootColumn value e new b of h =
    mapped (λ z. record e { root_x = z }) (place_of value) new Begun h
    (λ z is. record {
      window = b.window;
      time = b.time;
      fields = places_begin e.kind e (record e { root_x = z }) of refl refl (λ s. let p = four (is_place e.x) (is_place e.y) (is_place e.root_x) (is_place e.root_y) s in all_four (is_place e.x) (is_place e.y) (is_place z) (is_place e.root_y) p.0 p.1.0 (place_legal (integer_of value) z is) p.1.1.1) b.fields;
    })
field_begun field.RootRow value e new b of h =
    mapped (λ z. record e { root_y = z }) (place_of value) new Begun h
    (λ z is. record {
      window = b.window;
      time = b.time;
      fields = places_begin e.kind e (record e { root_y = z }) of refl refl (λ s. let p = four (is_place e.x) (is_place e.y) (is_place e.root_x) (is_place e.root_y) s in all_four (is_place e.x) (is_place e.y) (is_place e.root_x) (is_place z) p.0 p.1.0 p.1.1.0 (place_legal (integer_of value) z is)) b.fields;
    })
field_begun field.Character value e new b of h = absurd cc
field_begun field.Window value e new b of h = absurd cc

module _ (pattern : List ℕ) where
  named_begun : (name value : List ℕ) (e new : Event) (o : Option Field) → Begun e → with_field_option_for pattern name value e o ≡ Ok new → Begun new
  named_begun name value e new None b h = absurd cc
  named_begun name value e new (Some f) b h =
      cond_both (has_field e.kind f) (or_bad_value name (with_field f value e)) (not_so pattern) (λ r. r ≡ Ok new → Begun new) (λ of g. by (with_field f value e) refl of g) (λ of g. absurd cc) h
    where
      by : (o : Option Event) → with_field f value e ≡ o → has_field e.kind f ≡ true → or_bad_value name o ≡ Ok new → Begun new
      by None is of g = absurd cc
      by (Some set) is of g = let same : set ≡ new = cc in subst Begun same (field_begun f value e set b of is)

  option_begun : (name value : List ℕ) (x new : Wanted) → Begun x.0 → with_option pattern name value x ≡ Ok new → Begun new.0
  option_begun name value x new b h =
      cond_both (is_when name) (after (when_given name value) (λ t. Ok (x.0, t))) (after (with_field_option pattern name value x.0) (λ e. Ok (e, x.1))) (λ r. r ≡ Ok new → Begun new.0)
      (λ is g. at_when (when_given name value) g) (λ is g. at_field (with_field_option pattern name value x.0) refl g) h
    where
      at_when : (r : Result When Cause) → after r (λ t. Ok (x.0, t)) ≡ Ok new → Begun new.0
      at_when (Ok t) g = let same : (x.0, t) ≡ new = cc in subst (λ (y : Wanted). Begun y.0) same b
      at_when (Err why) g = absurd cc

      at_field : (r : Result Event Cause) → with_field_option pattern name value x.0 ≡ r → after r (λ e. Ok (e, x.1)) ≡ Ok new → Begun new.0
      at_field (Ok e) is g = let same : (e, x.1) ≡ new = cc in subst (λ (y : Wanted). Begun y.0) same (named_begun name value x.0 e (option_named name) b is)
      at_field (Err why) is g = absurd cc

  options_begun : (options : List (List ℕ)) (x new : Wanted) → Begun x.0 → with_options pattern options x ≡ Ok new → Begun new.0
  options_begun [] x new b h = let same : x ≡ new = cc in subst (λ (y : Wanted). Begun y.0) same b
  options_begun (name ∷ []) x new b h = let same : x ≡ new = cc in subst (λ (y : Wanted). Begun y.0) same b
  options_begun (name ∷ value ∷ more) x new b h = by (with_option pattern name value x) refl h (λ set. options_begun more set new)
    where
      by : (r : Result Wanted Cause) → with_option pattern name value x ≡ r → after r (with_options pattern more) ≡ Ok new
          → ((set : Wanted) → Begun set.0 → with_options pattern more set ≡ Ok new → Begun new.0) → Begun new.0
      by (Ok set) is g rest = rest set (option_begun name value x set b is) g
      by (Err why) is g rest = absurd cc

-- ---- an event that says its key or button

said : (test : List ℕ → Bool) (d : List ℕ) → (true && not (is_some_text d)) ≡ false → some_or_none test d ≡ true → test d ≡ true
said test d none h = sym (ap (λ b. b || test d) none) ∙ h

complete_goes : (k : Kind) (e : Event) → (has_detail k && not (is_some_text e.detail)) ≡ false → begins_with k e ≡ true → goes_with k e ≡ true
complete_goes kind.KeyPress e none h =
    let a = and_parts (some_or_none is_keysym e.detail) _ h in
    and_from (is_keysym e.detail) _ (said is_keysym e.detail none a.0) a.1
complete_goes kind.KeyRelease e none h =
    let a = and_parts (some_or_none is_keysym e.detail) _ h in
    and_from (is_keysym e.detail) _ (said is_keysym e.detail none a.0) a.1
complete_goes kind.ButtonPress e none h =
    let a = and_parts (some_or_none is_button e.detail) _ h in
    and_from (is_button e.detail) _ (said is_button e.detail none a.0) a.1
complete_goes kind.ButtonRelease e none h =
    let a = and_parts (some_or_none is_button e.detail) _ h in
    and_from (is_button e.detail) _ (said is_button e.detail none a.0) a.1
complete_goes kind.FocusIn e none h = h
complete_goes kind.FocusOut e none h = h
complete_goes kind.Virtual e none h = h

whole : (e : Event) → Begun e → is_incomplete e ≡ false → is_event e ≡ true
unfolding is_event
whole e b none =
    and_from (nat_le e.window max_number) _ (le-leb e.window max_number b.window)
    (and_from (nat_le e.time max_time) _ (le-leb e.time max_time b.time) (complete_goes e.kind e none b.fields))

complete_legal : (text : List ℕ) (x new : Wanted) → Begun x.0 → complete text x ≡ Ok new → is_event new.0 ≡ true
complete_legal text x new b h =
    cond_both (is_incomplete x.0) (not_so text) (Ok x) (λ r. r ≡ Ok new → is_event new.0 ≡ true) (λ none g. absurd cc)
    (λ none g. let same : x ≡ new = cc in subst (λ (y : Wanted). is_event y.0 ≡ true) same (whole x.0 b none)) h

-- what a pattern and options say is an event that there is
pub event_legal : (clock n : ℕ) (text : List ℕ) (options : List (List ℕ)) (r : Repeated) (new : Wanted) → clock < 2 ^ 62 → n ≤ 2 ^ 62 → SpellsPattern text r → event_of clock n text options r ≡ Ok new → is_event new.0 ≡ true
event_legal clock n text options r new early low spells h =
    cond_both (r.times == 1) (after (with_options text options (first_event clock n r.pattern, when.Now)) (complete text)) (not_so text) (λ o. o ≡ Ok new → is_event new.0 ≡ true)
    (λ one k. at_options (with_options text options (first_event clock n r.pattern, when.Now)) refl k) (λ one k. absurd cc) h
  where
    at_options : (o : Result Wanted Cause) → with_options text options (first_event clock n r.pattern, when.Now) ≡ o → after o (complete text) ≡ Ok new → is_event new.0 ≡ true
    at_options (Ok x) is g = complete_legal text x new (options_begun text options (first_event clock n r.pattern, when.Now) x (spelled_begins clock n text r spells early low) is) g
    at_options (Err why) is g = absurd cc

-- ---- the events that tell of the focus

pub leaves_legal : (n : ℕ) → n ≤ 2 ^ 62 → is_event (focus_event kind.FocusOut n) ≡ true
unfolding is_event
leaves_legal n low = and_from (nat_le n max_number) true (le-leb n max_number low) refl

pub comes_legal : (n : ℕ) → n ≤ 2 ^ 62 → is_event (focus_event kind.FocusIn n) ≡ true
unfolding is_event
comes_legal n low = and_from (nat_le n max_number) true (le-leb n max_number low) refl

-- ---- virtual events

same_virtual : (k : Kind) → is_virtual k ≡ true → not (same_kind k kind.Virtual) ≡ true → ⊥
same_virtual kind.Virtual h other = true≢false (sym other)
same_virtual kind.KeyPress h other = true≢false (sym h)
same_virtual kind.KeyRelease h other = true≢false (sym h)
same_virtual kind.ButtonPress h other = true≢false (sym h)
same_virtual kind.ButtonRelease h other = true≢false (sym h)
same_virtual kind.FocusIn h other = true≢false (sym h)
same_virtual kind.FocusOut h other = true≢false (sym h)

spelled_name : (t : List ℕ) (r : Repeated) → SpellsPattern t r → is_virtual r.pattern.kind ≡ true → is_name r.pattern.detail ≡ true
spelled_name _ _ (physical t r p) h = absurd (same_virtual r.pattern.kind h (and_parts (not (same_kind r.pattern.kind kind.Virtual)) _ (pattern_legal [] t r p).goes).0)
spelled_name _ _ (virtual name is) h = is

-- what is read as a name is one
pub name_legal : (text name : List ℕ) (r : Repeated) → SpellsPattern text r → name_in text r ≡ Ok name → is_name name ≡ true
name_legal text name r spells h =
    cond_both (is_virtual r.pattern.kind) (Ok r.pattern.detail) (bad_sequence text) (λ o. o ≡ Ok name → is_name name ≡ true)
    (λ v k. let same : r.pattern.detail ≡ name = cc in subst (λ n. is_name n ≡ true) same (spelled_name text r spells v)) (λ v k. absurd cc) h

-- ---- windows

-- none that a command makes is of the root's class
pub first_class : (k : WindowKind) (path : List ℕ) → is_widget_class (class_of (first_widget k path)) ≡ true
first_class window.Frame path = refl
first_class window.Label path = refl
first_class window.Button path = refl
first_class window.Checkbutton path = refl
first_class window.Entry path = refl
first_class window.Listbox path = refl
first_class window.Text path = refl
