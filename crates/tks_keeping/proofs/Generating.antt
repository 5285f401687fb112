-- `event generate` leaves the world within limits: what an event carries is a word, and its detail is tested.
use Rattle.std.proofs.Common.{◌≡◌, ℕ, ◌==◌, true, List, [], ◌∷◌, Option, Some, None, option_map, IfSome, Ok, IfOk}
use Rattle.std.specs.Prelude.{decimal}
use Rattle.std.proofs.lemmas.Bool.{and_from, and_parts}
use Rattle.std.proofs.lemmas.Result.{IfOk-weaker}
use Rattle.tks_text.specs.Limits.{fits}
use Rattle.tks_text.specs.Size.{Extent}
use Rattle.tks_text.specs.declared.limits.Limits.{Limits}
use Rattle.tks_opt.specs.Values.{number_within}
use Rattle.tks_tcl.specs.Cause.{value_or_fault}
use Rattle.tks_tcl.proofs.Framing.{follows, follows_on}
use Rattle.tks_event.specs.Event.{Event}
use Rattle.tks_event.specs.Keysyms.{is_keysym}
use Rattle.tks_event.specs.Reading.{one_pattern_of}
use Rattle.tks_bind.specs.Percents.{has_field}
use Rattle.tks_bind.specs.declared.field.Field.{Field}
use Rattle.tks_bind.specs.declared.field.Field.TheVariants as field
use Rattle.tks_state.specs.World.{World}
use Rattle.tks_limits.specs.Within.{texts_fit, event_fits}
use Rattle.tks_cmd.specs.Windows.{are_paired}
use Rattle.tks_cmd.specs.Packing.{window_of}
use Rattle.tks_cmd.specs.Queue.{put_within}
use Rattle.tks_cmd.specs.Dispatch.{begun}
use Rattle.tks_cmd.specs.Events.{state_of, time_of, place_of, Wanted, option_named, with_field, or_bad_value, not_so, with_field_option_for, with_field_option, is_when, when_given, with_option, with_options, first_event, is_incomplete, complete, event_read, sent, within_text, generated, generate_does}
use Rattle.tks_cmd.specs.declared.events.When.{When}
use Rattle.tks_cmd.specs.declared.events.When.TheVariants as when
use Rattle.tks_keeping.specs.Fitting.{WorldFits, PlanFits}
use Rattle.tks_keeping.proofs.Parts.{LeftFits}
use Rattle.tks_keeping.proofs.Lists.{one_of, one_so}
use Rattle.tks_keeping.proofs.Texts.{tested_so, empty_fits, TextFits, TextsFit, other_words}
use Rattle.tks_keeping.proofs.Delivered.{put_fits, begun_fits}

-- what is made of a value, where there is one
mapped_so : {X Y : Type 0} (P : Y → Type 0) (f : X → Y) (o : Option X) → ((x : X) → P (f x)) → IfSome (option_map f o) P
mapped_so P f None h = tt
mapped_so P f (Some x) h = h x

-- an option's value, where it has one
given_so : {X : Type 0} (P : X → Type 0) (name : List ℕ) (o : Option X) → IfSome o P → IfOk (or_bad_value name o) P
given_so P name None h = tt
given_so P name (Some x) h = h

module _ (limits : Limits) (grid : Extent) where
  -- what an event carries passes no limit
  abbrev Carries : Event → Type 0
  Carries e = TextFits limits e.payload

  -- ---- options

  field_carries : (f : Field) (value : List ℕ) (e : Event) → TextFits limits value → Carries e → IfSome (with_field f value e) Carries
  field_carries field.Keysym value e v h = one_so (λ o. IfSome o Carries) (is_keysym value) (Some (record e { detail = value })) None h tt
  field_carries field.Button value e v h = mapped_so Carries (λ n. record e { detail = decimal n }) (number_within 1 5 value) (λ n. h)
  field_carries field.State value e v h = mapped_so Carries (λ n. record e { state = n }) (state_of value) (λ n. h)
  field_carries field.Time value e v h = mapped_so Carries (λ n. record e { time = n }) (time_of value) (λ n. h)
  field_carries field.Column value e v h = mapped_so Carries (λ z. record e { x = z }) (place_of value) (λ z. h)
  field_carries field.Row value e v h = mapped_so Carries (λ z. record e { y = z }) (place_of value) (λ z. h)
  field_carries field.RootColumn value e v h = mapped_so Carries (λ z. record e { root_x = z }) (place_of value) (λ z. h)
  field_carries field.RootRow value e v h = mapped_so Carries (λ z. record e { root_y = z }) (place_of value) (λ z. h)
  field_carries field.Data value e v h = v
  field_carries field.Character value e v h = tt
  field_carries field.Window value e v h = tt

  named_carries : (pattern name value : List ℕ) (e : Event) (o : Option Field) → TextFits limits value → Carries e → IfOk (with_field_option_for pattern name value e o) Carries
  named_carries pattern name value e None v h = tt
  named_carries pattern name value e (Some f) v h =
      one_of Carries (has_field e.kind f) (or_bad_value name (with_field f value e)) (not_so pattern) (given_so Carries name (with_field f value e) (field_carries f value e v h)) tt

  option_carries : (pattern name value : List ℕ) (x : Wanted) → TextFits limits value → Carries x.0 → IfOk (with_option pattern name value x) (λ y. Carries y.0)
  option_carries pattern name value x v h =
      one_of (λ y. Carries y.0) (is_when name) _ _
      (follows (λ y. Carries y.0) (when_given name value) _ (λ t. h))
      (follows_on Carries (λ y. Carries y.0) (with_field_option pattern name value x.0) _ (named_carries pattern name value x.0 (option_named name) v h) (λ e k. k))

  options_carry : (pattern : List ℕ) (options : List (List ℕ)) (x : Wanted) → TextsFit limits options → Carries x.0 → IfOk (with_options pattern options x) (λ y. Carries y.0)
  options_carry pattern [] x all h = h
  options_carry pattern (name ∷ []) x all h = h
  options_carry pattern (name ∷ value ∷ more) x all h =
      let a = and_parts (fits limits value) (texts_fit limits more) (other_words limits name (value ∷ more) all) in
      follows_on (λ y. Carries y.0) (λ y. Carries y.0) (with_option pattern name value x) (with_options pattern more) (option_carries pattern name value x a.0 h)
      (λ y k. options_carry pattern more y a.1 k)

  -- ---- events

  read_carries : (clock n : ℕ) (text : List ℕ) (options : List (List ℕ)) → TextsFit limits options → IfOk (event_read clock n text options) (λ y. Carries y.0)
  read_carries clock n text options all =
      follows (λ y. Carries y.0) (value_or_fault (one_pattern_of text)) _ (λ r.
      one_of (λ y. Carries y.0) (r.times == 1) _ _
      (follows_on (λ y. Carries y.0) (λ y. Carries y.0) (with_options text options (first_event clock n r.pattern, when.Now)) (complete text)
      (options_carry text options (first_event clock n r.pattern, when.Now) all (empty_fits limits)) (λ y k. one_of (λ y. Carries y.0) (is_incomplete y.0) (not_so text) (Ok y) tt k)) tt)

  tested_event : (e : Event) → Carries e → IfOk (within_text limits e) (λ e. event_fits limits e ≡ true)
  tested_event e h = tested_so (λ e. event_fits limits e ≡ true) (fits limits e.detail) (Ok e) (λ t. and_from (fits limits e.detail) (fits limits e.payload) t h)

  sent_fits : (w : World) (t : When) (e : Event) → event_fits limits e ≡ true → WorldFits limits grid w → IfOk (sent limits w t e) (LeftFits limits grid)
  sent_fits w when.Now e h k = IfOk-weaker (begun limits w e) (λ x. PlanFits limits x.0 × WorldFits limits grid x.1) (LeftFits limits grid) (λ x b. b.1) (begun_fits limits grid w e h k)
  sent_fits w (when.Queued p) e h k = follows_on (WorldFits limits grid) (LeftFits limits grid) (put_within limits p e w) _ (put_fits limits grid p e w h k) (λ u f. f)

  generated_fits : (path text : List ℕ) (options : List (List ℕ)) (w : World) → TextsFit limits options → WorldFits limits grid w
      → IfOk (generated limits path text options w) (LeftFits limits grid)
  generated_fits path text options w all k =
      follows (LeftFits limits grid) (window_of w path) _ (λ n.
      follows_on (λ y. Carries y.0) (LeftFits limits grid) (event_read w.clock n text options) _ (read_carries w.clock n text options all) (λ y c.
      follows_on (λ e. event_fits limits e ≡ true) (LeftFits limits grid) (within_text limits y.0) (sent limits w y.1) (tested_event y.0 c) (λ e f. sent_fits w y.1 e f k)))

  -- `event generate`, with words that fit
  pub generate_fits : (command : List ℕ) (words : List (List ℕ)) (w : World) → TextsFit limits words → WorldFits limits grid w → IfOk (generate_does limits command words w) (LeftFits limits grid)
  generate_fits command [] w h k = tt
  generate_fits command (path ∷ []) w h k = tt
  generate_fits command (path ∷ text ∷ options) w h k =
      let rest = other_words limits text options (other_words limits path (text ∷ options) h) in
      one_of (LeftFits limits grid) (are_paired options) _ _ (generated_fits path text options w rest k) tt
