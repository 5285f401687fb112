-- `event generate` (event(n); which options each kind has, their ranges, which errors there are and their order are this
-- project's own).
use Rattle.std.specs.Prelude.{ℕ, ℤ, pos, negsuc, ◌^◌, ◌==◌, Bool, not, ◌||◌, ◌&&◌, nat_le, nat_lt, if◌then◌else◌, codes, decimal, List, [], ◌∷◌, Option, Some, None, option_map, Result, Ok, Err}
use Rattle.tks_text.specs.Text.{same_text}
use Rattle.tks_text.specs.Integer.{integer_of}
use Rattle.tks_text.specs.declared.integer.Range.{Range}
use Rattle.tks_text.specs.declared.fault.ErrorNumber.TheVariants.{UnknownOption, BadValue, CannotBeGenerated}
use Rattle.tks_text.specs.declared.limits.Limits.{Limits}
use Rattle.tks_text.specs.Limits.{fits}
use Rattle.tks_tcl.specs.Cause.{Cause, Fault, OverLimit, after, value_or_fault, about, wrong_words}
use Rattle.tks_opt.specs.Values.{number_within}
use Rattle.tks_event.specs.Kinds.{is_of_button, is_of_key}
use Rattle.tks_event.specs.Keysyms.{named_in, is_keysym}
use Rattle.tks_event.specs.Modifiers.{all_bits}
use Rattle.tks_event.specs.Reading.{one_pattern_of}
use Rattle.tks_event.specs.Sequences.{is_some_text}
use Rattle.tks_event.specs.Event.{Event}
use Rattle.tks_event.specs.declared.kind.Kind.{Kind}
use Rattle.tks_event.specs.declared.pattern.Pattern.{Pattern}
use Rattle.tks_event.specs.declared.pattern.Repeated.{Repeated}
use Rattle.tks_bind.specs.Percents.{has_field}
use Rattle.tks_bind.specs.declared.field.Field.{Field}
use Rattle.tks_bind.specs.declared.field.Field.TheVariants as field
use Rattle.tks_queue.specs.declared.place.Place.TheVariants as place
use Rattle.tks_state.specs.World.{World}
use Rattle.tks_eval.specs.declared.host.Plan.{Plan}
use Rattle.tks_eval.specs.declared.host.Plan.TheVariants as plan
use Rattle.tks_cmd.specs.Windows.{are_paired}
use Rattle.tks_cmd.specs.Packing.{window_of}
use Rattle.tks_cmd.specs.Dispatch.{begun}
use Rattle.tks_cmd.specs.Queue.{put_within}
use Rattle.tks_cmd.specs.declared.events.When.{When}
use Rattle.tks_cmd.specs.declared.events.When.TheVariants as when

-- ---- values of options

-- the number of milliseconds that an integer is: 0 to 2^62 - 1
abbrev pub time_among : Result (Option ℤ) Range → Option ℕ
time_among (Ok (Some (pos n))) = if nat_lt n (2 ^ 62) then Some n else None
time_among other = None

abbrev pub time_of : List ℕ → Option ℕ
time_of text = time_among (integer_of text)

-- the set of modifiers that an integer is the number of: 0 to 8191
abbrev pub state_among : Result (Option ℤ) Range → Option ℕ
state_among (Ok (Some (pos n))) = if nat_lt n all_bits then Some n else None
state_among other = None

abbrev pub state_of : List ℕ → Option ℕ
state_of text = state_among (integer_of text)

-- the column or row that an integer is: -100,000 to 100,000
abbrev pub place_among : Result (Option ℤ) Range → Option ℤ
place_among (Ok (Some (pos n))) = if nat_le n 100_000 then Some (pos n) else None
place_among (Ok (Some (negsuc n))) = if nat_lt n 100_000 then Some (negsuc n) else None
place_among other = None

abbrev pub place_of : List ℕ → Option ℤ
place_of text = place_among (integer_of text)

-- when an event is delivered: at once, or when it is the first of the queue
abbrev pub whens : List (List ℕ × When)
whens = (codes "now", when.Now) ∷ (codes "tail", when.Queued place.Tail) ∷ (codes "head", when.Queued place.Head) ∷ (codes "mark", when.Queued place.Mark) ∷ []

abbrev pub when_of : List ℕ → Option When
when_of text = named_in whens text

-- ---- options

-- an event that is wanted, and when
abbrev pub Wanted : Type 0
Wanted = Event × When

-- the field that an option is for
abbrev pub options : List (List ℕ × Field)
options =
    (codes "-keysym", field.Keysym) ∷ (codes "-button", field.Button) ∷ (codes "-state", field.State) ∷ (codes "-time", field.Time)
    ∷ (codes "-x", field.Column) ∷ (codes "-y", field.Row) ∷ (codes "-rootx", field.RootColumn) ∷ (codes "-rooty", field.RootRow)
    ∷ (codes "-data", field.Data) ∷ []

abbrev pub option_named : List ℕ → Option Field
option_named name = named_in options name

-- an event with this value of a field, where the field may have it
abbrev pub with_field : Field → List ℕ → Event → Option Event
with_field field.Keysym value e = if is_keysym value then Some (record e { detail = value }) else None
with_field field.Button value e = option_map (λ n. record e { detail = decimal n }) (number_within 1 5 value)
with_field field.State value e = option_map (λ n. record e { state = n }) (state_of value)
with_field field.Time value e = option_map (λ n. record e { time = n }) (time_of value)
with_field field.Column value e = option_map (λ z. record e { x = z }) (place_of value)
with_field field.Row value e = option_map (λ z. record e { y = z }) (place_of value)
with_field field.RootColumn value e = option_map (λ z. record e { root_x = z }) (place_of value)
with_field field.RootRow value e = option_map (λ z. record e { root_y = z }) (place_of value)
with_field field.Data value e = Some (record e { payload = value })
with_field other value e = None

-- the errors about an option, and about a pattern of which no event can be made so
abbrev pub unknown_option : {X : Type 0} → List ℕ → Result X Cause
unknown_option name = Err (Fault (about UnknownOption name))

abbrev pub bad_value : {X : Type 0} → List ℕ → Result X Cause
bad_value name = Err (Fault (about BadValue name))

abbrev pub not_so : {X : Type 0} → List ℕ → Result X Cause
not_so pattern = Err (Fault (about CannotBeGenerated pattern))

abbrev pub or_bad_value : {X : Type 0} → List ℕ → Option X → Result X Cause
or_bad_value name None = bad_value name
or_bad_value name (Some x) = Ok x

-- an event with an option for this field, which events of its kind must have
abbrev pub with_field_option_for : List ℕ → List ℕ → List ℕ → Event → Option Field → Result Event Cause
with_field_option_for pattern name value e None = unknown_option name
with_field_option_for pattern name value e (Some f) = if has_field e.kind f then or_bad_value name (with_field f value e) else not_so pattern

abbrev pub with_field_option : List ℕ → List ℕ → List ℕ → Event → Result Event Cause
with_field_option pattern name value e = with_field_option_for pattern name value e (option_named name)

-- `-when`, which events of all kinds have
abbrev pub is_when : List ℕ → Bool
is_when name = same_text name (codes "-when")

abbrev pub when_given : List ℕ → List ℕ → Result When Cause
when_given name value = or_bad_value name (when_of value)

abbrev pub with_option : List ℕ → List ℕ → List ℕ → Wanted → Result Wanted Cause
with_option pattern name value x =
    if is_when name then after (when_given name value) (λ t. Ok (x.0, t))
    else after (with_field_option pattern name value x.0) (λ e. Ok (e, x.1))

-- options and values in turn
abbrev pub with_options : List ℕ → List (List ℕ) → Wanted → Result Wanted Cause
with_options pattern [] x = Ok x
with_options pattern (name ∷ []) x = Ok x
with_options pattern (name ∷ value ∷ more) x = after (with_option pattern name value x) (with_options pattern more)

-- ---- events

-- events of these kinds have a key or a button
abbrev pub has_detail : Kind → Bool
has_detail k = is_of_key k || is_of_button k

-- the modifiers of the pattern, in events that have a state
abbrev pub first_state : Kind → ℕ → ℕ
first_state k modifiers = if has_field k field.State then modifiers else 0

-- the time of the clock, in events that have a time
abbrev pub first_time : Kind → ℕ → ℕ
first_time k clock = if has_field k field.Time then clock else 0

-- the event that a pattern alone says of the window of a number, at this time
abbrev pub first_event : ℕ → ℕ → Pattern → Event
first_event clock n p = record {
  window = n;
  kind = p.kind;
  detail = p.detail;
  state = first_state p.kind p.modifiers;
  time = first_time p.kind clock;
  x = pos 0;
  y = pos 0;
  root_x = pos 0;
  root_y = pos 0;
  payload = [];
}

-- an event of a key or a button says which one it is
abbrev pub is_incomplete : Event → Bool
is_incomplete e = has_detail e.kind && not (is_some_text e.detail)

abbrev pub complete : List ℕ → Wanted → Result Wanted Cause
complete pattern x = if is_incomplete x.0 then not_so pattern else Ok x

-- the event that a pattern and options say, and when it is delivered: at once, where they don't say; a pattern with a
-- repeat word says none
abbrev pub event_of : ℕ → ℕ → List ℕ → List (List ℕ) → Repeated → Result Wanted Cause
event_of clock n text options r =
    if r.times == 1 then after (with_options text options (first_event clock n r.pattern, when.Now)) (complete text) else not_so text

-- the same, given the pattern's text
abbrev pub event_read : ℕ → ℕ → List ℕ → List (List ℕ) → Result Wanted Cause
event_read clock n text options = after (value_or_fault (one_pattern_of text)) (event_of clock n text options)

-- ---- event generate window pattern ?option value ..?

module _ (limits : Limits) where
  -- an event delivered at once, or put into the queue
  abbrev pub sent : World → When → Event → Result (Plan × World) Cause
  sent w when.Now e = begun limits w e
  sent w (when.Queued p) e = after (put_within limits p e w) (λ u. Ok (plan.Answer 0 [], u))

  -- an event whose detail passes no limit; a pattern of one character may have a longer one
  abbrev pub within_text : Event → Result Event Cause
  within_text e = if fits limits e.detail then Ok e else Err OverLimit

  abbrev pub generated : List ℕ → List ℕ → List (List ℕ) → World → Result (Plan × World) Cause
  generated path text options w =
      after (window_of w path) (λ n. after (event_read w.clock n text options) (λ x. after (within_text x.0) (sent w x.1)))

  abbrev pub generate_does : List ℕ → List (List ℕ) → World → Result (Plan × World) Cause
  generate_does command (path ∷ text ∷ options) w = if are_paired options then generated path text options w else wrong_words command
  generate_does command words w = wrong_words command
