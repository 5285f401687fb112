-- Percent substitution (bind(n), "Binding scripts and substitutions"; in what form values are put in, and what stands for
-- a field that an event lacks, are this project's own rules).
use Rattle.std.specs.Prelude.{ℕ, ◌==◌, Bool, true, false, ◌||◌, if◌then◌else◌, List, [], ◌∷◌, ◌++◌, length, nat_le, nat_lt, Option, Some, None, codes, decimal}
use Rattle.std.specs.Fmt.{signed_decimal}
use Rattle.tks_list.specs.Quoting.{backslashed}
use Rattle.tks_event.specs.Kinds.{is_of_button, is_of_key, is_virtual}
use Rattle.tks_event.specs.Keysyms.{keysym_char}
use Rattle.tks_event.specs.Event.{Event}
use Rattle.tks_event.specs.declared.kind.Kind.{Kind}
use Rattle.tks_bind.specs.declared.field.Field.{Field}
use Rattle.tks_bind.specs.declared.field.Field.TheVariants as field

-- the field that a letter names behind a percent sign: A d K W b s t x y X Y
abbrev pub field_named : ℕ → Option Field
field_named c =
    if c == 65 then Some field.Character
    else (if c == 100 then Some field.Data
    else (if c == 75 then Some field.Keysym
    else (if c == 87 then Some field.Window
    else (if c == 98 then Some field.Button
    else (if c == 115 then Some field.State
    else (if c == 116 then Some field.Time
    else (if c == 120 then Some field.Column
    else (if c == 121 then Some field.Row
    else (if c == 88 then Some field.RootColumn
    else (if c == 89 then Some field.RootRow
    else None))))))))))

-- which fields events of a kind have
abbrev pub has_field : Kind → Field → Bool
has_field k field.Window = true
has_field k field.Character = is_of_key k
has_field k field.Keysym = is_of_key k
has_field k field.Button = is_of_button k
has_field k field.Data = is_virtual k
has_field k field.State = is_of_key k || (is_of_button k || is_virtual k)
has_field k field.Time = is_of_key k || (is_of_button k || is_virtual k)
has_field k field.Column = is_of_button k || is_virtual k
has_field k field.Row = is_of_button k || is_virtual k
has_field k field.RootColumn = is_of_button k || is_virtual k
has_field k field.RootRow = is_of_button k || is_virtual k

-- a character, or the empty text
abbrev pub char_text : Option ℕ → List ℕ
char_text None = []
char_text (Some c) = c ∷ []

-- the value of a field, where the event's window has this path
abbrev pub field_text : Event → List ℕ → Field → List ℕ
field_text e path field.Window = path
field_text e path field.Character = char_text (keysym_char e.detail)
field_text e path field.Keysym = e.detail
field_text e path field.Button = e.detail
field_text e path field.Data = e.payload
field_text e path field.State = decimal e.state
field_text e path field.Time = decimal e.time
field_text e path field.Column = signed_decimal e.x
field_text e path field.Row = signed_decimal e.y
field_text e path field.RootColumn = signed_decimal e.root_x
field_text e path field.RootRow = signed_decimal e.root_y

-- what is put in for a field: its value in backslash form, or `??`
abbrev pub value : Event → List ℕ → Field → List ℕ
value e path f = if has_field e.kind f then backslashed (field_text e path f) else codes "??"

abbrev pub named_value : Event → List ℕ → ℕ → Option Field → List ℕ
named_value e path c None = 37 ∷ c ∷ []
named_value e path c (Some f) = value e path f

-- what a percent sign and a character stand for: `%%` for one percent sign, a field's value, or themselves
abbrev pub formed : Event → List ℕ → ℕ → List ℕ
formed e path c = if c == 37 then 37 ∷ [] else named_value e path c (field_named c)

-- a script with each form replaced; one that begins behind a percent sign, or not
abbrev pub replaced : Event → List ℕ → Bool → List ℕ → List ℕ
replaced e path false [] = []
replaced e path true [] = 37 ∷ []
replaced e path false (c ∷ script) = if c == 37 then replaced e path true script else c ∷ replaced e path false script
replaced e path true (c ∷ script) = formed e path c ++ replaced e path false script

abbrev pub percents : Event → List ℕ → List ℕ → List ℕ
percents e path script = replaced e path false script

-- a text that is no longer than this, where there is a bound
abbrev pub held_to : Option ℕ → List ℕ → Option (List ℕ)
held_to None text = Some text
held_to (Some most) text = if nat_le (length text) most then Some text else None

-- is it longer than that?
abbrev pub is_over : Option ℕ → List ℕ → Bool
is_over None text = false
is_over (Some most) text = nat_lt most (length text)
