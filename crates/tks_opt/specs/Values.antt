-- What values of options spell (options(n), pack(n)); sizes, and what is told of no value, are this
-- project's own.
use Rattle.std.specs.Prelude.{ℕ, Bool, true, false, ◌&&◌, ◌==◌, not, nat_le, if◌then◌else◌, List, [], ◌∷◌, ℤ, pos, negsuc, Option, Some, None, Result, Ok, Err, codes}
use Rattle.tks_text.specs.Text.{same_text}
use Rattle.tks_text.specs.Integer.{integer_of}
use Rattle.tks_text.specs.Truth.{truth_of_word}
use Rattle.tks_text.specs.declared.integer.Range.{Range}
use Rattle.tks_opt.specs.declared.anchor.Anchor.{Anchor}
use Rattle.tks_opt.specs.declared.anchor.Anchor.TheVariants as anchor
use Rattle.tks_opt.specs.declared.state.State.{State}
use Rattle.tks_opt.specs.declared.state.State.TheVariants as state

-- the first name that a text is, in a table of names
abbrev pub named_in : {X : Type 0} → List (List ℕ × X) → List ℕ → Option X
named_in [] text = None
named_in (row ∷ rows) text = if same_text text row.0 then Some row.1 else named_in rows text

-- an integer from least to most
abbrev pub number_among : ℕ → ℕ → Result (Option ℤ) Range → Option ℕ
number_among least most (Err out) = None
number_among least most (Ok None) = None
number_among least most (Ok (Some (negsuc n))) = None
number_among least most (Ok (Some (pos n))) = if nat_le least n && nat_le n most then Some n else None

-- the integer that a text spells, where it lies from least to most
abbrev pub number_within : ℕ → ℕ → List ℕ → Option ℕ
number_within least most text = number_among least most (integer_of text)

-- an integer is true where it isn't 0
abbrev pub truth_of_integer : Result (Option ℤ) Range → Option Bool
truth_of_integer (Err out) = None
truth_of_integer (Ok None) = None
truth_of_integer (Ok (Some (negsuc n))) = Some true
truth_of_integer (Ok (Some (pos n))) = Some (not (n == 0))

abbrev pub or_else : {X : Type 0} → Option X → Option X → Option X
or_else None other = other
or_else (Some x) other = Some x

-- the truth value that a text spells: one of six words, or an integer
abbrev pub boolean : List ℕ → Option Bool
boolean text = or_else (truth_of_word text) (truth_of_integer (integer_of text))

-- where something is put in what is larger
abbrev pub anchors : List (List ℕ × Anchor)
anchors =
    (codes "center", anchor.Center) ∷ (codes "n", anchor.North) ∷ (codes "ne", anchor.NorthEast) ∷ (codes "e", anchor.East) ∷ (codes "se", anchor.SouthEast)
    ∷ (codes "s", anchor.South) ∷ (codes "sw", anchor.SouthWest) ∷ (codes "w", anchor.West) ∷ (codes "nw", anchor.NorthWest) ∷ []

abbrev pub anchor_named : List ℕ → Option Anchor
anchor_named text = named_in anchors text

abbrev pub states : List (List ℕ × State)
states = (codes "normal", state.Normal) ∷ (codes "active", state.Active) ∷ (codes "disabled", state.Disabled) ∷ (codes "readonly", state.ReadOnly) ∷ []

abbrev pub state_named : List ℕ → Option State
state_named text = named_in states text

-- is it the state in which scripts may change what a widget holds?
abbrev pub is_normal : Option State → Bool
is_normal None = false
is_normal (Some state.Normal) = true
is_normal (Some state.Active) = false
is_normal (Some state.Disabled) = false
is_normal (Some state.ReadOnly) = false
