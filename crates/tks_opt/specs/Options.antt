-- The options of one window (options(n)), as a map with the names of its class.
use Rattle.std.specs.Prelude.{◌≡◌, ℕ, Bool, true, false, ◌&&◌, is_some, if◌then◌else◌, List, [], ◌∷◌, map, Option, Some, None, Result, Ok, Err}
use Rattle.std.specs.List.{AllByRecursion, list_any, zip}
use Rattle.tks_text.specs.Fault.{fault_about}
use Rattle.tks_text.specs.declared.class.Class.{Class}
use Rattle.tks_text.specs.declared.fault.ErrorNumber.TheVariants.{UnknownOption, BadValue}
use Rattle.tks_text.specs.declared.fault.ScriptFault.{ScriptFault}
use Rattle.tks_opt.specs.Table.{option_named, options_of, accepts, first_value}
use Rattle.tks_opt.specs.declared.name.OptionName.{OptionName}
use Rattle.tks_opt.specs.contracts.name.OptionName.{the_type}
use denote.Enum.Bare.{sameb}

-- the class of the window, and the value of each of its options, in the table's order
pub record Options : Type 0 where
  pub class : Class
  pub values : List (OptionName × List ℕ)

abbrev pub first_options : Class → List ℕ → Options
first_options c path = record { class = c; values = map (λ o. (o, first_value c path o)) (options_of c) }

-- the names are those of the class, in the table's order, and each value is one that its option may have
pub record Legal (t : Options) : Type 0 where
  pub names : map (λ e. e.0) t.values ≡ options_of t.class
  pub accepted : AllByRecursion (λ e. accepts t.class e.0 e.1 ≡ true) t.values

-- whether two are the same option
abbrev pub same_name : OptionName → OptionName → Bool
same_name = sameb the_type

-- Reading.

abbrev pub value_in : List (OptionName × List ℕ) → OptionName → Option (List ℕ)
value_in [] o = None
value_in (e ∷ values) o = if same_name o e.0 then Some e.1 else value_in values o

-- whether windows of a class have an option
abbrev pub has_option : Class → OptionName → Bool
has_option c o = list_any (same_name o) (options_of c)

-- the value that a text names, where the window has such an option
abbrev pub named_value : List (OptionName × List ℕ) → Option OptionName → Option (List ℕ)
named_value values None = None
named_value values (Some o) = value_in values o

abbrev pub or_unknown : {X : Type 0} → List ℕ → Option X → Result X ScriptFault
or_unknown text None = Err (fault_about UnknownOption text)
or_unknown text (Some x) = Ok x

-- `cget`: the value as it was given
abbrev pub value_of : Options → List ℕ → Result (List ℕ) ScriptFault
value_of t text = or_unknown text (named_value t.values (option_named text))

-- the value of each option, in the table's order
abbrev pub values_in_order : Options → List (List ℕ)
values_in_order t = map (λ e. e.1) t.values

-- Making them again.

-- whether there is a value for each of these options of a class and no further one, and each is one that its option may have
abbrev pub are_values : Class → List OptionName → List (List ℕ) → Bool
are_values c [] [] = true
are_values c [] (value ∷ values) = false
are_values c (o ∷ os) [] = false
are_values c (o ∷ os) (value ∷ values) = accepts c o value && are_values c os values

-- the options of a class with these values, in the table's order, where they are such
abbrev pub restored : Class → List (List ℕ) → Option Options
restored c values = if are_values c (options_of c) values then Some (record { class = c; values = zip (options_of c) values }) else None

-- Writing.

abbrev pub replaced : List (OptionName × List ℕ) → OptionName → List ℕ → List (OptionName × List ℕ)
replaced [] o value = []
replaced (e ∷ values) o value = if same_name o e.0 then (e.0, value) ∷ values else e ∷ replaced values o value

-- the option that a text names, where the window has it
abbrev pub had : List (OptionName × List ℕ) → Option OptionName → Option OptionName
had values None = None
had values (Some o) = if is_some (value_in values o) then Some o else None

abbrev pub after : {X Y : Type 0} → Result X ScriptFault → (X → Result Y ScriptFault) → Result Y ScriptFault
after (Ok x) next = next x
after (Err fault) next = Err fault

abbrev pub accepted_as : Options → List ℕ → List ℕ → OptionName → Result Options ScriptFault
accepted_as t text value o =
    if accepts t.class o value then Ok (record t { values = replaced t.values o value }) else Err (fault_about BadValue text)

-- the options after the one that a text names was given a value
abbrev pub with_value : Options → List ℕ → List ℕ → Result Options ScriptFault
with_value t text value = after (or_unknown text (had t.values (option_named text))) (accepted_as t text value)

-- `configure`: pairs of names and values, from left to right; a last name without a value is passed over
abbrev pub configured : Options → List (List ℕ) → Result Options ScriptFault
configured t [] = Ok t
configured t (text ∷ []) = Ok t
configured t (text ∷ value ∷ pairs) = after (with_value t text value) (λ u. configured u pairs)
