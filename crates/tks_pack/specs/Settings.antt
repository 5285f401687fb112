-- The options of pack (pack(n)) and what their words stand for. That only whole words stand for sides and
-- fills is this project's own rule.
use Rattle.std.specs.Prelude.{ℕ, false, codes, List, [], ◌∷◌, Option, Some, None, option_map, Result, Ok, Err}
use Rattle.tks_text.specs.Fault.{fault_about}
use Rattle.tks_text.specs.declared.fault.ErrorNumber.TheVariants.{UnknownOption, BadValue}
use Rattle.tks_text.specs.declared.fault.ScriptFault.{ScriptFault}
use Rattle.tks_opt.specs.Values.{named_in, number_within, boolean, anchor_named}
use Rattle.tks_opt.specs.declared.anchor.Anchor.TheVariants as anchor
use Rattle.tks_pack.specs.Padding.{max_padding}
use Rattle.tks_pack.specs.declared.settings.Settings.{Settings}
use Rattle.tks_pack.specs.declared.options.PackOption.{PackOption}
use Rattle.tks_pack.specs.declared.options.PackOption.TheVariants as option
use Rattle.tks_pack.specs.declared.settings.Side.{Side}
use Rattle.tks_pack.specs.declared.settings.Side.TheVariants as side
use Rattle.tks_pack.specs.declared.settings.Fill.{Fill}
use Rattle.tks_pack.specs.declared.settings.Fill.TheVariants as fill

-- the values of options that aren't given
abbrev pub default_settings : Settings
default_settings =
    record { side = side.Top; fill = fill.Neither; expand = false; anchor = anchor.Center; padx = 0; pady = 0; ipadx = 0; ipady = 0 }

-- ---- what words stand for

abbrev pub sides : List (List ℕ × Side)
sides = (codes "top", side.Top) ∷ (codes "bottom", side.Bottom) ∷ (codes "left", side.Left) ∷ (codes "right", side.Right) ∷ []

abbrev pub side_of : List ℕ → Option Side
side_of text = named_in sides text

abbrev pub fills : List (List ℕ × Fill)
fills = (codes "none", fill.Neither) ∷ (codes "x", fill.X) ∷ (codes "y", fill.Y) ∷ (codes "both", fill.Both) ∷ []

abbrev pub fill_of : List ℕ → Option Fill
fill_of text = named_in fills text

abbrev pub padding_of : List ℕ → Option ℕ
padding_of text = number_within 0 max_padding text

-- ---- options

abbrev pub options : List (List ℕ × PackOption)
options =
    (codes "-side", option.Side) ∷ (codes "-fill", option.Fill) ∷ (codes "-expand", option.Expand) ∷ (codes "-anchor", option.Anchor)
    ∷ (codes "-padx", option.PadX) ∷ (codes "-pady", option.PadY) ∷ (codes "-ipadx", option.InnerPadX) ∷ (codes "-ipady", option.InnerPadY) ∷ []

-- the option of this name
abbrev pub option_of : List ℕ → Option PackOption
option_of text = named_in options text

-- the settings with an option's value changed, where it may have this one
abbrev pub changed : Settings → PackOption → List ℕ → Option Settings
changed p option.Side value = option_map (λ x. record p { side = x }) (side_of value)
changed p option.Fill value = option_map (λ x. record p { fill = x }) (fill_of value)
changed p option.Expand value = option_map (λ x. record p { expand = x }) (boolean value)
changed p option.Anchor value = option_map (λ x. record p { anchor = x }) (anchor_named value)
changed p option.PadX value = option_map (λ x. record p { padx = x }) (padding_of value)
changed p option.PadY value = option_map (λ x. record p { pady = x }) (padding_of value)
changed p option.InnerPadX value = option_map (λ x. record p { ipadx = x }) (padding_of value)
changed p option.InnerPadY value = option_map (λ x. record p { ipady = x }) (padding_of value)

-- what an option's change comes to
abbrev pub or_bad_value : List ℕ → Option Settings → Result Settings ScriptFault
or_bad_value name None = Err (fault_about BadValue name)
or_bad_value name (Some p) = Ok p

abbrev pub of_option : Settings → List ℕ → Option PackOption → List ℕ → Result Settings ScriptFault
of_option p name None value = Err (fault_about UnknownOption name)
of_option p name (Some o) value = or_bad_value name (changed p o value)

-- the settings with the option of this name changed
abbrev pub with_option : Settings → List ℕ → List ℕ → Result Settings ScriptFault
with_option p name value = of_option p name (option_of name) value

-- what follows
abbrev pub after : {X Y : Type 0} → Result X ScriptFault → (X → Result Y ScriptFault) → Result Y ScriptFault
after (Ok x) next = next x
after (Err fault) next = Err fault

-- the settings behind options and values in turn; behind a last option without a value the empty text is
-- meant, which no option takes
abbrev pub with_options : Settings → List (List ℕ) → Result Settings ScriptFault
with_options p [] = Ok p
with_options p (name ∷ []) = with_option p name []
with_options p (name ∷ value ∷ rest) = after (with_option p name value) (λ q. with_options q rest)
