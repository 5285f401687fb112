-- How a window is packed, as bytes (this project's own format).
use Rattle.std.specs.Prelude.{ℕ, Bool, nat_le, is_some, List, [], ◌∷◌, Option, Some, None}
use Rattle.std.specs.Int.{w16}
use Rattle.tks_opt.specs.Numbers.{anchor_number, anchor_numbered}
use Rattle.tks_opt.specs.declared.anchor.Anchor.{Anchor}
use Rattle.tks_opt.specs.declared.anchor.Anchor.TheVariants.{Center}
use Rattle.tks_pack.specs.Numbers.{side_number, side_numbered, fill_number, fill_numbered}
use Rattle.tks_pack.specs.Padding.{max_padding}
use Rattle.tks_pack.specs.declared.settings.Side.{Side}
use Rattle.tks_pack.specs.declared.settings.Side.TheVariants.{Top}
use Rattle.tks_pack.specs.declared.settings.Fill.{Fill}
use Rattle.tks_pack.specs.declared.settings.Fill.TheVariants.{Neither}
use Rattle.tks_pack.specs.declared.settings.Settings.{Settings}
use Rattle.tks_spelling.specs.Spelling.{Read, Spelling, byte, number, flag, such_that, field, through, option}

abbrev pub or_first : {X : Type 0} → X → Option X → X
or_first first None = first
or_first first (Some x) = x

-- ---- names by their numbers

abbrev pub is_side : ℕ → Bool
is_side number = is_some (side_numbered number)

-- a side
abbrev pub side : Spelling Side
side = through side_number (λ number. or_first Top (side_numbered number)) (such_that is_side byte)

abbrev pub is_fill : ℕ → Bool
is_fill number = is_some (fill_numbered number)

-- a way of filling
abbrev pub fill : Spelling Fill
fill = through fill_number (λ number. or_first Neither (fill_numbered number)) (such_that is_fill byte)

abbrev pub is_anchor : ℕ → Bool
is_anchor number = is_some (anchor_numbered number)

-- an anchor
abbrev pub anchor : Spelling Anchor
anchor = through anchor_number (λ number. or_first Center (anchor_numbered number)) (such_that is_anchor byte)

-- ---- settings

abbrev pub is_padding : ℕ → Bool
is_padding cells = nat_le cells max_padding

-- a padding
abbrev pub padding : Spelling ℕ
padding = such_that is_padding (number w16)

-- side, fill, expand, anchor, paddings outside and inside
abbrev pub settings : Spelling Settings
settings =
    field (λ p. p.side) side (λ s.
    field (λ p. p.fill) fill (λ f.
    field (λ p. p.expand) flag (λ expand.
    field (λ p. p.anchor) anchor (λ a.
    field (λ p. p.padx) padding (λ padx.
    field (λ p. p.pady) padding (λ pady.
    field (λ p. p.ipadx) padding (λ ipadx.
    through (λ p. p.ipady) (λ ipady. record { side = s; fill = f; expand = expand; anchor = a; padx = padx; pady = pady; ipadx = ipadx; ipady = ipady }) padding)))))))

-- the spellings of its parts
abbrev pub settings_parts : Settings → List (List ℕ)
settings_parts p =
    side.write p.side ∷ fill.write p.fill ∷ flag.write p.expand ∷ anchor.write p.anchor
    ∷ padding.write p.padx ∷ padding.write p.pady ∷ padding.write p.ipadx ∷ padding.write p.ipady ∷ []

-- the settings at the front of bytes, and what stands behind them
unfoldable pub settings_at : List ℕ → Read Settings
settings_at bytes = settings.read bytes

-- how a window is packed, if it is
abbrev pub packing : Spelling (Option Settings)
packing = option settings

-- the same at the front of bytes, and what stands behind it
unfoldable pub packing_at : List ℕ → Read (Option Settings)
packing_at bytes = packing.read bytes
