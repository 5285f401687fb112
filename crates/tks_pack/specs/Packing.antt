-- The packed contents of a container (pack(n)): in which order, how each is packed, the cells that each gets,
-- and how large the container asks to be.
use Rattle.std.specs.Prelude.{ℕ, ◌==◌, ◌-◌, ◌^◌, min, Bool, true, if◌then◌else◌, List, [], ◌∷◌, map, Option, Some, None, Result, Ok, Err}
use Rattle.tks_text.specs.declared.fault.ErrorNumber.TheVariants.{NotAllowedOnRoot}
use Rattle.tks_text.specs.declared.fault.ScriptFault.{ScriptFault}
use Rattle.tks_pack.specs.declared.area.Area.{Area}
use Rattle.tks_pack.specs.declared.area.Extent.{Extent}
use Rattle.tks_pack.specs.declared.line.Span.{Span}
use Rattle.tks_pack.specs.declared.packing.Content.{Content}
use Rattle.tks_pack.specs.declared.settings.Settings.{Settings}
use Rattle.tks_pack.specs.declared.stretch.Stretch.{Stretch}
use Rattle.tks_pack.specs.Packer.{spans, request}
use Rattle.tks_pack.specs.Settings.{default_settings, after, with_options}
use Rattle.tks_pack.specs.Stretch.{horizontal, vertical}

-- a container's contents in the order in which they are packed, and whether it asks to be as large as they need
pub record Packed : Type 0 where
  pub contents : List Content
  pub propagates : Bool

abbrev pub nothing_packed : Packed
nothing_packed = record { contents = []; propagates = true }

-- ---- packing and forgetting

-- how a window is packed, or would be if no option were given
abbrev pub settings_of : ℕ → List Content → Settings
settings_of window [] = default_settings
settings_of window (c ∷ rest) = if c.window == window then c.settings else settings_of window rest

-- a window that is packed keeps its place, a new one goes last
abbrev pub put : ℕ → Settings → List Content → List Content
put window p [] = record { window = window; settings = p } ∷ []
put window p (c ∷ rest) = if c.window == window then record { window = window; settings = p } ∷ rest else c ∷ put window p rest

abbrev pub taken_out : ℕ → List Content → List Content
taken_out window [] = []
taken_out window (c ∷ rest) = if c.window == window then rest else c ∷ taken_out window rest

-- a window packed with these options; `.`, number 0, is never packed (this project's own error)
abbrev pub packed : ℕ → List (List ℕ) → Packed → Result Packed ScriptFault
packed window options old =
    if window == 0 then Err (record { number = NotAllowedOnRoot; subject = None })
    else after (with_options (settings_of window old.contents) options)
    (λ p. Ok (record old { contents = put window p old.contents }))

abbrev pub forgotten : ℕ → Packed → Packed
forgotten window old = record old { contents = taken_out window old.contents }

-- ---- places and requests

-- a window's cells by its places along the axes; none where it has no place along one
abbrev pub area : Option Span → Option Span → Option Area
area (Some h) (Some v) = Some (record { x = h.start; y = v.start; width = h.length; height = v.length })
area (Some h) None = None
area None v = None

abbrev pub areas : List (Option Span) → List (Option Span) → List (Option Area)
areas [] vs = []
areas (h ∷ hs) [] = []
areas (h ∷ hs) (v ∷ vs) = area h v ∷ areas hs vs

-- as many cells as are ever told of (this project's own rule; grids have fewer)
abbrev pub capped : ℕ → ℕ
capped n = min n (2 ^ 32 - 1)

module _ (size : ℕ → Extent) where
  -- what the contents ask for along each axis, where each window asks for its size
  abbrev pub horizontals : List Content → List Stretch
  horizontals contents = map (λ c. horizontal c.settings (size c.window)) contents

  abbrev pub verticals : List Content → List Stretch
  verticals contents = map (λ c. vertical c.settings (size c.window)) contents

  -- the cells that each window gets in a container of this size; none where it isn't mapped
  abbrev pub places : Extent → List Content → List (Option Area)
  places cavity contents =
      areas (spans (record { start = 0; length = cavity.width }) (horizontals contents))
      (spans (record { start = 0; length = cavity.height }) (verticals contents))

  -- how large the contents ask the container to be
  abbrev pub request_of : List Content → Extent
  request_of contents = record { width = capped (request (horizontals contents)); height = capped (request (verticals contents)) }

  -- the same, where there are contents, and the container asks for them
  abbrev pub requested : Bool → List Content → Option Extent
  requested propagates [] = None
  requested propagates (c ∷ rest) = if propagates then Some (request_of (c ∷ rest)) else None
