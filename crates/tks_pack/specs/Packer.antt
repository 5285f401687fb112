-- The packer along one axis (pack(n), "The packer algorithm"): the cavity, each content's parcel, what an
-- expanding one gets beyond what it asks for, and the window's place in its parcel. Lengths are numbers of cells,
-- and a difference stops at 0. That is exact: of a length below 0 the manual's rule would make a quotient of at most
-- 0, which counts as 0, and what is taken from such a length leaves it below 0.
use Rattle.std.specs.Prelude.{ℕ, ◌+◌, ◌-◌, ◌*◌, ◌/◌, ◌==◌, min, max, if◌then◌else◌, List, [], ◌∷◌, Option, Some, None}
use Rattle.tks_opt.specs.Alignment.{gap}
use Rattle.tks_pack.specs.declared.line.Span.{Span}
use Rattle.tks_pack.specs.declared.stretch.Edge.{Edge}
use Rattle.tks_pack.specs.declared.stretch.Edge.TheVariants as edge
use Rattle.tks_pack.specs.declared.stretch.Stretch.{Stretch}
use Rattle.tks_pack.specs.Stretch.{lies_along, takes_share, inner, outer}

-- ---- shares

-- one where the content expands
abbrev pub more : Stretch → ℕ
more s = if s.expands then 1 else 0

-- Let n contents expand, and r be what is left of the cavity behind them. Each later content that lies along
-- the axis takes its part of r, and is one more to share it if it expands. At each that takes the whole length,
-- what is left beside it is shared by those before it; at the end, what is left is. The least of these quotients.
abbrev pub least : ℕ → ℕ → List Stretch → ℕ
least r n [] = r / n
least r n (s ∷ rest) =
    if lies_along s.edge then least (r - outer s) (n + more s) rest
    else min ((r - outer s) / n) (least r n rest)

-- what a content gets beyond what it asks for, in a cavity of length r and before the rest
abbrev pub share : ℕ → Stretch → List Stretch → ℕ
share r s rest = if takes_share s then least (r - outer s) 1 rest else 0

abbrev pub first_share : ℕ → List Stretch → ℕ
first_share r [] = 0
first_share r (s ∷ rest) = share r s rest

-- ---- parcels

-- the length of the parcel of a content that lies along the axis
abbrev pub parcel_length : ℕ → Stretch → List Stretch → ℕ
parcel_length r s rest = min r (outer s + share r s rest)

-- the parcel: so much of the cavity at its edge, or all of it
abbrev pub parcel_at : Edge → ℕ → Span → Span
parcel_at edge.Start l cavity = record { start = cavity.start; length = l }
parcel_at edge.End l cavity = record { start = cavity.start + (cavity.length - l); length = l }
parcel_at edge.Neither l cavity = cavity

-- the cavity without the parcel
abbrev pub behind : Edge → ℕ → Span → Span
behind edge.Start l cavity = record { start = cavity.start + l; length = cavity.length - l }
behind edge.End l cavity = record { start = cavity.start; length = cavity.length - l }
behind edge.Neither l cavity = cavity

-- ---- windows in their parcels

-- the window's length in so much room: all of it where the window fills it, else what it asks for, if there is so much
abbrev pub shown_length : Stretch → ℕ → ℕ
shown_length s room = if s.fills then room else min (inner s) room

abbrev pub in_room : Stretch → ℕ → ℕ → ℕ → Option Span
in_room s start room length =
    if length == 0 then None
    else Some (record { start = start + s.padding + gap s.alignment (room - length); length = length })

-- the window's place in its parcel, within its padding; none where it would have no cell
abbrev pub within : Stretch → Span → Option Span
within s parcel =
    let room = parcel.length - 2 * s.padding in
    in_room s parcel.start room (shown_length s room)

-- the windows' places in a cavity
abbrev pub spans : Span → List Stretch → List (Option Span)
spans cavity [] = []
spans cavity (s ∷ rest) =
    let l = parcel_length cavity.length s rest in
    within s (parcel_at s.edge l cavity) ∷ spans (behind s.edge l cavity) rest

-- ---- what the contents ask for together

-- what a content and those behind it, which ask for n, ask for
abbrev pub request_before : Stretch → ℕ → ℕ
request_before s n = if lies_along s.edge then outer s + n else max (outer s) n

-- the least length in which each gets what it asks for
abbrev pub request : List Stretch → ℕ
request [] = 0
request (s ∷ rest) = request_before s (request rest)
