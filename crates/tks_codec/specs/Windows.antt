-- The windows as bytes (this project's own format): lines, in the order in which the windows were made.
use Rattle.std.specs.Prelude.{◌≡◌, ℕ, ◌+◌, Bool, is_some, List, [], ◌∷◌, length, map, Option, Some, None}
use Rattle.std.specs.BTreeMap.{BTreeMap, get}
use Rattle.std.specs.Ordering.{nat_cmp}
use Rattle.tks_tree.specs.Windows as tree
use Rattle.tks_pack.specs.Packing.{Packed}
use Rattle.tks_pack.specs.declared.settings.Settings.{Settings}
use Rattle.tks_spelling.specs.Spelling.{Read, Spelling, such_that, through, list}
use Rattle.tks_codec_windows.specs.Places.{packed_as, placed}
use Rattle.tks_state.specs.Restoring.{kept_of_parts}
use Rattle.tks_state.specs.Windows.{Windows, first_windows}
use Rattle.tks_state.specs.declared.kept.Kept.{Kept}
use Rattle.tks_state.specs.declared.restoring.WindowParts.{WindowParts}
use Rattle.tks_codec.specs.Line.{line, line_with}
use Rattle.tks_codec.specs.declared.line.Line.{Line}
use Rattle.tks_codec.specs.declared.windows.Held.{Held}
use Rattle.tks_codec.specs.declared.windows.WindowsRead.{WindowsRead}

-- ---- lines of windows

abbrev pub packings_of : List Kept → List Packed
packings_of kept = map (λ k. k.packing) kept

-- the line of a window, among windows that are packed so
abbrev pub line_of : List Packed → tree.Window → Kept → Line
line_of packings w k = line_with w k (packed_as packings w.number)

abbrev pub lines_from : List Packed → List tree.Window → List Kept → List Line
lines_from packings [] kept = []
lines_from packings (w ∷ windows) [] = []
lines_from packings (w ∷ windows) (k ∷ kept) = line_of packings w k ∷ lines_from packings windows kept

-- one for each window
abbrev pub lines_of : Windows → List Line
lines_of x = lines_from (packings_of x.kept) x.tree.windows x.kept

-- how many windows are packed in windows
abbrev pub packed_count : List Kept → ℕ
packed_count [] = 0
packed_count (k ∷ kept) = length k.packing.contents + packed_count kept

-- a map has how each window is packed, by its number
abbrev pub ArePacked : BTreeMap ℕ Settings → List Kept → Type 0
ArePacked packed kept = (n : ℕ) → get nat_cmp packed n ≡ packed_as (packings_of kept) n

-- ---- windows of lines

-- what is kept of the window of a line that is packed in so
abbrev pub kept_of : Line → Packed → Kept
kept_of l p = record { window = l.place.window; widget = l.widget; tags = l.tags; packing = p }

abbrev pub kept_from : List Line → List Packed → List Kept
kept_from [] packings = []
kept_from (l ∷ lines) [] = []
kept_from (l ∷ lines) (p ∷ packings) = kept_of l p ∷ kept_from lines packings

abbrev pub with_kept : List Line → Option (tree.Windows × List Packed) → Option Windows
with_kept lines None = None
with_kept lines (Some x) = Some (record { tree = x.0; kept = kept_from lines x.1 })

-- the windows that lines are, with this number for the next one; none where they are none
abbrev pub windows_made : ℕ → List Line → Option Windows
windows_made next lines = with_kept lines (placed next (map (λ l. l.place) lines))

-- ---- spellings

abbrev pub are_windows : ℕ → List Line → Bool
are_windows next lines = is_some (windows_made next lines)

abbrev pub or_first : Option Windows → Windows
or_first None = first_windows
or_first (Some x) = x

-- windows, given the number of the next one
abbrev pub windows : ℕ → Spelling Windows
windows next = through lines_of (λ lines. or_first (windows_made next lines)) (such_that (are_windows next) (list line))

-- those at the front of bytes, and what stands behind them
unfoldable pub windows_at : ℕ → List ℕ → Read Windows
windows_at next bytes = (windows next).read bytes

-- ---- how the code keeps those that were read

-- what there is of a window besides its place
abbrev pub held_of : Line → Held
held_of l = record { widget = l.widget; tags = l.tags }

abbrev pub part_of : Held → Packed → WindowParts
part_of h p = record { widget = h.widget; tags = h.tags; packing = p }

abbrev pub parts_from : List Held → List Packed → List WindowParts
parts_from [] packings = []
parts_from (h ∷ held) [] = []
parts_from (h ∷ held) (p ∷ packings) = part_of h p ∷ parts_from held packings

abbrev pub windows_seen : WindowsRead → Windows
windows_seen x = record { tree = x.tree; kept = kept_of_parts x.tree.windows x.parts.items }
