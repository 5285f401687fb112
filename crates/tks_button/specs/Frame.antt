-- What a frame asks for and shows (frame(n)); `.` is one too, of a class of its own.
use Rattle.std.specs.Prelude.{ℕ, Bool, true, false, if◌then◌else◌, List, Option, Some, None}
use Rattle.tks_text.specs.declared.class.Class.{Class}
use Rattle.tks_text.specs.declared.class.Class.TheVariants as class
use Rattle.tks_opt.specs.Cells.{space, rows}
use Rattle.tks_opt.specs.Options.{Options}
use Rattle.tks_opt.specs.declared.name.OptionName.TheVariants as name
use Rattle.tks_button.specs.Sizes.{size_of}

-- the classes whose windows are frames
abbrev pub is_frame : Class → Bool
is_frame class.Root = true
is_frame class.Frame = true
is_frame c = false

-- the frame that has these options, where their class is a frame's
abbrev pub restored : Options → Option Options
restored t = if is_frame t.class then Some t else None

abbrev pub requested_width : Options → ℕ
requested_width t = size_of t name.Width

abbrev pub requested_height : Options → ℕ
requested_height t = size_of t name.Height

-- the rows of its area: spaces
abbrev pub shown : ℕ → ℕ → List (List ℕ)
shown width height = rows (λ _ _. space) width height
