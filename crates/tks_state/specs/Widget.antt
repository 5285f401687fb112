-- What a window of any class asks for, shows and answers (frame(n), label(n), button(n), checkbutton(n), entry(n),
-- listbox(n), text(n)): that of its class.
use Rattle.std.specs.Prelude.{ℕ, Bool, true, false, List, Result, Ok}
use Rattle.tks_text.specs.declared.class.Class.{Class}
use Rattle.tks_text.specs.declared.fault.ScriptFault.{ScriptFault}
use Rattle.tks_opt.specs.Options as options
use Rattle.tks_opt.specs.Options.{Options, after}
use Rattle.tks_opt.specs.Calls as call
use Rattle.tks_opt.specs.declared.said.Said.{Said}
use Rattle.tks_pack.specs.Packing.{capped}
use Rattle.tks_pack.specs.declared.area.Extent.{Extent}
use Rattle.tks_button.specs.Caption as caption
use Rattle.tks_button.specs.Frame as frame
use Rattle.tks_entry.specs.Commands as entry
use Rattle.tks_entry.specs.Shown as entry_shown
use Rattle.tks_listbox.specs.Commands as listbox
use Rattle.tks_listbox.specs.Shown as listbox_shown
use Rattle.tks_lines.specs.Commands as lines
use Rattle.tks_lines.specs.Shown as lines_shown
use Rattle.tks_state.specs.declared.widget.Widget.{Widget}
use Rattle.tks_state.specs.declared.widget.Widget.TheVariants as widget

abbrev pub options_of : Widget → Options
options_of (widget.Frame t) = t
options_of (widget.Caption t) = t
options_of (widget.Entry e) = e.options
options_of (widget.Listbox l) = l.options
options_of (widget.Text t) = t.options

abbrev pub class_of : Widget → Class
class_of w = (options_of w).class

-- options and values in turn
abbrev pub configured : Widget → List (List ℕ) → Result Widget ScriptFault
configured (widget.Frame t) pairs = after (options.configured t pairs) (λ u. Ok (widget.Frame u))
configured (widget.Caption t) pairs = after (options.configured t pairs) (λ u. Ok (widget.Caption u))
configured (widget.Entry e) pairs = after (options.configured e.options pairs) (λ u. Ok (widget.Entry (record e { options = u })))
configured (widget.Listbox l) pairs = after (options.configured l.options pairs) (λ u. Ok (widget.Listbox (record l { options = u })))
configured (widget.Text t) pairs = after (options.configured t.options pairs) (λ u. Ok (widget.Text (record t { options = u })))

-- the words of a whole command, the window's path first: the answer, and the widget that is left
abbrev pub called : Widget → List (List ℕ) → Result (Said × Widget) ScriptFault
called (widget.Frame t) words = after (call.called t words) (λ x. Ok (x.0, widget.Frame x.1))
called (widget.Caption t) words = after (caption.called t words) (λ x. Ok (x.0, widget.Caption x.1))
called (widget.Entry e) words = after (entry.called e words) (λ x. Ok (x.0, widget.Entry x.1))
called (widget.Listbox l) words = after (listbox.called l words) (λ x. Ok (x.0, widget.Listbox x.1))
called (widget.Text t) words = after (lines.called t words) (λ x. Ok (x.0, widget.Text x.1))

-- whether it neither shows a global nor sets one: its class has no option for that
abbrev pub stands_alone : Widget → Bool
stands_alone (widget.Frame t) = true
stands_alone (widget.Caption t) = false
stands_alone (widget.Entry e) = false
stands_alone (widget.Listbox l) = true
stands_alone (widget.Text t) = true

-- how large it asks to be
abbrev pub requested : Widget → Extent
requested (widget.Frame t) = record { width = capped (frame.requested_width t); height = capped (frame.requested_height t) }
requested (widget.Caption t) = record { width = capped (caption.requested_width t); height = capped (caption.requested_height t) }
requested (widget.Entry e) = record { width = capped (entry_shown.requested_width e); height = 1 }
requested (widget.Listbox l) = record { width = capped (listbox_shown.requested_width l); height = capped (listbox_shown.requested_height l) }
requested (widget.Text t) = record { width = capped (lines_shown.requested_width t); height = capped (lines_shown.requested_height t) }

-- the rows of characters that it shows in an area of so many cells; a checkbutton by whether it is on
abbrev pub shown : Widget → Bool → ℕ → ℕ → List (List ℕ)
shown (widget.Frame t) on width height = frame.shown width height
shown (widget.Caption t) on width height = caption.shown t width height on
shown (widget.Entry e) on width height = entry_shown.shown e width height
shown (widget.Listbox l) on width height = listbox_shown.shown l width height
shown (widget.Text t) on width height = lines_shown.shown t width height
