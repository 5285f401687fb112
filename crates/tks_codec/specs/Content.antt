-- What a window holds besides its options, as bytes (this project's own format): an entry its text and its cursor, a listbox
-- its items, a text widget its characters, tags and marks, the others nothing.
use Rattle.std.specs.Prelude.{ℕ, List, []}
use Rattle.tks_text.specs.declared.class.Class.{Class}
use Rattle.tks_text.specs.declared.class.Class.TheVariants as class
use Rattle.tks_opt.specs.Options.{Options}
use Rattle.tks_entry.specs.Entry.{Entry}
use Rattle.tks_listbox.specs.Listbox.{Listbox}
use Rattle.tks_lines.specs.Lines.{Lines}
use Rattle.tks_spelling.specs.Spelling.{Read, Spelling, through, no_bytes}
use Rattle.tks_codec_windows.specs.Entry.{entry}
use Rattle.tks_codec_windows.specs.Listbox.{listbox}
use Rattle.tks_codec_windows.specs.Lines.{lines}
use Rattle.tks_state.specs.declared.widget.Widget.{Widget}
use Rattle.tks_state.specs.declared.widget.Widget.TheVariants as widget

-- ---- what a widget of a kind is, where it is one of them; else one that holds nothing

abbrev pub entry_in : Widget → Entry
entry_in (widget.Frame o) = record { options = o; text = []; cursor = 0 }
entry_in (widget.Caption o) = record { options = o; text = []; cursor = 0 }
entry_in (widget.Entry e) = e
entry_in (widget.Listbox l) = record { options = l.options; text = []; cursor = 0 }
entry_in (widget.Text t) = record { options = t.options; text = []; cursor = 0 }

abbrev pub listbox_in : Widget → Listbox
listbox_in (widget.Frame o) = record { options = o; items = []; active = 0 }
listbox_in (widget.Caption o) = record { options = o; items = []; active = 0 }
listbox_in (widget.Entry e) = record { options = e.options; items = []; active = 0 }
listbox_in (widget.Listbox l) = l
listbox_in (widget.Text t) = record { options = t.options; items = []; active = 0 }

abbrev pub lines_in : Widget → Lines
lines_in (widget.Frame o) = record { options = o; text = []; tags = []; marks = [] }
lines_in (widget.Caption o) = record { options = o; text = []; tags = []; marks = [] }
lines_in (widget.Entry e) = record { options = e.options; text = []; tags = []; marks = [] }
lines_in (widget.Listbox l) = record { options = l.options; text = []; tags = []; marks = [] }
lines_in (widget.Text t) = t

-- ---- spellings

-- a widget of a class, with these options
abbrev pub content_by : Class → Options → Spelling Widget
content_by class.Root o = no_bytes (widget.Frame o)
content_by class.Frame o = no_bytes (widget.Frame o)
content_by class.Label o = no_bytes (widget.Caption o)
content_by class.Button o = no_bytes (widget.Caption o)
content_by class.Checkbutton o = no_bytes (widget.Caption o)
content_by class.Entry o = through entry_in (λ e. widget.Entry e) (entry o)
content_by class.Listbox o = through listbox_in (λ l. widget.Listbox l) (listbox o)
content_by class.Text o = through lines_in (λ t. widget.Text t) (lines o)

-- a widget with these options
abbrev pub content : Options → Spelling Widget
content o = content_by o.class o

-- the widget at the front of bytes, and what stands behind it
unfoldable pub content_at : Options → List ℕ → Read Widget
content_at o bytes = (content o).read bytes
